use Rattle.std.proofs.Common.{refl, arith}
use Rattle.std.proofs.lemmas.List.{at_drop_all}
use Rattle.object_code.specs.Known.{ClassIsKnown}
use Rattle.object_code.specs.Listing.{class_text, classes_text}
use Rattle.object_code.proofs.SequentialWrites.{holds_at, parts_at, rests_begin, rests_end, rests_step}
use Rattle.object_code.proofs.listing.put_classes.Goals as goal

pub put_class-requires : goal.put_class-requires
put_class-requires g c = holds_at (ClassIsKnown c.args.names.now) c.args.classes.now c.loop-class.class-index c.class-item.result (omega arith) c.class-item.is c.requires

pub loop-class-init : goal.loop-class-init
loop-class-init g c = rests_begin _ _

pub loop-class-preserved : goal.loop-class-preserved
loop-class-preserved g c =
    rests_step _ _ _ _ _ _ _ c.loop-class.invariant
    (parts_at (classes_text c.args.names.now) (class_text c.args.names.now) c.args.classes.now c.loop-class.class-index c.class-item.result (omega arith) c.class-item.is (λ y ys. refl)) c.put_class.ensures

pub returns : goal.returns
returns g c = rests_end _ _ _ _ c.loop-class.invariant (at_drop_all (classes_text c.args.names.now) c.args.classes.now c.loop-class.class-index (omega arith))
