use Rattle.std.proofs.Common.{refl, arith}
use Rattle.std.proofs.lemmas.List.{at_drop_all}
use Rattle.object_code.specs.Known.{MethodIsKnown}
use Rattle.object_code.specs.Listing.{method_text, methods_text}
use Rattle.object_code.proofs.SequentialWrites.{holds_at, parts_at, rests_begin, rests_end, rests_step}
use Rattle.object_code.proofs.listing.put_methods.Goals as goal

pub put_method-requires : goal.put_method-requires
put_method-requires g c = holds_at (MethodIsKnown c.args.names.now) c.args.methods.now c.loop-method.method-index c.method-item.result (omega arith) c.method-item.is c.requires

pub loop-method-init : goal.loop-method-init
loop-method-init g c = rests_begin _ _

pub loop-method-preserved : goal.loop-method-preserved
loop-method-preserved g c =
    rests_step _ _ _ _ _ _ _ c.loop-method.invariant
    (parts_at (methods_text c.args.names.now) (method_text c.args.names.now) c.args.methods.now c.loop-method.method-index c.method-item.result (omega arith) c.method-item.is (λ y ys. refl)) c.put_method.ensures

pub returns : goal.returns
returns g c = rests_end _ _ _ _ c.loop-method.invariant (at_drop_all (methods_text c.args.names.now) c.args.methods.now c.loop-method.method-index (omega arith))
