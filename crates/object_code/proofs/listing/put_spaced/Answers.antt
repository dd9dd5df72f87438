use Rattle.std.proofs.Common.{refl, arith}
use Rattle.std.proofs.lemmas.List.{at_drop_all}
use Rattle.std.proofs.lemmas.List.Elements.{All-get_or}
use Rattle.object_code.specs.Known.{IsKnown}
use Rattle.object_code.specs.Listing.{name_text, spaced_text}
use Rattle.object_code.proofs.SequentialWrites.{parts_read, rests_begin, rests_end, rests_step}
use Rattle.object_code.proofs.listing.put_spaced.Goals as goal

pub put_name-requires : goal.put_name-requires
put_name-requires g c = All-get_or (IsKnown c.args.names.now) c.args.ids.now c.loop-id.id-index _ (omega arith) c.requires

pub loop-id-init : goal.loop-id-init
loop-id-init g c = rests_begin _ _

pub loop-id-preserved : goal.loop-id-preserved
loop-id-preserved g c =
    rests_step _ _ _ _ _ _ _ c.loop-id.invariant
    (parts_read (spaced_text c.args.names.now) (name_text c.args.names.now) c.args.ids.now c.loop-id.id-index _ (omega arith) (λ y ys. refl)) c.put_name.ensures

pub returns : goal.returns
returns g c = rests_end _ _ _ _ c.loop-id.invariant (at_drop_all (spaced_text c.args.names.now) c.args.ids.now c.loop-id.id-index (omega arith))
