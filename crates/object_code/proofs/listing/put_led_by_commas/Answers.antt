use Rattle.std.proofs.Common.{refl, codes, ◌++◌, arith}
use Rattle.std.proofs.lemmas.List.{at_drop_all}
use Rattle.std.proofs.lemmas.List.Elements.{All-get_or}
use Rattle.object_code.specs.Known.{IsKnown}
use Rattle.object_code.specs.Listing.{led_by_commas}
use Rattle.run_types.specs.Table.{text_at}
use Rattle.object_code.proofs.SequentialWrites.{parts_read, rests_begin, rests_end, rests_step, then}
use Rattle.object_code.proofs.listing.put_led_by_commas.Goals as goal

pub put_text-requires : goal.put_text-requires
put_text-requires g c = All-get_or (IsKnown c.args.names.now) c.args.ids.now c.loop-id.id-index _ (omega arith) c.requires

pub loop-id-init : goal.loop-id-init
loop-id-init g c = rests_begin _ _

pub loop-id-preserved : goal.loop-id-preserved
loop-id-preserved g c =
    rests_step _ _ _ _ _ _ _ c.loop-id.invariant
    (parts_read (led_by_commas c.args.names.now) (λ n. codes "," ++ text_at c.args.names.now n.0) c.args.ids.now c.loop-id.id-index _ (omega arith) (λ y ys. refl))
    (then _ _ _ _ _ c.put.ensures c.put_text.ensures)

pub returns : goal.returns
returns g c = rests_end _ _ _ _ c.loop-id.invariant (at_drop_all (led_by_commas c.args.names.now) c.args.ids.now c.loop-id.id-index (omega arith))
