use Rattle.std.proofs.Common.{refl, arith}
use Rattle.std.proofs.lemmas.List.{at_drop_all}
use Rattle.object_code.specs.FileBytes.{items_bytes}
use Rattle.object_code.proofs.SequentialWrites.{each_holds, parts_at, rests_begin, rests_end, rests_step, then}
use Rattle.object_code.proofs.file_writer.put_list.Goals as goal

pub put_item-requires : goal.put_item-requires
put_item-requires g c = each_holds g.T.Item.is_short c.args.items.now c.loop-item.item-index c.item-item.result (omega arith) c.item-item.is c.requires.1

pub loop-item-init : goal.loop-item-init
loop-item-init g c = rests_begin _ _

pub loop-item-preserved : goal.loop-item-preserved
loop-item-preserved g c =
    rests_step _ _ _ _ _ _ _ c.loop-item.invariant
    (parts_at (items_bytes g.T.Item.bytes) g.T.Item.bytes c.args.items.now c.loop-item.item-index c.item-item.result (omega arith) c.item-item.is (λ y ys. refl)) c.put_item.ensures

pub returns : goal.returns
returns g c = then _ _ _ _ _ c.put_four.ensures (rests_end _ _ _ _ c.loop-item.invariant (at_drop_all (items_bytes g.T.Item.bytes) c.args.items.now c.loop-item.item-index (omega arith)))
