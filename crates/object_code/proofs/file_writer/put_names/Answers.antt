use Rattle.std.proofs.Common.{ap, arith}
use Rattle.std.proofs.lemmas.List.{at_drop_all}
use Rattle.object_code.specs.FileBytes.{items_bytes, number_bytes, text_bytes}
use Rattle.code_semantics.specs.Shaped.{IsShortList}
use Rattle.object_code.proofs.SequentialWrites.{each_got, rests_begin, rests_end, rests_step, same, text_at_drop, then}
use Rattle.object_code.proofs.file_writer.put_names.Goals as goal

pub put_counted-requires : goal.put_counted-requires
put_counted-requires g c = each_got IsShortList c.args.names.now c.loop-number.number _ c.text.ensures c.requires.1

pub loop-number-init : goal.loop-number-init
loop-number-init g c = rests_begin _ _

pub loop-number-preserved : goal.loop-number-preserved
loop-number-preserved g c =
    rests_step _ _ _ _ _ _ _ c.loop-number.invariant (text_at_drop text_bytes c.args.names.now c.loop-number.number _ c.text.ensures) c.put_counted.ensures

pub returns : goal.returns
returns g c =
    then _ _ _ _ _ (same _ _ _ _ (ap number_bytes c.count-count.ensures) c.put_four.ensures) (rests_end _ _ _ _ c.loop-number.invariant (at_drop_all (items_bytes text_bytes) c.args.names.now c.loop-number.number (omega (arith, c.count-count.ensures))))
