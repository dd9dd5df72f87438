use Rattle.std.proofs.Common.{arith}
use Rattle.flat_lists.proofs.UnitsRead.{all_read}
use Rattle.flat_lists.proofs.packed.pack.Goals as goal

pub returns : goal.returns
returns c = all_read c.args.numbers.now c.loop-number.units.items c.loop-number.number-index (omega (arith, c.loop-number-test.false)) c.loop-number.invariant
