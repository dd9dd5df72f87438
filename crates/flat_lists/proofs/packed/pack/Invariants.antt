use Rattle.std.proofs.Common.{◌≡◌, ◌++◌, drop}
use Rattle.flat_lists.proofs.UnitsRead.{all_units}
use Rattle.flat_lists.proofs.packed.pack.Given as goal

-- the units so far, with those of the numbers that are left
abbrev pub invariant-loop-number : goal.invariant-loop-number
invariant-loop-number l = l.units.items ++ all_units (drop l.number-index l.numbers) ≡ all_units l.numbers
