use Rattle.std.proofs.Common.{◌≡◌, length}
use Rattle.flat_lists.specs.Units.{numbers_of}
use Rattle.flat_lists.proofs.packed.is_packed.Given as goal

-- the units stand for the numbers if and only if those that are left do
abbrev pub invariant-loop-number : goal.invariant-loop-number
invariant-loop-number l = (numbers_of l.rest ≡ l.left → numbers_of l.units ≡ l.numbers) × (numbers_of l.units ≡ l.numbers → numbers_of l.rest ≡ l.left)

abbrev pub decreases-loop-number : goal.decreases-loop-number
decreases-loop-number l = length l.left
