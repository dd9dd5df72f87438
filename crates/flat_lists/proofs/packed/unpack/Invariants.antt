use Rattle.std.proofs.Common.{◌≡◌, ◌++◌, length}
use Rattle.flat_lists.specs.Units.{numbers_of}
use Rattle.flat_lists.proofs.packed.unpack.Given as goal

-- the numbers so far, with those that are left
abbrev pub invariant-loop-number : goal.invariant-loop-number
invariant-loop-number l = l.numbers.items ++ numbers_of l.rest ≡ numbers_of l.units

abbrev pub decreases-loop-number : goal.decreases-loop-number
decreases-loop-number l = length l.rest
