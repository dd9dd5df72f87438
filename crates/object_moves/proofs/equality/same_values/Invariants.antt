use Rattle.std.proofs.Common.{◌≡◌, length}
use Rattle.run_types.specs.Same.{are_same}
use Rattle.object_moves.proofs.equality.same_values.Given as goal

abbrev pub invariant-loop-value : goal.invariant-loop-value
invariant-loop-value l = are_same l.values l.others ≡ are_same l.initial.values l.initial.others

abbrev pub decreases-loop-value : goal.decreases-loop-value
decreases-loop-value l = length l.values
