use Rattle.std.proofs.Common.{◌≡◌, ◌+◌, ◌≤◌, ◌++◌, length}
use Rattle.stepper_terms.specs.Reduced.{values}
use Rattle.pool_semantics.proofs.plain.redex.args_of.Given as goal

abbrev pub invariant-loop-first : goal.invariant-loop-first
invariant-loop-first l = (length l.args + length l.rest ≤ 8) × (l.args ++ values l.rest ≡ values l.operands)

abbrev pub decreases-loop-first : goal.decreases-loop-first
decreases-loop-first l = length l.rest
