use Rattle.std.proofs.Common.{◌≡◌, ◌++◌, length}
use Rattle.stepper_terms.specs.Reduced.{values}
use Rattle.stepper_terms.proofs.changes.values.Given as goal

abbrev pub invariant-loop-first : goal.invariant-loop-first
invariant-loop-first l = l.found.items ++ values l.rest ≡ values l.initial.rest

abbrev pub decreases-loop-first : goal.decreases-loop-first
decreases-loop-first l = length l.rest
