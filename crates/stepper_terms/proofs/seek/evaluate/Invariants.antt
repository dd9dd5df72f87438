use Rattle.std.proofs.Common.{◌≡◌, length}
use Rattle.pool_syntax.specs.TreeOf.{expressions_of}
use Rattle.stepper_terms.specs.Parts.{operands}
use Rattle.stepper_terms.proofs.seek.evaluate.Given as goal

abbrev pub invariant-loop-first : goal.invariant-loop-first
invariant-loop-first l = operands l.done.items (expressions_of l.rest) ≡ operands l.initial.done.items (expressions_of l.initial.rest)

abbrev pub decreases-loop-first : goal.decreases-loop-first
decreases-loop-first l = length l.rest
