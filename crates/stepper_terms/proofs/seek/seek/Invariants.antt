use Rattle.std.proofs.Common.{◌≡◌, false}
use Rattle.pool_syntax.specs.TreeOf.{expression_of}
use Rattle.pool_relation.specs.Reducible.{is_value}
use Rattle.stepper_terms.specs.Parts.{nested}
use Rattle.stepper_terms.specs.Weights.{weight}
use Rattle.stepper_terms.proofs.seek.seek.Given as goal

abbrev pub invariant-loop-redex : goal.invariant-loop-redex
invariant-loop-redex l = (is_value (expression_of l.expr) ≡ false) × (nested l.places.items (expression_of l.expr) ≡ nested l.initial.places.items (expression_of l.initial.expr))

abbrev pub decreases-loop-redex : goal.decreases-loop-redex
decreases-loop-redex l = weight (expression_of l.expr)
