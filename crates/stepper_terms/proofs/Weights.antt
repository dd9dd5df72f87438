-- The weight of an argument.
use Rattle.std.proofs.Common.{◌≤◌, List, [], ◌∷◌, arith}
use Rattle.pool_syntax.specs.Terms as T
use Rattle.pool_syntax.specs.Terms.{Expression, Expressions}
use Rattle.stepper_terms.specs.declared.contexts.Operand.{Operand}
use Rattle.stepper_terms.specs.Parts.{operands}
use Rattle.stepper_terms.specs.Weights.{weight, weights}

-- an argument weighs no more than all
pub weight_in : (vs : List Operand) (e : Expression) (es : Expressions) → weight e ≤ weights (operands vs (T.Arg e es))
weight_in [] e es = omega arith
weight_in (v ∷ vs) e es = omega (arith, weight_in vs e es)
