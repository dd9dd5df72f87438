use Rattle.std.proofs.Common.{◌≡◌, length}
use Rattle.run_types.specs.Same.{are_same}
use Rattle.stepper_terms.specs.Reduced.{values}
use Rattle.object_acts.proofs.arguments.same_operands.Given as goal

abbrev pub invariant-loop-operand : goal.invariant-loop-operand
invariant-loop-operand l = are_same (values l.operands) l.args ≡ are_same (values l.initial.operands) l.initial.args

abbrev pub decreases-loop-operand : goal.decreases-loop-operand
decreases-loop-operand l = length l.operands
