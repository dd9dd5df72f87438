use Rattle.std.proofs.Common.{◌≡◌, ◌++◌, drop}
use Rattle.stepper_text.specs.Contents.{more_operands}
use Rattle.stepper_text.proofs.redex.push_more_operands.Given as goal

-- the text so far and what is left are the text of all
abbrev pub invariant-loop-operand : goal.invariant-loop-operand
invariant-loop-operand l = l.text.items ++ more_operands (drop l.operand-index l.operands) ≡ l.initial.text.items ++ more_operands l.operands
