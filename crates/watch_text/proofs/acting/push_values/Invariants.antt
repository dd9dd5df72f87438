use Rattle.std.proofs.Common.{◌≡◌, ◌++◌, drop}
use Rattle.watch_text.specs.Acting.{values_text}
use Rattle.watch_text.proofs.acting.push_values.Given as goal

-- the text so far and what is left are the text of all
abbrev pub invariant-loop-operand : goal.invariant-loop-operand
invariant-loop-operand l = l.text.items ++ values_text (drop l.operand-index l.operands) ≡ l.initial.text.items ++ values_text l.operands
