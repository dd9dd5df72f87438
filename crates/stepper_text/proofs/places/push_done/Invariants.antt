use Rattle.std.proofs.Common.{◌≡◌, ◌++◌, drop}
use Rattle.stepper_text.specs.Around.{done_arguments}
use Rattle.stepper_text.proofs.places.push_done.Given as goal

-- the text so far and what is left are the text of all
abbrev pub invariant-loop-operand : goal.invariant-loop-operand
invariant-loop-operand l = l.text.items ++ done_arguments (drop l.operand-index l.done) ≡ l.initial.text.items ++ done_arguments l.done
