use Rattle.std.proofs.Common.{◌≡◌, ◌++◌, drop}
use Rattle.search_text.specs.AnswerText.{outcomes_text}
use Rattle.search_text.proofs.answer.outcomes_text.Given as goal

-- the text so far and the lines that are left are the lines of all
abbrev pub invariant-loop-outcome : goal.invariant-loop-outcome
invariant-loop-outcome l = l.text.items ++ outcomes_text l.names (drop l.outcome-index l.list) ≡ outcomes_text l.names l.list
