use Rattle.std.proofs.Common.{◌≡◌, ◌++◌, drop}
use Rattle.label_list.specs.Parts.{labels_in}
use Rattle.search_text.specs.AnswerText.{steps_text}
use Rattle.search_text.specs.OpenSteps.{text_from}
use Rattle.search_text.specs.Steps.{steps}
use Rattle.search_text.proofs.steps.push_steps.Given as goal

-- the text so far, and that of the open labels and those that are left, are the text of all
abbrev pub invariant-loop-part : goal.invariant-loop-part
invariant-loop-part l = l.text.items ++ text_from l.names l.locals (labels_in (drop l.part-index l.part-items)) ≡ l.fn.text.items ++ steps_text l.names (steps l.labels)
