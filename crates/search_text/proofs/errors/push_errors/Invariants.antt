use Rattle.std.proofs.Common.{◌≡◌, ◌++◌, drop}
use Rattle.label_list.specs.Parts.{labels_in}
use Rattle.search_text.specs.AnswerText.{errors_text}
use Rattle.search_text.proofs.errors.push_errors.Given as goal

-- the text so far, and the lines of the parts that are left, are those of all
abbrev pub invariant-loop-part : goal.invariant-loop-part
invariant-loop-part l = l.text.items ++ errors_text l.names (labels_in (drop l.part-index l.part-items)) ≡ l.fn.text.items ++ errors_text l.names l.labels
