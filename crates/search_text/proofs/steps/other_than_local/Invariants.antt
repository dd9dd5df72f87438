use Rattle.std.proofs.Common.{◌≡◌, ◌≤◌, ◌+◌, drop}
use Rattle.label_list.specs.Parts.{labels_in}
use Rattle.search_text.specs.Steps.{other_than_local}
use Rattle.search_text.proofs.steps.other_than_local.Given as goal

abbrev pub invariant-loop-part : goal.invariant-loop-part
invariant-loop-part l = (l.count ≤ l.part-index) × (l.count + other_than_local (labels_in (drop l.part-index l.part-items)) ≡ other_than_local l.labels)
