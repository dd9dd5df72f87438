use Rattle.std.proofs.Common.{◌≡◌, drop}
use Rattle.label_list.specs.Parts.{labels_in}
use Rattle.search_laws.specs.Dead.{some_changes}
use Rattle.pool_search.proofs.changes.some_changes.Given as goal

-- the parts that are left tell what all tell
abbrev pub invariant-loop-part : goal.invariant-loop-part
invariant-loop-part l = some_changes l.object (labels_in (drop l.part-index l.part-items)) ≡ some_changes l.object l.labels
