use Rattle.std.proofs.Common.{◌≡◌, ◌++◌, drop}
use Rattle.label_list.specs.Parts.{labels_in}
use Rattle.reachability.specs.Outcomes.{written}
use Rattle.pool_search.proofs.ends.written_by.Given as goal

-- the items so far, and those of the other parts
abbrev pub invariant-loop-part : goal.invariant-loop-part
invariant-loop-part l = l.items.items ++ written (labels_in (drop l.part-index l.part-items)) ≡ written l.labels
