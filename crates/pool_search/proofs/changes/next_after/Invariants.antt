use Rattle.std.proofs.Common.{◌≡◌, drop}
use Rattle.label_list.specs.Parts.{labels_in}
use Rattle.reachability.specs.Search.{in_order}
use Rattle.search_laws.specs.ClosedBeside.{after_all}
use Rattle.pool_search.proofs.changes.next_after.Given as goal

-- the parts that are left, after the name so far, tell what all tell
abbrev pub invariant-loop-part : goal.invariant-loop-part
invariant-loop-part l =
    record {
      order : in_order l.next (labels_in (drop l.part-index l.part-items)) ≡ in_order l.first l.labels;
      next : after_all l.next (labels_in (drop l.part-index l.part-items)) ≡ after_all l.first l.labels;
    }
