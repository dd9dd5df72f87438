use Rattle.label_list.specs.Parts.{labels_in}
use Rattle.object_moves.specs.Followed.{AreChanged}
use Rattle.pool_search.proofs.changes.changed_by.Given as goal

-- a transition of one of the parts changes each of the objects so far
abbrev pub invariant-loop-part : goal.invariant-loop-part
invariant-loop-part l = AreChanged (labels_in l.part-items) l.moved.items
