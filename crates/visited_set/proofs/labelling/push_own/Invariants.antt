use Rattle.std.proofs.Common.{◌≡◌, ◌++◌, drop}
use Rattle.reachability.specs.Labels.{object_labels}
use Rattle.object_moves.specs.Rows.{objects_from}
use Rattle.object_moves.specs.Tables.{known_states, table_program}
use Rattle.visited_set.proofs.labelling.push_own.Given as goal

-- the labels so far, with those that are left
abbrev pub invariant-loop-i : goal.invariant-loop-i
invariant-loop-i l =
    l.into.items ++ object_labels (table_program l.moves) l.entry.next (objects_from l.i (known_states l.moves) (drop l.i l.entry.objects.now))
    ≡ l.initial.into.items ++ object_labels (table_program l.moves) l.entry.next (objects_from 0 (known_states l.moves) l.entry.objects.now)
