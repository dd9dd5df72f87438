use Rattle.std.proofs.Common.{drop}
use Rattle.run_types.specs.Tables.{Each}
use Rattle.object_moves.specs.Rows.{objects_from}
use Rattle.object_moves.specs.Tables.{known_states}
use Rattle.visited_set.proofs.RowObjects.{IsFine}
use Rattle.visited_set.proofs.awaited.has_error.Given as goal

-- no object has met an error if none of those that are left has
abbrev pub invariant-loop-number : goal.invariant-loop-number
invariant-loop-number l =
    Each IsFine (objects_from l.number-index (known_states l.moves) (drop l.number-index l.numbers)) → Each IsFine (objects_from 0 (known_states l.moves) l.numbers)
