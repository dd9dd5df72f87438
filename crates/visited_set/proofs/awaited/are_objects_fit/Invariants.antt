use Rattle.std.proofs.Common.{ℕ, drop}
use Rattle.run_types.specs.Tables.{Each}
use Rattle.pool_relation.specs.Action.{Object}
use Rattle.known_names.specs.Awaited.{IsFit}
use Rattle.object_moves.specs.Rows.{objects_from}
use Rattle.object_moves.specs.Tables.{known_states, table_program}
use Rattle.visited_set.proofs.awaited.are_objects_fit.Given as goal

-- all objects are fit if those that are left are
abbrev pub invariant-loop-i : goal.invariant-loop-i
invariant-loop-i l =
    Each (λ (e : ℕ × Object). IsFit (table_program l.moves) l.others.next l.others.name e.0 e.1) (objects_from l.i (known_states l.moves) (drop l.i l.numbers))
    → Each (λ (e : ℕ × Object). IsFit (table_program l.moves) l.others.next l.others.name e.0 e.1) (objects_from 0 (known_states l.moves) l.numbers)
