use Rattle.std.proofs.Common.{◌≡◌, ◌<◌, ◌++◌, length, take}
use Rattle.std.specs.List.{All}
use Rattle.stepper_objects.specs.ObjectStates.{things}
use Rattle.object_moves.specs.Tables.{known_states, table_program}
use Rattle.object_moves.specs.Rows.{objects_from}
use Rattle.visited_set.proofs.made.numbers_of.Given as goal

-- the objects so far have these numbers; the program is the same
abbrev pub invariant-loop-name : goal.invariant-loop-name
invariant-loop-name l =
    (table_program l.table ≡ table_program l.initial.table)
    × ((take (length (known_states l.initial.table)) (known_states l.table) ≡ known_states l.initial.table)
    × (All (λ n. n < length (known_states l.table)) l.numbers.items
    × (objects_from 0 (known_states l.table) l.numbers.items ++ things l.name-iterator ≡ things l.objects.entries)))
