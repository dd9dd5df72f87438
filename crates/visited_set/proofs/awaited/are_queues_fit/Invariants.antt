use Rattle.std.proofs.Common.{◌≡◌, List, map, drop, true}
use Rattle.run_types.specs.Message.{Message}
use Rattle.run_types.specs.Tables.{Each, Pair}
use Rattle.pool_relation.specs.Configuration.{Configuration}
use Rattle.known_names.specs.Awaited.{is_queue_fit}
use Rattle.object_moves.specs.Rows.{objects_from}
use Rattle.object_moves.specs.Tables.{known_states, table_program}
use Rattle.visited_set.specs.Numbers.{queue_messages}
use Rattle.visited_set.proofs.awaited.are_queues_fit.Given as goal

-- all queues are fit if those that are left are
abbrev pub invariant-loop-queue : goal.invariant-loop-queue
invariant-loop-queue l =
    (c : Configuration) → c.objects ≡ objects_from 0 (known_states l.moves) l.numbers
    → Each (λ (e : Pair × List Message). is_queue_fit (table_program l.moves) l.others.next l.others.name c e.0.1 e.1 ≡ true) (map (queue_messages l.lists) (drop l.queue-index l.queues))
    → Each (λ (e : Pair × List Message). is_queue_fit (table_program l.moves) l.others.next l.others.name c e.0.1 e.1 ≡ true) (map (queue_messages l.lists) l.queues)
