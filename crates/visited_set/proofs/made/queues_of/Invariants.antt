use Rattle.std.proofs.Common.{◌≡◌, ◌++◌, length, map, take}
use Rattle.pool_semantics.specs.Mails.{posts}
use Rattle.visited_set.specs.Numbers.{AreListed, queue_messages}
use Rattle.visited_set.proofs.made.queues_of.Given as goal

-- the queues so far, with what is left
abbrev pub invariant-loop-pair : goal.invariant-loop-pair
invariant-loop-pair l =
    (take (length l.initial.table) l.table ≡ l.initial.table) × AreListed l.table l.queues.items × (map (queue_messages l.table) l.queues.items ++ posts l.pair-iterator ≡ posts l.messages.entries)
