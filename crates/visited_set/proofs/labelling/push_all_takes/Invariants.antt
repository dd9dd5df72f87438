use Rattle.std.proofs.Common.{◌≡◌, ◌++◌, map, drop}
use Rattle.reachability.specs.Labels.{message_labels}
use Rattle.visited_set.specs.Numbers.{queue_messages}
use Rattle.visited_set.proofs.labelling.push_all_takes.Given as goal

-- the takes so far, with those that are left
abbrev pub invariant-loop-queue : goal.invariant-loop-queue
invariant-loop-queue l = l.into.items ++ message_labels (map (queue_messages l.lists) (drop l.queue-index l.queues)) ≡ l.initial.into.items ++ message_labels (map (queue_messages l.lists) l.queues)
