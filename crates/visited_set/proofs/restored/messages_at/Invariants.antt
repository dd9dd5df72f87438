use Rattle.std.proofs.Common.{◌≡◌, map, take}
use Rattle.pool_semantics.specs.Mails.{posts}
use Rattle.visited_set.specs.Numbers.{queue_messages}
use Rattle.visited_set.proofs.restored.messages_at.Given as goal

abbrev pub invariant-loop-queue : goal.invariant-loop-queue
invariant-loop-queue l = posts l.messages.entries ≡ map (queue_messages l.table) (take l.queue-index l.queues)
