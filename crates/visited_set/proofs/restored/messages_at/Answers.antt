use Rattle.std.proofs.Common.{refl, ap, ◌∙◌, map, get_or, arith}
use Rattle.pool_semantics.specs.Mails.{message_of, posts}
use Rattle.visited_set.specs.declared.numbered.Queue.{Queue}
use Rattle.visited_set.proofs.NumberingSteps.{messages_step}
use Rattle.visited_set.proofs.restored.messages_at.Goals as goal

pub loop-queue-preserved : goal.loop-queue-preserved
loop-queue-preserved c =
    let none : Queue = record { sender = 0; receiver = 0; mails = 0 } in
    ap posts c.in_ok-insert.ensures.entries
    ∙ messages_step c.args.table.now c.args.queues.now c.loop-queue.queue-index (get_or c.args.queues.now c.loop-queue.queue-index none) none c.in_ok-mails.mails c.loop-queue.messages.entries c.requires.sorted c.loop-queue.invariant
    (omega arith) refl (ap (map message_of) (c.in_ok-mails.ensures ∙ c.as_slice.ensures.value) ∙ c.in_ok-read.ensures)
