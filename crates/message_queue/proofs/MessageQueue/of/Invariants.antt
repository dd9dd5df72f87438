use Rattle.std.proofs.Common.{◌≡◌, take}
use Rattle.message_queue.proofs.MessageQueue.of.Given as goal

abbrev pub invariant-loop-mail : goal.invariant-loop-mail
invariant-loop-mail l = l.early.items ≡ take l.mail-index l.mails
