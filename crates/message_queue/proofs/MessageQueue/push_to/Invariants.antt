use Rattle.std.proofs.Common.{◌≡◌, ◌++◌}
use Rattle.message_queue.proofs.MessageQueue.push_to.Given as goal

-- the messages so far, and what is left
abbrev pub invariant-loop-mail : goal.invariant-loop-mail
invariant-loop-mail l = l.into.items ++ l.mail-iterator ≡ l.initial.into.items ++ l.initial.mail-iterator
