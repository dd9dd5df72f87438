use Rattle.std.proofs.Common.{◌≡◌, ◌++◌, map, take}
use Rattle.message_queue.specs.Mails.{message_of}
use Rattle.mail_numbers.specs.Messages.{messages_of}
use Rattle.mail_numbers.specs.Numbered.{messages_at}
use Rattle.mail_numbers.proofs.lists.push_messages.Given as goal

-- the messages so far
abbrev pub invariant-loop-number : goal.invariant-loop-number
invariant-loop-number l = map message_of l.into.items ≡ map message_of l.initial.into.items ++ messages_at (messages_of l.table) (take l.number-index l.numbers)
