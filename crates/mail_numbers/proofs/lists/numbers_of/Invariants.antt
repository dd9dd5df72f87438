use Rattle.std.proofs.Common.{◌≡◌, length, map, take}
use Rattle.message_queue.specs.Mails.{message_of}
use Rattle.mail_numbers.specs.Messages.{messages_of}
use Rattle.mail_numbers.specs.Numbered.{IsBelow, messages_at}
use Rattle.mail_numbers.proofs.lists.numbers_of.Given as goal

-- the numbers so far, in the table as it grew
abbrev pub invariant-loop-mail : goal.invariant-loop-mail
invariant-loop-mail l =
    (take (length (messages_of l.initial.table)) (messages_of l.table) ≡ messages_of l.initial.table)
    × IsBelow (length (messages_of l.table)) l.numbers.items
    × (messages_at (messages_of l.table) l.numbers.items ≡ map message_of (take l.mail-index l.mails))
