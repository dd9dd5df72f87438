use Rattle.std.proofs.Common.{arith}
use Rattle.mail_numbers.specs.Messages.{messages_of}
use Rattle.mail_numbers.proofs.Growth.{numbers_step, front_of_front}
use Rattle.mail_numbers.proofs.lists.numbers_of.Goals as goal

pub loop-mail-preserved : goal.loop-mail-preserved
loop-mail-preserved c =
    let l = c.loop-mail in
    rw c.in_ok-push.ensures.items
    (numbers_step (messages_of c.args.table.now) (messages_of l.table) (messages_of c.number_of.new.self) l.numbers.items l.mail-index c.in_ok-number.number c.mail-item.result c.args.mails.now
    l.invariant.0 l.invariant.1 l.invariant.2 (omega arith) c.mail-item.is c.number_of.ensures.grows c.in_ok-number.ensures.found)

pub returns-in_err-number-clause-grows : goal.returns-in_err-number-clause-grows
returns-in_err-number-clause-grows c =
    front_of_front (messages_of c.args.table.now) (messages_of c.loop-mail.table) (messages_of c.number_of.new.self) c.loop-mail.invariant.0 c.number_of.ensures.grows

pub returns-in_err-push-clause-grows : goal.returns-in_err-push-clause-grows
returns-in_err-push-clause-grows c =
    front_of_front (messages_of c.args.table.now) (messages_of c.loop-mail.table) (messages_of c.number_of.new.self) c.loop-mail.invariant.0 c.number_of.ensures.grows
