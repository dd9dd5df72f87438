use Rattle.std.proofs.Common.{map, arith}
use Rattle.message_queue.specs.Mails.{message_of}
use Rattle.mail_numbers.specs.Messages.{messages_of}
use Rattle.mail_numbers.proofs.Growth.{read_step}
use Rattle.mail_numbers.proofs.lists.push_messages.Goals as goal

pub loop-number-preserved : goal.loop-number-preserved
loop-number-preserved c =
    read_step (messages_of c.args.table.now) (map message_of c.args.into.now.items) c.loop-number.into.items c.push.new.self.items c.args.numbers.now c.loop-number.number-index c.get.result.now
    c.loop-number.invariant (omega arith) c.get.ensures c.in_ok-push.ensures.items
