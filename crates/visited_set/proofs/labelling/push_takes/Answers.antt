use Rattle.std.proofs.Common.{[], ◌++◌, get_or, arith}
use Rattle.reachability.specs.Labels.{takes}
use Rattle.pool_semantics.specs.Mails.{message_of}
use Rattle.visited_set.proofs.MessagesLeft.{one_more_take}
use Rattle.visited_set.proofs.labelling.push_takes.Goals as goal

pub loop-at-preserved : goal.loop-at-preserved
loop-at-preserved c =
    let q = c.args.queue.now in
    let ms = get_or c.args.lists.now q.mails [] in
    one_more_take ms c.loop-at.at (message_of c.mail-mail.result.now) (omega (arith, c.count-at-end.ensures)) c.mail-mail.ensures (q.sender, q.receiver) c.loop-at.into.items c.push.new.self.items
    (c.args.into.now.items ++ takes (q.sender, q.receiver) ms) c.loop-at.invariant c.in_ok-push.ensures.items
