use Rattle.std.proofs.Common.{[], get_or, sym, ◌∙◌, arith}
use Rattle.pool_semantics.specs.Mails.{message_of}
use Rattle.known_names.specs.Awaited.{is_message_other}
use Rattle.visited_set.proofs.MessagesLeft.{fails_here, passes_here}
use Rattle.visited_set.proofs.awaited.are_mails_other.Goals as goal

pub returns-then-not-is_mail_other : goal.returns-then-not-is_mail_other
returns-then-not-is_mail_other c =
    fails_here (get_or c.args.lists.now c.args.list []) c.loop-at.at (message_of c.mail.result.now) (omega (arith, c.count-at-end.ensures)) c.mail.ensures (is_message_other c.args.others.next c.args.others.name)
    (sym c.is_mail_other.ensures ∙ c.if-not-is_mail_other.true) c.loop-at.invariant

pub loop-at-preserved : goal.loop-at-preserved
loop-at-preserved c =
    passes_here (get_or c.args.lists.now c.args.list []) c.loop-at.at (message_of c.mail.result.now) (omega (arith, c.count-at-end.ensures)) c.mail.ensures (is_message_other c.args.others.next c.args.others.name)
    (sym c.is_mail_other.ensures ∙ c.if-not-is_mail_other.false) c.loop-at.invariant
