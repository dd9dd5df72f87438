use Rattle.object_moves.proofs.WaitingMail.{next_some, next_none}
use Rattle.object_moves.proofs.mails.is_next.Goals as goal

pub returns-in-Some : goal.returns-in-Some
returns-in-Some c = next_some c.args.method.0 c.args.queue.now c.front.result c.in-Some.mail c.front.ensures c.in-Some.is

pub returns-in-None : goal.returns-in-None
returns-in-None c = next_none c.args.method.0 c.args.queue.now c.front.result c.front.ensures c.in-None.is
