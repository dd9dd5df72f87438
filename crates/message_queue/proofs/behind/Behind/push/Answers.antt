use Rattle.std.proofs.Common.{◌∙◌, ap, [], ◌∷◌, ◌++◌}
use Rattle.std.specs.Map.{values_of}
use Rattle.message_queue.proofs.Entries.{values_last}
use Rattle.message_queue.proofs.Kept.{kept_more, kept_back}
use Rattle.message_queue.proofs.behind.Behind.push.Goals as goal

pub invariant_of-self-in-Ok : goal.invariant_of-self-in-Ok
invariant_of-self-in-Ok c =
    kept_more c.self.inside.mails c.insert-2.new.self c.self.inside.index c.insert.new.self c.self.inside.next c.args.mail c.self.invariant c.in_ok-insert.ensures.updates.0 c.in-Ok.ensures.updates.0 c.in-Ok.ensures.entries c.in-Ok.ensures.ordered

pub invariant_of-self-in-Err : goal.invariant_of-self-in-Err
invariant_of-self-in-Err c =
    kept_back c.self.inside.mails c.insert-2.new.self c.self.inside.index c.insert.new.self c.remove.new.self c.self.inside.next c.args.mail.method.0 c.self.invariant c.in_ok-insert.ensures.updates.0 c.remove.ensures.updates.0 c.in-Err.ensures.err c.in-Err.ensures.ordered

pub returns-in-Ok-clause-ok : goal.returns-in-Ok-clause-ok
returns-in-Ok-clause-ok c =
    ap values_of c.in-Ok.ensures.entries ∙ values_last c.self.inside.next c.args.mail c.self.inside.mails.entries c.self.invariant.below ∙ ap (λ l. l ++ c.args.mail ∷ []) c.self.view_is
