use Rattle.std.proofs.Common.{◌∙◌, ap, sym}
use Rattle.std.specs.List.{find}
use Rattle.pool_relation.specs.Transition.{names_method}
use Rattle.message_queue.specs.declared.Mail.{Mail}
use Rattle.message_queue.proofs.Kept.{first_kept, none_kept}
use Rattle.message_queue.proofs.behind.Behind.first_named.Goals as goal

pub returns-in-Some : goal.returns-in-Some
returns-in-Some c =
    let f = first_kept _ c.self.inside.mails c.self.inside.index c.self.inside.next c.in-Some.stamp c.self.invariant c.in-Some.ensures in
    c.get.ensures.value ∙ f.1 ∙ sym f.2 ∙ ap (find (λ (m : Mail). names_method c.args.names.now m.method.0)) c.self.view_is

pub returns-in-None : goal.returns-in-None
returns-in-None c =
    let f = none_kept _ c.self.inside.mails c.self.inside.index c.self.inside.next c.self.invariant c.in-None.ensures in
    sym f.0 ∙ ap (find (λ (m : Mail). names_method c.args.names.now m.method.0)) c.self.view_is
