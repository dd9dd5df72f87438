use Rattle.std.proofs.Common.{◌∙◌, ap, sym, ◌==◌}
use Rattle.std.specs.List.{find}
use Rattle.std.specs.Set.{remove_key}
use Rattle.std.specs.Map.{values_of}
use Rattle.message_queue.specs.declared.Mail.{Mail}
use Rattle.message_queue.proofs.Kept.{first_kept, none_kept, kept_less, of_method}
use Rattle.message_queue.proofs.behind.Behind.take_of.Goals as goal

pub invariant_of-self : goal.invariant_of-self
invariant_of-self c =
    let h = of_method c.self.inside.index c.args.method.0 c.in-Some.stamp c.in-Some.ensures in
    kept_less c.self.inside.mails c.remove-in-Some.new.self c.self.inside.index c.remove.new.self c.self.inside.next c.in-Some.stamp c.args.method.0 c.self.invariant h c.remove.ensures.updates.0 c.remove-in-Some.ensures.updates.0 c.remove-in-Some.ensures.entries c.remove-in-Some.ensures.ordered

pub returns-in-Some-clause-taken : goal.returns-in-Some-clause-taken
returns-in-Some-clause-taken c =
    let f = first_kept _ c.self.inside.mails c.self.inside.index c.self.inside.next c.in-Some.stamp c.self.invariant c.in-Some.ensures in
    c.remove-in-Some.ensures.value ∙ f.1 ∙ sym f.2 ∙ ap (find (λ (m : Mail). m.method.0 == c.args.method.0)) c.self.view_is

pub returns-in-Some-clause-rest : goal.returns-in-Some-clause-rest
returns-in-Some-clause-rest c =
    let f = first_kept _ c.self.inside.mails c.self.inside.index c.self.inside.next c.in-Some.stamp c.self.invariant c.in-Some.ensures in
    ap values_of c.remove-in-Some.ensures.entries ∙ sym f.3 ∙ ap (remove_key (λ (m : Mail). m.method.0 == c.args.method.0)) c.self.view_is

pub returns-in-None-clause-taken : goal.returns-in-None-clause-taken
returns-in-None-clause-taken c =
    let f = none_kept _ c.self.inside.mails c.self.inside.index c.self.inside.next c.self.invariant c.in-None.ensures in
    sym f.0 ∙ ap (find (λ (m : Mail). m.method.0 == c.args.method.0)) c.self.view_is

pub returns-in-None-clause-rest : goal.returns-in-None-clause-rest
returns-in-None-clause-rest c =
    let f = none_kept _ c.self.inside.mails c.self.inside.index c.self.inside.next c.self.invariant c.in-None.ensures in
    sym c.self.view_is ∙ sym f.1 ∙ ap (remove_key (λ (m : Mail). m.method.0 == c.args.method.0)) c.self.view_is
