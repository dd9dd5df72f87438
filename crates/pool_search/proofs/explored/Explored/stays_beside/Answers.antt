use Rattle.std.proofs.Common.{◌≡◌, ◌⊎◌, ◌∙◌, inl, inr, subst, sym, true}
use Rattle.pool_search.specs.declared.choices.Trial.TheVariants as T
use Rattle.pool_search.specs.Entries.{entries, searched}
use Rattle.pool_search.specs.Leads.{IsTriedBeside}
use Rattle.pool_search.specs.Trials.{is_asked}
use Rattle.pool_search.proofs.explored.Explored.stays_beside.Goals as goal

either : {A B C : Type 0} → (A → C) → (B → C) → A ⊎ B → C
either f g (inl a) = f a
either f g (inr b) = g b

pub returns-in-Ok-Tried-clause-tried : goal.returns-in-Ok-Tried-clause-tried
returns-in-Ok-Tried-clause-tried c = λ tried asked e g.
    let suspect = c.args.suspect.now in
    inl (subst (IsTriedBeside (searched c.args.self.now) (entries c.args.self.now) suspect.waiters.now.list.items suspect.object e c.args.label.now) c.in-Ok-Tried.field-0-is (c.in-Ok-Tried.ensures.beside e g))

pub returns-in-Ok-Led-clause-tried : goal.returns-in-Ok-Led-clause-tried
returns-in-Ok-Led-clause-tried c = λ tried asked e g.
    let suspect = c.args.suspect.now in
    let h = subst (IsTriedBeside (searched c.args.self.now) (entries c.args.self.now) suspect.waiters.now.list.items suspect.object e c.args.label.now) c.in-Ok-Led.field-0-is (c.in-Ok-Led.ensures.beside e g) in
    inr h.0

pub returns-in-Ok-Led-clause-led : goal.returns-in-Ok-Led-clause-led
returns-in-Ok-Led-clause-led c = λ i told.
    let suspect = c.args.suspect.now in
    let is : c.later.result ≡ T.Led i = cc in
    let asked : is_asked c.args.served c.args.label.now ≡ true = sym c.is_asked.ensures ∙ c.if-not-is_asked.false in
    either (λ h. inl h)
    (λ h. inr
    (λ e g.
    let r = subst (IsTriedBeside (searched c.args.self.now) (entries c.args.self.now) suspect.waiters.now.list.items suspect.object e c.args.label.now) c.in-Ok-Led.field-0-is (c.in-Ok-Led.ensures.beside e g) in
    record { later = h.1; label = c.args.label.now; asked = asked; leads = r.0; to = r.1 ∙ h.0 })) (c.later.ensures.led i is)
