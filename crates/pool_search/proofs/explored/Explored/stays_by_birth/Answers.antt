use Rattle.std.proofs.Common.{◌≡◌, ap, sym, ◌∙◌, subst, Some, true}
use Rattle.std.specs.Prelude.{IfSome}
use Rattle.std.specs.List.{slice_get}
use Rattle.std.proofs.lemmas.Option.{slice_get-get_or}
use Rattle.run_types.proofs.Laws.{same_some}
use Rattle.pool_search.specs.Entries.{entries, searched}
use Rattle.pool_search.specs.Leads.{IsTriedBeside}
use Rattle.pool_search.specs.Trials.{IsBirthAt, is_birth}
use Rattle.pool_search.proofs.WaiterLaws as W
use Rattle.pool_search.proofs.explored.Explored.stays_by_birth.Goals as goal

pub returns-in-Ok-Led-clause-stays : goal.returns-in-Ok-Led-clause-stays
returns-in-Ok-Led-clause-stays c = λ yes e g.
    let p = searched c.args.self.now in
    let es = entries c.args.self.now in
    let ws = c.args.suspect.now.waiters.now.list.items in
    let o = c.args.suspect.now.object in
    let ls = c.args.labels.now in
    let label = c.in-Some-get.label.now in
    let next = c.next_name.result in
    let b : IsBirthAt next ls c.in-Some.place = c.in-Some.ensures in
    let l = c.in-Some-get.ensures.lookup in
    let there : slice_get ls c.in-Some.place ≡ Some label = slice_get-get_or ls c.in-Some.place _ l.3.0 ∙ ap Some (sym l.1) in
    let named = subst (λ r. IfSome r (λ x. next ≡ x.next)) g c.next_name.ensures in
    let births : is_birth e.next label ≡ true = ap (λ n. is_birth n label) (sym named) ∙ ap (is_birth next) (same_some (sym there ∙ b.there)) ∙ b.births in
    let led = subst (IsTriedBeside p es ws o e label) c.in-Ok-Led.field-0-is (c.in-Ok-Led.ensures.beside e g) in
    W.stays_by_birth p es ws o c.args.at e label births led.0
