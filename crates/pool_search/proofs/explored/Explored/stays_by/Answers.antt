use Rattle.std.proofs.Common.{◌≡◌, ap, subst, Some, Ok, true}
use Rattle.std.specs.Prelude.{IfSome}
use Rattle.std.specs.List.{filter}
use Rattle.run_types.specs.declared.types.Label.{Label}
use Rattle.run_types.specs.Tables.{Each}
use Rattle.pool_relation.specs.Configuration.{Configuration}
use Rattle.pool_relation.specs.Transition.{transition}
use Rattle.reachability.specs.Search.{IsInOrder}
use Rattle.search_laws.specs.Outcomes.{Passed}
use Rattle.search_laws.specs.Stubborn.{IsAwaited, is_served}
use Rattle.pool_search.specs.Entries.{entries, searched}
use Rattle.pool_search.specs.Leads.{IsBeside}
use Rattle.pool_search.specs.Trials.{is_asked, is_tried}
use Rattle.pool_search.proofs.ListGrowth.{each_at}
use Rattle.pool_search.proofs.WaiterLaws.{stays_by_those}
use Rattle.pool_search.proofs.explored.Explored.stays_by.Goals as goal

pub returns-in-Ok-Led-clause-stays : goal.returns-in-Ok-Led-clause-stays
returns-in-Ok-Led-clause-stays c = λ yes e g.
    let p = searched c.args.self.now in
    let es = entries c.args.self.now in
    let ws = c.args.suspect.now.waiters.now.list.items in
    let o = c.args.suspect.now.object in
    let b = c.args.served in
    let i = c.in-Ok-Led.field-0-0 in
    let sorted : IsInOrder e.configuration = each_at (λ (x : Passed). IsInOrder x.configuration) es c.args.at e c.requires.in_order g in
    let enough : (l : Label) (d : Configuration) → is_served b l ≡ true → transition p e.configuration l ≡ Some d → IsAwaited p e.next b e.configuration =
    (subst (λ r. IfSome r (λ x. IsInOrder x.configuration → (l : Label) (d : Configuration) → is_served b l ≡ true → transition p x.configuration l ≡ Some d → IsAwaited p x.next b x.configuration)) g
    (c.are_enough.ensures c.if-not-are_enough.false)) sorted
    in
    let tried : is_tried c.in-Ok-Led.field-0 ≡ true = ap is_tried c.in-Ok-Led.field-0-is in
    stays_by_those p es ws o c.args.at e.next e.configuration e b i (e.items, g) g enough
    (subst (λ ls. Each (IsBeside p es ws o e.next e.configuration) (filter (is_asked (Some b)) ls)) (c.requires.labels e g) (c.in-Ok-Led.ensures.tried tried e g))
    (c.in-Ok-Led.ensures.led i (ap Ok c.in-Ok-Led.field-0-is) e g)
