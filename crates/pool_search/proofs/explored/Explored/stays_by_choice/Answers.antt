use Rattle.std.proofs.Common.{◌≡◌, ◌<◌, ◌∙◌, ap, length, subst, sym, Some, Ok, slice_get}
use Rattle.pool_syntax.specs.Terms.{ProgramTree}
use Rattle.reachability.specs.Labels.{labels_to_try}
use Rattle.pool_search.specs.Entries.{entries, searched}
use Rattle.pool_search.specs.Leads.{StaysIn}
use Rattle.pool_search.specs.Progress.{AllInOrder, Entries}
use Rattle.pool_search.proofs.explored.Explored.stays_by_choice.Goals as goal

pub stays_by-requires-clause-exists : goal.stays_by-requires-clause-exists
stays_by-requires-clause-exists c = subst (λ (xs : Entries). c.args.at < length xs) (sym c.loop-served.invariant.same) c.requires.exists

pub stays_by-requires-clause-in_order : goal.stays_by-requires-clause-in_order
stays_by-requires-clause-in_order c = subst AllInOrder (sym c.loop-served.invariant.same) c.requires.in_order

pub stays_by-requires-clause-labels : goal.stays_by-requires-clause-labels
stays_by-requires-clause-labels c = λ e g.
    let l = c.loop-served in
    let there : slice_get (entries c.args.self.now) c.args.at ≡ Some e = subst (λ (xs : Entries). slice_get xs c.args.at ≡ Some e) l.invariant.same g in
    c.requires.labels e there ∙ ap (λ (q : ProgramTree). labels_to_try q e.next e.configuration) (sym l.invariant.program)

pub returns-in-Ok-true-clause-stays : goal.returns-in-Ok-true-clause-stays
returns-in-Ok-true-clause-stays c = λ yes e g.
    let l = c.loop-served in
    let ws = c.args.suspect.now.waiters.now.list.items in
    let there : slice_get (entries l.self) c.args.at ≡ Some e = subst (λ (xs : Entries). slice_get xs c.args.at ≡ Some e) (sym l.invariant.same) g in
    subst (λ (q : ProgramTree). StaysIn q (entries c.args.self.now) ws c.args.suspect.now.object c.args.at e) l.invariant.program
    (subst (λ (xs : Entries). StaysIn (searched l.self) xs ws c.args.suspect.now.object c.args.at e) l.invariant.same (c.in-Ok-true.ensures.stays (ap Ok c.in-Ok-true.field-0-test) e there))
