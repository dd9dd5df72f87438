use Rattle.std.proofs.Common.{◌≡◌, ◌<◌, ◌∙◌, ap, length, subst, sym, Some, Ok, slice_get}
use Rattle.pool_syntax.specs.Terms.{ProgramTree}
use Rattle.reachability.specs.Labels.{labels_to_try}
use Rattle.pool_search.specs.Entries.{entries, searched}
use Rattle.pool_search.specs.Leads.{StaysIn}
use Rattle.pool_search.specs.Progress.{AllInOrder, Entries}
use Rattle.pool_search.proofs.explored.Explored.stays_where.Goals as goal

pub stays_by_trials-requires-clause-exists : goal.stays_by_trials-requires-clause-exists
stays_by_trials-requires-clause-exists c = subst (λ (xs : Entries). c.args.at < length xs) (sym c.stays_by_birth.ensures.same) c.requires.exists

pub stays_by_trials-requires-clause-in_order : goal.stays_by_trials-requires-clause-in_order
stays_by_trials-requires-clause-in_order c = subst AllInOrder (sym c.stays_by_birth.ensures.same) c.requires.in_order

pub stays_by_trials-requires-clause-labels : goal.stays_by_trials-requires-clause-labels
stays_by_trials-requires-clause-labels c = λ e g.
    let there : slice_get (entries c.args.self.now) c.args.at ≡ Some e = subst (λ (xs : Entries). slice_get xs c.args.at ≡ Some e) c.stays_by_birth.ensures.same g in
    c.requires.labels e there ∙ ap (λ (q : ProgramTree). labels_to_try q e.next e.configuration) (sym c.stays_by_birth.ensures.program)

pub returns-in-Ok-true-clause-stays : goal.returns-in-Ok-true-clause-stays
returns-in-Ok-true-clause-stays c = λ yes e g. c.in-Ok-true.ensures.stays (ap Ok c.in-Ok-true.field-0-test) e g

pub returns-in-Ok-false-clause-stays : goal.returns-in-Ok-false-clause-stays
returns-in-Ok-false-clause-stays c = λ told e g.
    let ws = c.args.suspect.now.waiters.now.list.items in
    let o = c.args.suspect.now.object in
    let middle = c.stays_by_birth.new.self in
    let there : slice_get (entries middle) c.args.at ≡ Some e = ap (λ (xs : Entries). slice_get xs c.args.at) c.stays_by_birth.ensures.same ∙ g in
    subst (λ (xs : Entries). StaysIn (searched c.args.self.now) xs ws o c.args.at e) c.stays_by_birth.ensures.same
    (subst (λ (q : ProgramTree). StaysIn q (entries middle) ws o c.args.at e) c.stays_by_birth.ensures.program (c.stays_by_trials.ensures.stays told e there))
