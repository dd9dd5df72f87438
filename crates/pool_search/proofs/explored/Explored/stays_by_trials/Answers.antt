use Rattle.std.proofs.Common.{◌≡◌, ◌<◌, ◌∙◌, refl, ap, length, subst, sym, None, Ok, Some, Bool, true, false, not, slice_get}
use Rattle.std.specs.List.{filter}
use Rattle.run_types.specs.Tables.{Each}
use Rattle.pool_syntax.specs.Terms.{ProgramTree}
use Rattle.pool_search.specs.Entries.{entries, searched}
use Rattle.pool_search.specs.Leads.{IsBeside}
use Rattle.pool_search.specs.Progress.{Entries}
use Rattle.pool_search.specs.Trials.{is_asked, is_tried}
use Rattle.pool_search.proofs.WaiterLaws.{stays_by_all}
use Rattle.pool_search.proofs.explored.Explored.stays_by_trials.Goals as goal

twice : (b : Bool) → not (not b) ≡ true → b ≡ true
twice true h = refl
twice false h = absurd (let z : false ≡ true = h in cc)

pub are_beside-requires : goal.are_beside-requires
are_beside-requires c = subst (λ (xs : Entries). c.args.at < length xs) (sym c.stays_by_choice.ensures.same) c.requires.exists

pub returns-in-Ok-true-clause-stays : goal.returns-in-Ok-true-clause-stays
returns-in-Ok-true-clause-stays c = λ yes e g. c.in-Ok-true.ensures.stays (ap Ok c.in-Ok-true.field-0-test) e g

pub returns-in-Ok-clause-stays : goal.returns-in-Ok-clause-stays
returns-in-Ok-clause-stays c = λ told e g.
    let p = searched c.args.self.now in
    let es = entries c.args.self.now in
    let ws = c.args.suspect.now.waiters.now.list.items in
    let o = c.args.suspect.now.object in
    let at = c.args.at in
    let asked = filter (is_asked None) in
    let middle = c.stays_by_choice.new.self in
    let trial = c.in-Ok.trial in
    let yes : not c.is_over.result ≡ true = cc in
    let tried : is_tried trial ≡ true = twice (is_tried trial) (ap not (sym c.is_over.ensures) ∙ yes) in
    let there : slice_get (entries middle) at ≡ Some e = ap (λ (xs : Entries). slice_get xs at) c.stays_by_choice.ensures.same ∙ g in
    let by_now : Each (IsBeside p es ws o e.next e.configuration) (asked c.args.labels.now) =
    subst (λ (xs : Entries). Each (IsBeside p xs ws o e.next e.configuration) (asked c.args.labels.now)) c.stays_by_choice.ensures.same
    (subst (λ (q : ProgramTree). Each (IsBeside q (entries middle) ws o e.next e.configuration) (asked c.args.labels.now)) c.stays_by_choice.ensures.program (c.in-Ok.ensures.tried tried e there))
    in
    stays_by_all p es ws o at e.next e.configuration e (e.items, g) g (subst (λ ls. Each (IsBeside p es ws o e.next e.configuration) (asked ls)) (c.requires.labels e g) by_now)
