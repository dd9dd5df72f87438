use Rattle.std.proofs.Common.{◌≡◌, ap, subst, Some, None, Ok, true, slice_get}
use Rattle.std.proofs.lemmas.Result.{IfOk-weaker}
use Rattle.std.specs.List.{filter}
use Rattle.pool_syntax.specs.Terms.{ProgramTree}
use Rattle.search_laws.specs.Outcomes.{Passed}
use Rattle.search_laws.specs.Tried.{AllLeadInto, IsExpanded}
use Rattle.visited_set.specs.Courses.{course_of}
use Rattle.pool_search.specs.Entries.{entries, searched}
use Rattle.pool_search.specs.Trials.{is_asked, is_tried, CanMove}
use Rattle.pool_search.proofs.EntryExpansion.{by_all, can_move, still_there}
use Rattle.pool_search.proofs.explored.Explored.try_choices.Goals as goal

pub returns-in-Ok-Tried-clause-expanded : goal.returns-in-Ok-Tried-clause-expanded
returns-in-Ok-Tried-clause-expanded c =
    let p = searched c.args.self.now in
    let q = searched c.try_awaited.new.self in
    let k = course_of c.args.scope.keeps in
    let at = c.args.at in
    let old = entries c.args.self.now in
    let between = entries c.try_awaited.new.self in
    let es = entries c.try_labels.new.self in
    let labels = c.args.labels.now in
    let grows = c.in-Ok-Tried.ensures.grows (ap is_tried c.in-Ok-Tried.field-0-is) in
    IfOk-weaker c.try_labels.result
    (λ t. is_tried t ≡ true → (x : Passed) → slice_get between at ≡ Some x → AllLeadInto q k es x.next x.items x.configuration (filter (is_asked None) labels))
    (λ t. is_tried t ≡ true → (x : Passed) → slice_get old at ≡ Some x → IsExpanded p k es at x.next x.items x.configuration)
    (λ t h yes e g.
    let all : AllLeadInto p k es e.next e.items e.configuration (filter (is_asked None) labels) =
    subst (λ (r : ProgramTree). AllLeadInto r k es e.next e.items e.configuration (filter (is_asked None) labels)) c.try_awaited.ensures.program
    (h yes e (still_there p k c.args.scope.most old between at e grows g))
    in
    by_all p k es at e (subst (λ ls. AllLeadInto p k es e.next e.items e.configuration (filter (is_asked None) ls)) (c.requires.labels e g) all)) c.try_labels.ensures.tried

pub returns-in-Ok-Tried-clause-led : goal.returns-in-Ok-Tried-clause-led
returns-in-Ok-Tried-clause-led c = λ i told e g.
    let p = searched c.args.self.now in
    let k = course_of c.args.scope.keeps in
    let at = c.args.at in
    let between = entries c.try_awaited.new.self in
    let grows = c.in-Ok-Tried.ensures.grows (ap is_tried c.in-Ok-Tried.field-0-is) in
    let on = c.try_labels.ensures.led i told e (still_there p k c.args.scope.most (entries c.args.self.now) between at e grows g) in
    subst (λ (q : ProgramTree). CanMove q e.configuration) c.try_awaited.ensures.program (can_move (searched c.try_awaited.new.self) k (entries c.try_labels.new.self) at e None i on)

pub returns-in-Ok-Led-clause-expanded : goal.returns-in-Ok-Led-clause-expanded
returns-in-Ok-Led-clause-expanded c = λ yes e g. (c.in-Ok-Led.ensures.expanded c.in-Ok-Led.to (ap Ok c.in-Ok-Led.field-0-is) e g).0

pub returns-in-Ok-Led-clause-led : goal.returns-in-Ok-Led-clause-led
returns-in-Ok-Led-clause-led c = λ i told e g. (c.in-Ok-Led.ensures.expanded c.in-Ok-Led.to (ap Ok c.in-Ok-Led.field-0-is) e g).1
