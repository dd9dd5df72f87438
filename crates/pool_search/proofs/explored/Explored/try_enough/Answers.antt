use Rattle.std.proofs.Common.{◌≡◌, ◌∙◌, ap, subst, sym, Some, Ok, true}
use Rattle.std.proofs.lemmas.Result.{IfOk-weaker}
use Rattle.pool_syntax.specs.Terms.{ProgramTree}
use Rattle.reachability.specs.Labels.{labels_to_try}
use Rattle.std.specs.List.{slice_get}
use Rattle.search_laws.specs.Outcomes.{Passed}
use Rattle.search_laws.specs.Tried.{IsExpanded}
use Rattle.visited_set.specs.Courses.{course_of}
use Rattle.pool_search.specs.Entries.{entries, searched}
use Rattle.pool_search.specs.Trials.{is_tried, CanMove}
use Rattle.pool_search.proofs.EntryExpansion.{still_there, was_there}
use Rattle.pool_search.proofs.explored.Explored.try_enough.Goals as goal

pub try_choices-requires-clause-labels : goal.try_choices-requires-clause-labels
try_choices-requires-clause-labels c = λ e g.
    let grows = c.in-Ok-Tried.ensures.grows (ap is_tried c.in-Ok-Tried.field-0-is) in
    c.requires.labels e (was_there (searched c.args.self.now) (course_of c.args.scope.keeps) c.args.scope.most (entries c.args.self.now) (entries c.try_birth.new.self) c.args.at e grows c.requires.exists g)
    ∙ ap (λ (q : ProgramTree). labels_to_try q e.next e.configuration) (sym c.try_birth.ensures.program)

pub returns-in-Ok-Tried-clause-expanded : goal.returns-in-Ok-Tried-clause-expanded
returns-in-Ok-Tried-clause-expanded c =
    let p = searched c.args.self.now in
    let q = searched c.try_birth.new.self in
    let k = course_of c.args.scope.keeps in
    let at = c.args.at in
    let old = entries c.args.self.now in
    let between = entries c.try_birth.new.self in
    let es = entries c.try_choices.new.self in
    let grows = c.in-Ok-Tried.ensures.grows (ap is_tried c.in-Ok-Tried.field-0-is) in
    IfOk-weaker c.try_choices.result
    (λ t. is_tried t ≡ true → (x : Passed) → slice_get between at ≡ Some x → IsExpanded q k es at x.next x.items x.configuration)
    (λ t. is_tried t ≡ true → (x : Passed) → slice_get old at ≡ Some x → IsExpanded p k es at x.next x.items x.configuration)
    (λ t h yes e g. subst (λ (r : ProgramTree). IsExpanded r k es at e.next e.items e.configuration) c.try_birth.ensures.program
    (h yes e (still_there p k c.args.scope.most old between at e grows g))) c.try_choices.ensures.expanded

pub returns-in-Ok-Tried-clause-led : goal.returns-in-Ok-Tried-clause-led
returns-in-Ok-Tried-clause-led c = λ i told e g.
    let grows = c.in-Ok-Tried.ensures.grows (ap is_tried c.in-Ok-Tried.field-0-is) in
    subst (λ (q : ProgramTree). CanMove q e.configuration) c.try_birth.ensures.program
    (c.try_choices.ensures.led i told e (still_there (searched c.args.self.now) (course_of c.args.scope.keeps) c.args.scope.most (entries c.args.self.now) (entries c.try_birth.new.self) c.args.at e grows g))

pub returns-in-Ok-Led-clause-expanded : goal.returns-in-Ok-Led-clause-expanded
returns-in-Ok-Led-clause-expanded c = λ yes e g. (c.in-Ok-Led.ensures.expanded c.in-Ok-Led.to (ap Ok c.in-Ok-Led.field-0-is) e g).0

pub returns-in-Ok-Led-clause-led : goal.returns-in-Ok-Led-clause-led
returns-in-Ok-Led-clause-led c = λ i told e g. (c.in-Ok-Led.ensures.expanded c.in-Ok-Led.to (ap Ok c.in-Ok-Led.field-0-is) e g).1
