use Rattle.std.proofs.Common.{ap, subst, sym, ◌∙◌, Ok}
use Rattle.pool_syntax.specs.Terms.{ProgramTree}
use Rattle.reachability.specs.Labels.{labels_to_try}
use Rattle.search_laws.specs.Tried.{IsExpanded}
use Rattle.visited_set.specs.Courses.{course_of}
use Rattle.pool_search.specs.Entries.{entries, searched}
use Rattle.pool_search.specs.Trials.{CanMove}
use Rattle.pool_search.proofs.EntryExpansion.{still_there, still_within, was_there}
use Rattle.pool_search.proofs.explored.Explored.try_awaited.Goals as goal

pub try_object-requires-clause-exists : goal.try_object-requires-clause-exists
try_object-requires-clause-exists c =
    let l = c.loop-object in
    still_within (searched c.args.self.now) (course_of c.args.scope.keeps) c.args.scope.most (entries c.args.self.now) (entries l.self) c.args.at l.invariant.grows c.requires.exists

pub try_object-requires-clause-labels : goal.try_object-requires-clause-labels
try_object-requires-clause-labels c = λ e g.
    let l = c.loop-object in
    let old = entries c.args.self.now in
    c.requires.labels e (was_there (searched c.args.self.now) (course_of c.args.scope.keeps) c.args.scope.most old (entries l.self) c.args.at e l.invariant.grows c.requires.exists g)
    ∙ ap (λ (q : ProgramTree). labels_to_try q e.next e.configuration) (sym l.invariant.program)

pub returns-in-Ok-Led-clause-expanded : goal.returns-in-Ok-Led-clause-expanded
returns-in-Ok-Led-clause-expanded c = λ i told e g.
    let l = c.loop-object in
    let k = course_of c.args.scope.keeps in
    let es = entries c.try_object.new.self in
    let there = still_there (searched c.args.self.now) k c.args.scope.most (entries c.args.self.now) (entries l.self) c.args.at e l.invariant.grows g in
    subst (λ (q : ProgramTree). IsExpanded q k es c.args.at e.next e.items e.configuration × CanMove q e.configuration) l.invariant.program
    (c.in-Ok-Led.ensures.expanded c.in-Ok-Led.to (ap Ok c.in-Ok-Led.field-0-is) e there)
