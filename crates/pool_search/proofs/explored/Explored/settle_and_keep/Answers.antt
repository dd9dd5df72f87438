use Rattle.std.proofs.Common.{◌≡◌, ◌∙◌, [], get_or, ap, subst, Ok, Some, ℕ, slice_get}
use Rattle.pool_syntax.specs.Terms.{ProgramTree}
use Rattle.pool_semantics.specs.PlainOf.{configuration_of}
use Rattle.search_laws.specs.Tried.{Follows}
use Rattle.visited_set.specs.Courses.{course_of}
use Rattle.visited_set.specs.VisitedConfigurations.{entry}
use Rattle.pool_search.specs.Entries.{entries, lists, searched}
use Rattle.pool_search.specs.Trials.{SettlesAt}
use Rattle.pool_search.proofs.RunExtension.{keeps_nothing, reached_on}
use Rattle.pool_search.proofs.TrialResults.{found_weaker}
use Rattle.pool_search.proofs.explored.Explored.settle_and_keep.Goals as goal

pub keep-requires-clause-fresh : goal.keep-requires-clause-fresh
keep-requires-clause-fresh c = (c.in-Ok-None.ensures (ap Ok c.in-Ok-None.field-0-is)).fresh

pub keep-requires-clause-program : goal.keep-requires-clause-program
keep-requires-clause-program c = (c.in-Ok-None.ensures (ap Ok c.in-Ok-None.field-0-is)).program ∙ c.requires.program

pub keep-requires-clause-reached : goal.keep-requires-clause-reached
keep-requires-clause-reached c =
    let k = course_of c.args.scope.keeps in
    let from = configuration_of c.args.plain.now in
    let to = configuration_of c.settle.new.plain in
    reached_on (searched c.args.self.now) k (keeps_nothing c.args.scope.keeps) (get_or (lists c.args.self.now) c.args.written []) from to c.requires.reached
    (subst (λ (q : ProgramTree). Follows q k from to) c.requires.program (c.in-Ok-None.ensures (ap Ok c.in-Ok-None.field-0-is)).follows)

pub returns-in-Ok-None-clause-leads : goal.returns-in-Ok-None-clause-leads
returns-in-Ok-None-clause-leads c =
    let p = searched c.args.self.now in
    let k = course_of c.args.scope.keeps in
    let es = entries c.keep.new.self in
    let w = get_or (lists c.args.self.now) c.args.written [] in
    let from = configuration_of c.args.plain.now in
    let to = configuration_of c.settle.new.plain in
    let follows : Follows p k from to = subst (λ (q : ProgramTree). Follows q k from to) c.requires.program (c.in-Ok-None.ensures (ap Ok c.in-Ok-None.field-0-is)).follows in
    found_weaker (λ (i : ℕ). slice_get es i ≡ Some (entry c.args.next w to)) (λ (i : ℕ). SettlesAt p k es c.args.next w from i) c.keep.result (λ i there. record { to = to; follows = follows; there = there }) c.keep.ensures.there
