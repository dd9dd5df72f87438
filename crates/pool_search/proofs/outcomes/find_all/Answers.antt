use Rattle.std.proofs.Common.{◌≡◌, ◌≤◌, ◌∙◌, ap, sym, subst, ℕ, length, arith, Ok}
use Rattle.std.specs.Prelude.{IfOk}
use Rattle.run_types.specs.Tables.{Each}
use Rattle.pool_syntax.specs.Terms.{ProgramTree}
use Rattle.pool_syntax.specs.TreeOf.{program_of}
use Rattle.search_laws.specs.Tried.{with_writes}
use Rattle.search_laws.proofs.Laws.{nameless}
use Rattle.visited_set.specs.Courses.{course_of}
use Rattle.pool_search.specs.Entries.{entries, searched}
use Rattle.pool_search.specs.FoundOutcomes.{IsNoted}
use Rattle.pool_search.specs.OutcomeTargets.{IsShown}
use Rattle.pool_search.specs.Progress.{IsSearchedTo}
use Rattle.pool_search.proofs.OutcomesComplete.{no_outcome_is_missing}
use Rattle.pool_search.proofs.SearchComplete.{searched_begun}
use Rattle.pool_search.proofs.outcomes.find_all.Goals as goal

pub returns-in-Ok-true-clause-whole : goal.returns-in-Ok-true-clause-whole
returns-in-Ok-true-clause-whole g c = λ told.
    let program = c.args.program.now.program.now in
    let p = program_of program in
    let es = entries c.visit_all.new.explored in
    let os = c.visit_all.new.ends.list.items in
    let all : length es ≤ length es = omega arith in
    let same : searched c.begin.new.explored ≡ p = c.begin.ensures.program ∙ c.requires.program in
    no_outcome_is_missing p os es (length es) (nameless program) all
    (subst (λ (q : ProgramTree). IsSearchedTo q with_writes (IsNoted q os) es (length es)) same (c.visit_all.ensures.whole told))

-- no entry was visited yet
pub visit_all-requires-clause-begun : goal.visit_all-requires-clause-begun
visit_all-requires-clause-begun g c =
    let e = c.begin.new.explored in
    let k = course_of c.scope_of.result.keeps in
    let begun : IsSearchedTo (searched e) k (λ _. Unit {0}) (entries e) 0 = c.in-Ok-true.ensures.begun (ap Ok c.in-Ok-true.field-0-test) in
    let told : IsSearchedTo (searched e) with_writes (λ _. Unit {0}) (entries e) 0 = subst (λ j. IsSearchedTo (searched e) j (λ _. Unit {0}) (entries e) 0) c.scope_of.ensures.1 begun in
    searched_begun (searched e) with_writes (IsNoted (searched e) c.args.ends.now.list.items) (entries e) told

pub returns-in-Ok-true-clause-shown : goal.returns-in-Ok-true-clause-shown
returns-in-Ok-true-clause-shown g c =
    let os = c.visit_all.new.ends.list.items in
    subst (λ (q : ProgramTree). IfOk c.visit_all.result (λ _. Each (IsShown q) os)) (c.begin.ensures.program ∙ c.requires.program) c.visit_all.ensures.shown

pub returns-in-Ok-false-clause-shown : goal.returns-in-Ok-false-clause-shown
returns-in-Ok-false-clause-shown g c = subst (Each (IsShown (program_of c.args.program.now.program.now))) (sym c.requires.none_found) tt

pub visit_all-requires-clause-within : goal.visit_all-requires-clause-within
visit_all-requires-clause-within g c = subst (λ (n : ℕ). length (entries c.begin.new.explored) ≤ n) c.scope_of.ensures.0 (c.in-Ok-true.ensures.within (ap Ok c.in-Ok-true.field-0-test))
