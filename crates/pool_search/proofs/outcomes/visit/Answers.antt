use Rattle.std.proofs.Common.{◌≡◌, ℕ, true, Ok, ap, subst}
use Rattle.std.specs.Prelude.{IfSome}
use Rattle.pool_syntax.specs.Terms.{ProgramTree}
use Rattle.search_laws.specs.Outcomes.{Passed}
use Rattle.search_laws.specs.Tried.{Course, with_writes}
use Rattle.visited_set.specs.Courses.{course_of}
use Rattle.pool_search.specs.Entries.{entries, searched}
use Rattle.pool_search.specs.FoundOutcomes.{IsNoted}
use Rattle.pool_search.specs.Progress.{Entries, HasSearched}
use Rattle.pool_search.specs.Trials.{is_tried}
use Rattle.pool_search.proofs.EntryExpansion.{entry_there, has_searched, still_there}
use Rattle.pool_search.proofs.OutcomesComplete.{noted_moving}
use Rattle.pool_search.proofs.outcomes.visit.Goals as goal

-- the scope is that of a search for outcomes
in_scope : (p : ProgramTree) (k : Course) (n most : ℕ) (P : Passed → Type 0) (es fs : Entries) (at : ℕ) → (n ≡ most) × (k ≡ with_writes) → HasSearched p k n P es fs at
    → HasSearched p with_writes most P es fs at
in_scope p k n most P es fs at is h = subst (λ (q : Course). HasSearched p q most P es fs at) is.1 (subst (λ (m : ℕ). HasSearched p k m P es fs at) is.0 h)

pub returns-in-Ok-Led-clause-done : goal.returns-in-Ok-Led-clause-done
returns-in-Ok-Led-clause-done c =
    let p = searched c.args.explored.now in
    let k = course_of c.scope_of.result.keeps in
    let most = c.scope_of.result.most in
    let es = entries c.args.explored.now in
    let fs = entries c.expand.new.self in
    let P = IsNoted p c.args.ends.now.list.items in
    let here = entry_there es c.args.at c.requires.exists in
    let e = here.0 in
    let tried : is_tried c.in-Ok-Led.field-0 ≡ true = ap is_tried c.in-Ok-Led.field-0-is in
    let noted = noted_moving p c.args.ends.now.list.items e (c.in-Ok-Led.ensures.led c.in-Ok-Led.field-0-0 (ap Ok c.in-Ok-Led.field-0-is) e here.1) in
    λ _. in_scope p k most c.args.most P es fs c.args.at c.scope_of.ensures
    (has_searched p k most P es fs c.args.at e here.1 noted (c.in-Ok-Led.ensures.grows tried) (c.in-Ok-Led.ensures.expanded tried e here.1))

pub returns-in_ok-note_end-in-Ok-Tried-clause-done : goal.returns-in_ok-note_end-in-Ok-Tried-clause-done
returns-in_ok-note_end-in-Ok-Tried-clause-done c =
    let p = searched c.args.explored.now in
    let k = course_of c.scope_of.result.keeps in
    let most = c.scope_of.result.most in
    let es = entries c.args.explored.now in
    let fs = entries c.expand.new.self in
    let os = c.note_end.new.ends.list.items in
    let here = entry_there es c.args.at c.requires.exists in
    let e = here.0 in
    let tried : is_tried c.in-Ok-Tried.field-0 ≡ true = ap is_tried c.in-Ok-Tried.field-0-is in
    let grows = c.in-Ok-Tried.ensures.grows tried in
    let noted : IsNoted (searched c.expand.new.self) os e =
    subst (λ o. IfSome o (IsNoted (searched c.expand.new.self) os)) (still_there p k most es fs c.args.at e grows here.1) c.in_ok-note_end-in-Ok-Tried.ensures.noted
    in
    λ _. in_scope p k most c.args.most (IsNoted p os) es fs c.args.at c.scope_of.ensures
    (has_searched p k most (IsNoted p os) es fs c.args.at e here.1 (subst (λ (q : ProgramTree). IsNoted q os e) c.expand.ensures.program noted) grows
    (c.in-Ok-Tried.ensures.expanded tried e here.1))
