use Rattle.std.proofs.Common.{◌≡◌, refl, [], List, sym, ap, ◌∙◌, subst, Some, get_or}
use Rattle.std.specs.Prelude.{IfSome}
use Rattle.run_types.specs.declared.types.Item.{Item}
use Rattle.pool_syntax.specs.Terms.{ProgramTree}
use Rattle.pool_relation.specs.Transition.{start}
use Rattle.pool_semantics.specs.PlainOf.{configuration_of}
use Rattle.visited_set.specs.Courses.{course_of}
use Rattle.pool_search.specs.Entries.{entries, lists, searched}
use Rattle.pool_search.specs.Progress.{Entries, Grows, IsReachedWith, IsSearchedTo}
use Rattle.pool_search.specs.Trials.{SettlesAt}
use Rattle.pool_search.proofs.EntryExpansion.{begun_at}
use Rattle.pool_search.proofs.RunExtension.{reached_start}
use Rattle.visited_set.proofs.Laws.{not_true}
use Rattle.pool_search.proofs.searching.begin.Goals as goal

pub settle_and_keep-requires-clause-program : goal.settle_and_keep-requires-clause-program
settle_and_keep-requires-clause-program c = c.in_ok-plain.ensures.program ∙ sym c.requires.program

pub settle_and_keep-requires-clause-reached : goal.settle_and_keep-requires-clause-reached
settle_and_keep-requires-clause-reached c =
    let e = c.args.explored.now in
    let k = course_of c.args.scope.keeps in
    let first = configuration_of c.in_ok-plain.plain in
    let nothing : get_or (lists e) 0 [] ≡ [] = ap (λ (ws : List (List Item)). get_or ws 0 []) c.requires.lists in
    subst (λ (w : List Item). IsReachedWith (searched e) k w first) (sym nothing)
    (reached_start (searched e) k first (subst (λ (q : ProgramTree). start q 0 ≡ Some first) (sym c.requires.program) c.in_ok-plain.ensures.start))

pub returns-in-Ok-Some-clause-begun : goal.returns-in-Ok-Some-clause-begun
returns-in-Ok-Some-clause-begun c = λ _.
    let e = c.args.explored.now in
    let p = searched e in
    let k = course_of c.args.scope.keeps in
    let most = c.args.scope.most in
    let first = configuration_of c.in_ok-plain.plain in
    let es = entries c.settle_and_keep.new.self in
    let place = c.in-Ok-Some.field-0-0 in
    let starts : start p 0 ≡ Some first = subst (λ (q : ProgramTree). start q 0 ≡ Some first) (sym c.requires.program) c.in_ok-plain.ensures.start in
    let nothing : get_or (lists e) 0 [] ≡ [] = ap (λ (ws : List (List Item)). get_or ws 0 []) c.requires.lists in
    let leads : SettlesAt p k es 1 (get_or (lists e) 0 []) first place = subst (λ o. IfSome o (λ i. SettlesAt p k es 1 (get_or (lists e) 0 []) first i)) c.in-Ok-Some.field-0-is c.in-Ok-Some.ensures.leads in
    let grows : Grows p k most (entries e) es = subst (λ o. IfSome o (λ _. Grows p k most (entries e) es)) c.in-Ok-Some.field-0-is c.in-Ok-Some.ensures.grows in
    subst (λ (q : ProgramTree). IsSearchedTo q k (λ _. Unit {0}) es 0) (sym c.settle_and_keep.ensures.program)
    (begun_at p k most es first place starts (subst (λ (w : List Item). SettlesAt p k es 1 w first place) nothing leads)
    (subst (λ (xs : Entries). Grows p k most xs es) c.requires.none grows))

pub returns-in-Ok-Some-clause-program : goal.returns-in-Ok-Some-clause-program
returns-in-Ok-Some-clause-program c = c.settle_and_keep.ensures.program

pub returns-in-Ok-None-clause-program : goal.returns-in-Ok-None-clause-program
returns-in-Ok-None-clause-program c = c.settle_and_keep.ensures.program

pub returns-in-Ok-None-clause-begun : goal.returns-in-Ok-None-clause-begun
returns-in-Ok-None-clause-begun c = λ told. absurd (not_true _ refl told)

pub returns-in-Ok-None-clause-within : goal.returns-in-Ok-None-clause-within
returns-in-Ok-None-clause-within c = λ told. absurd (not_true _ refl told)

pub returns-in_err-plain-clause-program : goal.returns-in_err-plain-clause-program
returns-in_err-plain-clause-program c = refl
