use Rattle.std.proofs.Common.{◌≡◌, ◌∙◌, Some, true, sym, subst}
use Rattle.std.specs.Prelude.{IfSome}
use Rattle.pool_syntax.specs.Terms.{ProgramTree}
use Rattle.pool_relation.specs.Transition.{start}
use Rattle.pool_semantics.specs.PlainOf.{configuration_of, program_tree}
use Rattle.pool_search.specs.SearchAnswers.{IsAnswer}
use Rattle.pool_search.specs.SearchTargets.{wants_stuck}
use Rattle.pool_search.specs.declared.queries.Query.{Query}
use Rattle.pool_search.specs.declared.queries.SearchResult.TheVariants as R
use Rattle.pool_search.proofs.searching.show_dead.Goals as goal

pub dead_after-requires-clause-start : goal.dead_after-requires-clause-start
dead_after-requires-clause-start c =
    subst (λ (t : ProgramTree). start t 0 ≡ Some (configuration_of c.in_ok-plain.plain)) (sym c.in_ok-plain.ensures.program) c.in_ok-plain.ensures.start

pub dead_after-requires-clause-program : goal.dead_after-requires-clause-program
dead_after-requires-clause-program c = c.requires.program ∙ sym c.in_ok-plain.ensures.program

pub returns-in-Some : goal.returns-in-Some
returns-in-Some c = λ q asked.
    let names = c.in-Some.names in
    let ls = c.dead_after.new.labels in
    let told : (q : Query) → wants_stuck q.wanted ≡ true → IsAnswer (program_tree c.in_ok-plain.plain) q (R.Dead ls names) =
    subst (λ r. IfSome r (λ ns. (q : Query) → wants_stuck q.wanted ≡ true → IsAnswer (program_tree c.in_ok-plain.plain) q (R.Dead ls ns))) c.in-Some.is c.in_ok-names.ensures
    in
    subst (λ (t : ProgramTree). IsAnswer t q (R.Dead ls names)) c.in_ok-plain.ensures.program (told q asked)
