use Rattle.std.proofs.Common.{◌≡◌, Some, sym, subst}
use Rattle.std.specs.Prelude.{IfSome}
use Rattle.pool_syntax.specs.Terms.{ProgramTree}
use Rattle.pool_relation.specs.Transition.{start}
use Rattle.pool_semantics.specs.PlainOf.{configuration_of, program_tree}
use Rattle.pool_search.specs.OutcomeTargets.{IsRunInOrder}
use Rattle.pool_search.proofs.outcomes.show_run.Goals as goal

pub outcome_after-requires-clause-start : goal.outcome_after-requires-clause-start
outcome_after-requires-clause-start c =
    subst (λ (q : ProgramTree). start q 0 ≡ Some (configuration_of c.in_ok-plain.plain)) (sym c.in_ok-plain.ensures.program) c.in_ok-plain.ensures.start

pub returns-in-Some : goal.returns-in-Some
returns-in-Some c =
    let ls = c.outcome_after.new.labels in
    let o = c.in-Some.outcome in
    subst (λ (q : ProgramTree). IsRunInOrder q o ls) c.in_ok-plain.ensures.program
    (subst (λ r. IfSome r (λ o. IsRunInOrder (program_tree c.in_ok-plain.plain) o ls)) c.in-Some.is c.in_ok-outcome.ensures)
