use Rattle.std.proofs.Common.{◌≡◌, ◌<◌, ◌∙◌, ℕ, length, subst, sym, true, Vec, Global}
use Rattle.std.specs.Prelude.{IfSome}
use Rattle.run_types.specs.Tables.{Each}
use Rattle.pool_semantics.specs.PlainOf.{configuration_of, program_tree}
use Rattle.search_laws.specs.ClosedBeside.{IsReachedInOrder}
use Rattle.search_laws.specs.Dead.{IsDead}
use Rattle.pool_search.specs.SearchAnswers.{IsAnswer}
use Rattle.pool_search.specs.SearchTargets.{wants_stuck}
use Rattle.pool_search.specs.Steps.{HasRetraced}
use Rattle.pool_search.specs.declared.queries.Query.{Query}
use Rattle.pool_search.specs.declared.queries.SearchResult.TheVariants as R
use Rattle.pool_search.proofs.StepperRuns.{dead_in_order}
use Rattle.pool_search.proofs.TrialResults.{found_weaker}
use Rattle.pool_search.proofs.searching.dead_after.Goals as goal

pub dead_where-requires-clause-fresh : goal.dead_where-requires-clause-fresh
dead_where-requires-clause-fresh c = (subst (λ o. IfSome o (HasRetraced c.args.plain.now c.retrace_in_order.new.plain c.retrace_in_order.new.shown)) c.in-Ok-Some.field-0-is c.in-Ok-Some.ensures).ran.fresh

pub dead_where-requires-clause-program : goal.dead_where-requires-clause-program
dead_where-requires-clause-program c =
    (subst (λ o. IfSome o (HasRetraced c.args.plain.now c.retrace_in_order.new.plain c.retrace_in_order.new.shown)) c.in-Ok-Some.field-0-is c.in-Ok-Some.ensures).ran.program ∙ sym c.requires.program

pub returns-in-Ok-Some : goal.returns-in-Ok-Some
returns-in-Ok-Some c =
    let a = c.args.plain.now in
    let b = c.retrace_in_order.new.plain in
    let ls = c.retrace_in_order.new.shown in
    let n = c.in-Ok-Some.next in
    let ran = subst (λ o. IfSome o (HasRetraced a b ls)) c.in-Ok-Some.field-0-is c.in-Ok-Some.ensures in
    found_weaker
    (λ (names : Vec ℕ Global). IsReachedInOrder (program_tree b) n (configuration_of b) → (0 < length names.items) × Each (IsDead (program_tree b) (configuration_of b)) names.items)
    (λ (names : Vec ℕ Global). (q : Query) → wants_stuck q.wanted ≡ true → IsAnswer (program_tree a) q (R.Dead ls names))
    c.dead_where.result (λ names dead. dead_in_order a b ls n names c.requires.start ran dead) c.dead_where.ensures
