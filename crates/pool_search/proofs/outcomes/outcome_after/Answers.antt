use Rattle.std.proofs.Common.{◌≡◌, subst}
use Rattle.std.specs.Prelude.{IfSome}
use Rattle.pool_semantics.specs.PlainOf.{configuration_of, program_tree}
use Rattle.reachability.specs.Outcomes.{written}
use Rattle.pool_search.specs.declared.outcomes.Outcome.{Outcome}
use Rattle.pool_search.specs.OutcomeTargets.{IsEndOf, IsRunInOrder}
use Rattle.pool_search.specs.Steps.{HasRetraced}
use Rattle.pool_search.proofs.StepperRuns.{run_to_end}
use Rattle.pool_search.proofs.TrialResults.{found_weaker}
use Rattle.pool_search.proofs.outcomes.outcome_after.Goals as goal

pub outcome_at-requires : goal.outcome_at-requires
outcome_at-requires c =
    (subst (λ r. IfSome r (λ n. HasRetraced c.args.plain.now c.retrace_in_order.new.plain c.retrace_in_order.new.shown n)) c.in-Ok-Some.field-0-is c.in-Ok-Some.ensures).ran.fresh

pub returns-in-Ok-Some : goal.returns-in-Ok-Some
returns-in-Ok-Some c =
    let a = c.args.plain.now in
    let b = c.retrace_in_order.new.plain in
    let ls = c.retrace_in_order.new.shown in
    let h = subst (λ r. IfSome r (λ n. HasRetraced a b ls n)) c.in-Ok-Some.field-0-is c.in-Ok-Some.ensures in
    found_weaker (λ (o : Outcome). IsEndOf o.kind (program_tree b) (configuration_of b) × (written ls ≡ o.items.items)) (λ (o : Outcome). IsRunInOrder (program_tree a) o ls) c.outcome_at.result
    (λ o ends. run_to_end a b ls c.in-Ok-Some.field-0-0 o c.requires.start h ends.0 ends.1) c.outcome_at.ensures
