use Rattle.std.proofs.Common.{subst}
use Rattle.std.specs.Prelude.{IfSome}
use Rattle.pool_search.specs.Steps.{HasShown}
use Rattle.pool_search.proofs.StepperRuns.{shown_more}
use Rattle.pool_search.proofs.retracing.retrace.Goals as goal

pub pass_at-requires : goal.pass_at-requires
pass_at-requires c = c.loop-place.invariant.ran.fresh

pub loop-place-preserved : goal.loop-place-preserved
loop-place-preserved c =
    let l = c.loop-place in
    let more = subst (λ o. IfSome o (λ _. HasShown l.plain c.pass_at.new.plain l.shown c.pass_at.new.shown)) c.in-Ok-Some.field-0-is c.in-Ok-Some.ensures in
    shown_more c.args.plain.now l.plain c.pass_at.new.plain c.args.shown.now l.shown c.pass_at.new.shown l.invariant more
