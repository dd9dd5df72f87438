use Rattle.std.proofs.Common.{ap, Ok}
use Rattle.pool_search.proofs.StepperRuns.{retraced}
use Rattle.pool_search.proofs.retracing.retrace_in_order.Goals as goal

pub returns-in-Ok-true : goal.returns-in-Ok-true
returns-in-Ok-true c =
    retraced c.args.plain.now c.retrace.new.plain c.args.shown.now c.retrace.new.shown c.next_after.result c.requires.none (c.in-Ok-true.ensures (ap Ok c.in-Ok-true.field-0-test)) c.next_after.ensures.order c.next_after.ensures.next
