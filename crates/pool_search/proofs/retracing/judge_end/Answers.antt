use Rattle.std.proofs.Common.{◌≡◌, subst}
use Rattle.std.specs.Prelude.{IfSome}
use Rattle.pool_search.specs.Steps.{HasRetraced}
use Rattle.pool_search.specs.declared.classifier.Classification.TheVariants as C
use Rattle.pool_search.proofs.retracing.judge_end.Goals as goal

pub returns-in-Ok-Some-clause-stuck : goal.returns-in-Ok-Some-clause-stuck
returns-in-Ok-Some-clause-stuck c = λ told.
    let is : c.judge.result ≡ C.Stuck = cc in
    ((c.in-Ok-Some.field-0-0, subst (λ o. IfSome o (HasRetraced c.args.plain.now c.retrace_in_order.new.plain c.retrace_in_order.new.shown)) c.in-Ok-Some.field-0-is c.in-Ok-Some.ensures), c.judge.ensures.stuck is)

pub returns-in-Ok-Some-clause-fault : goal.returns-in-Ok-Some-clause-fault
returns-in-Ok-Some-clause-fault c = λ told.
    let is : c.judge.result ≡ C.Fault = cc in
    ((c.in-Ok-Some.field-0-0, subst (λ o. IfSome o (HasRetraced c.args.plain.now c.retrace_in_order.new.plain c.retrace_in_order.new.shown)) c.in-Ok-Some.field-0-is c.in-Ok-Some.ensures), c.judge.ensures.fault is)
