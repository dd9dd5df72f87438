use Rattle.pool_search.specs.Steps.{HasShown}
use Rattle.pool_search.proofs.retracing.retrace.Given as goal

-- so far the stepper ran by the labels that are shown
abbrev pub invariant-loop-place : goal.invariant-loop-place
invariant-loop-place l = HasShown l.fn.plain l.plain l.fn.shown l.shown
