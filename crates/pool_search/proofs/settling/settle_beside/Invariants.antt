use Rattle.pool_search.specs.Steps.{IsStill}
use Rattle.pool_search.proofs.settling.settle_beside.Given as goal

-- so far no transition was made
abbrev pub invariant-loop-label : goal.invariant-loop-label
invariant-loop-label l = IsStill l.initial.plain l.plain
