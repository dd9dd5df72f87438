use Rattle.code_verifier.specs.Scopes.{scope_of}
use Rattle.code_verifier.specs.Spreads.{SpreadInvariant, table_by, visits_by}
use Rattle.code_verifier.proofs.SpreadSteps.{IsGoing, remaining}
use Rattle.code_verifier.proofs.spread.spread_over.Given as goal

-- what is spread from here is what is spread from the front
abbrev pub invariant-loop-visit : goal.invariant-loop-visit
invariant-loop-visit l = SpreadInvariant l.spread × IsGoing (scope_of l.scope) l.code (table_by l.spread) (visits_by l.spread)

abbrev pub decreases-loop-visit : goal.decreases-loop-visit
decreases-loop-visit l = remaining (scope_of l.scope) l.code (table_by l.spread) (visits_by l.spread)
