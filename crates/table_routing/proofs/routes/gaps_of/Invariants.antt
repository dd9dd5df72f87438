use Rattle.table_routing.specs.Tables.{AreGaps}
use Rattle.table_routing.proofs.routes.gaps_of.Given as goal

abbrev pub invariant-loop-place : goal.invariant-loop-place
invariant-loop-place l = AreGaps l.placement l.place l.gaps.items
