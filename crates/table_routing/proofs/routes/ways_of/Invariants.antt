use Rattle.std.proofs.Common.{[]}
use Rattle.table_routing.specs.Tables.{AreNexts, with_routes}
use Rattle.table_routing.proofs.routes.ways_of.Given as goal

abbrev pub invariant-loop-place : goal.invariant-loop-place
invariant-loop-place l = AreNexts (with_routes l.placement []) l.place l.nexts.items
