use Rattle.std.proofs.Common.{◌*◌, drop}
use Rattle.table_routing.specs.Tables.{AreNexts, size, with_routes}
use Rattle.table_routing.proofs.routes.put_routes.Given as goal

-- the routes from here on stand in the table
abbrev pub invariant-loop-i : goal.invariant-loop-i
invariant-loop-i l = AreNexts (with_routes l.placement (drop l.i l.placement.routes)) (size l.placement * size l.placement) l.nexts.items
