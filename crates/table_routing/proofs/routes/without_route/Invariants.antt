use Rattle.std.proofs.Common.{◌≡◌, ◌-◌}
use Rattle.std.specs.List.{range_with_len}
use Rattle.run_types.specs.Routes.{broken_from, without_route}
use Rattle.table_routing.specs.Tables.{size}
use Rattle.table_routing.proofs.routes.without_route.Given as goal

-- none of the nodes so far is without route to another one
abbrev pub invariant-loop-from : goal.invariant-loop-from
invariant-loop-from l = broken_from l.placement (range_with_len l.from (size l.placement - l.from)) (range_with_len 0 (size l.placement)) ≡ without_route l.placement
