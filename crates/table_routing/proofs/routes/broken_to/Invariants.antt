use Rattle.std.proofs.Common.{◌≡◌, ◌-◌}
use Rattle.std.specs.List.{range_with_len}
use Rattle.run_types.specs.Routes.{broken_to}
use Rattle.table_routing.specs.Tables.{size}
use Rattle.table_routing.proofs.routes.broken_to.Given as goal

-- to none of the goals so far is the path broken
abbrev pub invariant-loop-to : goal.invariant-loop-to
invariant-loop-to l = broken_to l.placement l.from (range_with_len l.to (size l.placement - l.to)) ≡ broken_to l.placement l.from (range_with_len 0 (size l.placement))
