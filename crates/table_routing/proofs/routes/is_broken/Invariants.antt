use Rattle.std.proofs.Common.{◌≡◌, ◌<◌, ◌-◌}
use Rattle.run_types.proofs.Laws.{follow}
use Rattle.table_routing.specs.Tables.{size}
use Rattle.table_routing.proofs.routes.is_broken.Given as goal

-- what is left of the path decides it
abbrev pub invariant-loop-step : goal.invariant-loop-step
invariant-loop-step l = (l.at < size l.placement) × (follow l.placement l.to (size l.placement - l.step) l.at ≡ follow l.placement l.to (size l.placement) l.from)
