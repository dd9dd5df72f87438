use Rattle.std.proofs.Common.{◌≡◌, ◌<◌, ◌*◌, ℕ, false}
use Rattle.run_types.specs.Tables.{list_at, pair_cmp}
use Rattle.run_types.specs.Paths.{AreNeighbours}
use Rattle.pool_machine.specs.ObjectReport.{is_brought}
use Rattle.pool_machine.proofs.report.is_on_way.Given as goal

abbrev pub invariant-loop-from : goal.invariant-loop-from
invariant-loop-from l = (a : ℕ) → a < l.from → (b : ℕ) → b < l.mesh.width * l.mesh.height → AreNeighbours l.mesh.width a b → is_brought l.name (list_at pair_cmp (a, b) l.links.links) ≡ false
