use Rattle.std.proofs.Common.{◌≡◌, ◌<◌, ℕ, false}
use Rattle.run_types.specs.Tables.{list_at, pair_cmp}
use Rattle.run_types.specs.Paths.{AreNeighbours}
use Rattle.pool_machine.specs.ObjectReport.{is_brought}
use Rattle.pool_machine.proofs.report.node_brings.Given as goal

abbrev pub invariant-loop-to : goal.invariant-loop-to
invariant-loop-to l = (b : ℕ) → b < l.to → AreNeighbours l.mesh.width l.from b → is_brought l.name (list_at pair_cmp (l.from, b) l.links.links) ≡ false
