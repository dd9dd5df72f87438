use Rattle.std.proofs.Common.{◌≡◌, ◌<◌, ℕ, [], length, replicate}
use Rattle.cell_pool.specs.Lists.{pool}
use Rattle.mesh_routing.specs.Ways.{ends}
use Rattle.mesh_routing.specs.Nodes.{node_of}
use Rattle.mesh_routing.proofs.links.Links.make.Given as goal

abbrev pub invariant-loop-node : goal.invariant-loop-node
invariant-loop-node g l =
    (length l.nodes.items ≡ l.node) × ((j : ℕ) → j < l.node → node_of l.nodes.items j ≡ pool (replicate (length (ends l.mesh.width l.mesh.height j)) []) l.cells)
