use Rattle.std.proofs.Common.{◌≡◌, ◌<◌, ℕ}
use Rattle.cell_pool.specs.Lists.{lengths}
use Rattle.mesh_routing.specs.Nodes.{node_of}
use Rattle.mesh_routing.proofs.links.Links.is_empty.Given as goal

abbrev pub invariant-loop-node : goal.invariant-loop-node
invariant-loop-node g l = (j : ℕ) → j < l.node → lengths (node_of l.self-inside.nodes.items j).lists ≡ 0
