-- The nodes of a unit, and the machine of nodes, links and wires.
use Rattle.std.specs.Prelude.{◌≡◌, ℕ, List, Option, Some, map, slice_get}
use Rattle.std.specs.Option.{option_map}
use Rattle.code_semantics.specs.declared.unit.Unit.{Unit as Code}
use Rattle.run_types.specs.Tables.{Pair}
use Rattle.mesh_of_code.specs.Coded.{Placed}
use Rattle.node_semantics.specs.Machine.{Machine}
use Rattle.rendezvous_protocol.specs.declared.packet.Packet.{Packet}
use Rattle.node_state.specs.NodeOf.{NodeOf}
use Rattle.node_state.specs.OfUnit.{IsOfUnit}
use Rattle.machine_network.specs.LinkWires.{LinkWires, numbered_link, numbered_wires}

-- nodes of the unit, numbered from 0
abbrev pub AreOfUnit : Code → List NodeOf → Type 0
AreOfUnit u nodes = (i : ℕ) (n : NodeOf) → slice_get nodes i ≡ Some n → (n.id ≡ i) × IsOfUnit u n

-- the machine of the definition of nodes and links, with or without wires
abbrev pub machine_on : List NodeOf → List (Pair × List Packet) → Option LinkWires → Machine Placed
machine_on nodes links wires = record { nodes = map (λ n. n.state) nodes; links = map numbered_link links; wires = option_map numbered_wires wires }
