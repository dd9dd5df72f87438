-- The invariant of the nodes and links of a machine between events, and the effect of an event on them, without the
-- wires.
use Rattle.std.specs.Prelude.{◌≡◌, ℕ, ◌*◌, List, Some, None, true, length, map, slice_get}
use Rattle.run_types.specs.declared.types.Placement.{Placement}
use Rattle.code_semantics.specs.declared.unit.Unit.{Unit as Code}
use Rattle.code_semantics.specs.Proper.{IsProper}
use Rattle.code_semantics.specs.Suits.{Suits}
use Rattle.mesh_semantics.specs.Config.{Config}
use Rattle.mesh_semantics.specs.Delay.{Delay}
use Rattle.run_types.specs.Tables.{Each, Pair, no_entry_empty}
use Rattle.mesh_semantics.specs.Sound.{IsSound}
use Rattle.mesh_of_code.specs.Coded.{Placed, coded}
use Rattle.mesh_of_code.specs.CodeInvariant.{IsOfCode}
use Rattle.node_semantics.specs.Machine as M
use Rattle.node_semantics.specs.Machine.{Machine, MachineActed}
use Rattle.node_semantics.specs.WiresStandFor.{StandsFor}
use Rattle.rendezvous_protocol.specs.declared.packet.Packet.{Packet}
use Rattle.mesh_routing.specs.Links.{LinksOf}
use Rattle.mesh_routing.specs.declared.mesh.Mesh.{Mesh}
use Rattle.node_state.specs.NodeOf.{NodeOf}
use Rattle.node_state.specs.OfUnit.{IsOfPlacement, IsOfUnit}
use Rattle.machine_network.specs.LinkWires.{numbered_link}
use Rattle.pool_machine.specs.DidOf.{Did}
use Rattle.pool_machine.specs.DidOf as D

-- the machine of the definition of nodes and links, without the wires
abbrev pub machine_from : List NodeOf → List (Pair × List Packet) → Machine Placed
machine_from nodes links = record { nodes = map (λ n. n.state) nodes; links = map numbered_link links; wires = None }

-- A node with this number is of the unit and the placement.
pub record IsNodeOf (u : Code) (l : Placement) (i : ℕ) (n : NodeOf) : Type 0 where
  pub id : n.id ≡ i
  pub of_unit : IsOfUnit u n
  pub of_placement : IsOfPlacement u l n

-- The nodes and links are those of the unit and the placement.
pub record NodesAreWellFormed (u : Code) (l : Placement) (nodes : List NodeOf) (k : LinksOf Packet) : Type 0 where
  pub proper : IsProper u
  pub suits : Suits l u
  pub count : length nodes ≡ l.width * l.height
  pub each : (i : ℕ) (n : NodeOf) → slice_get nodes i ≡ Some n → IsNodeOf u l i n
  pub width : k.width ≡ l.width
  pub height : k.height ≡ l.height
  pub cells : k.cells ≡ l.cells
  pub filled : no_entry_empty k.links ≡ true

-- Such nodes and links represent a sound configuration with its delay, if no link is a wire.
pub record NodesInvariant (u : Code) (l : Placement) (nodes : List NodeOf) (k : LinksOf Packet) : Type 0 where
  pub parts : NodesAreWellFormed u l nodes k
  pub config : Config Placed
  pub delay : Delay
  pub sound : IsSound (coded u) (IsOfCode u) l config delay
  pub stands : StandsFor (coded u) l (machine_from nodes k.links) config delay

-- The mesh is that of the placement.
pub record IsMeshOf (l : Placement) (mesh : Mesh) : Type 0 where
  pub width : mesh.width ≡ l.width
  pub height : mesh.height ≡ l.height

-- each count of objects that a node has made has the property
abbrev pub EachCount : (ℕ → Type 0) → List NodeOf → Type 0
EachCount P nodes = (i : ℕ) (n : NodeOf) → slice_get nodes i ≡ Some n → Each P n.state.made

-- the outcome is the act of the machine by the definition, and the state is the one after it
abbrev pub IsDid : Did → List NodeOf → LinksOf Packet → List NodeOf → LinksOf Packet → MachineActed Placed → Type 0
IsDid (D.Line what) nodes links nodes' links' (M.Acts w m) = (what ≡ w) × (machine_from nodes' links'.links ≡ m)
IsDid (D.Full kind node) nodes links nodes' links' (M.Full k n) = (kind ≡ k) × (node ≡ n) × (nodes' ≡ nodes) × (links' ≡ links)
IsDid _ nodes links nodes' links' _ = ⊥
