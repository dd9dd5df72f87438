-- The invariant of the wires of a machine between events, and the effect of an event on nodes, links and wires.
use Rattle.std.specs.Prelude.{◌≡◌, ℕ, List, Option, Some, None, Bool, true, false}
use Rattle.run_types.specs.declared.types.Event.{Event}
use Rattle.run_types.specs.declared.types.Placement.{Placement}
use Rattle.code_semantics.specs.declared.unit.Unit.{Unit as Code}
use Rattle.mesh_semantics.specs.Config.{Config}
use Rattle.mesh_semantics.specs.Delay.{Delay}
use Rattle.run_types.specs.Paths.{IsLink}
use Rattle.mesh_semantics.specs.Sound.{IsSound}
use Rattle.run_types.specs.Tables.{Pair}
use Rattle.mesh_of_code.specs.Coded.{Placed, coded}
use Rattle.mesh_of_code.specs.CodeInvariant.{IsOfCode}
use Rattle.node_semantics.specs.Machine as M
use Rattle.node_semantics.specs.Machine.{MachineActed, machine_act}
use Rattle.node_semantics.specs.Agrees.{IsFresh}
use Rattle.node_semantics.specs.WiresStandFor.{StandsFor}
use Rattle.rendezvous_protocol.specs.declared.packet.Packet.{Packet}
use Rattle.mesh_routing.specs.Links.{LinksOf}
use Rattle.node_state.specs.NodeOf.{NodeOf}
use Rattle.machine_network.specs.LinkWires.{LinkWires, entered_at, has_wire}
use Rattle.machine_network.specs.WireReports.{AreNew}
use Rattle.machine_network.specs.MachineOn.{machine_on}
use Rattle.pool_machine.specs.Parts.{NodesAreWellFormed}
use Rattle.pool_machine.specs.DidOf.{Did}
use Rattle.pool_machine.specs.DidOf as D

-- if links are wires, each link has one
abbrev pub HaveWires : Placement → Option LinkWires → Type 0
HaveWires l None = Unit {0}
HaveWires l (Some ws) = (k : Pair) → IsLink l k → has_wire ws k ≡ true

-- if links are wires, the number of packets that entered each has the property
abbrev pub EachEntered : (ℕ → Type 0) → Option LinkWires → List (Pair × List Packet) → Type 0
EachEntered P None links = Unit {0}
EachEntered P (Some ws) links = (k : Pair) → P (entered_at ws links k)

-- new wires of all links, or none
abbrev pub AreMade : ℕ → ℕ → Bool → Option LinkWires → Type 0
AreMade width size true (Some ws) = AreNew width size size 0 ws
AreMade width size false None = Unit {0}
AreMade width size true None = ⊥
AreMade width size false (Some ws) = ⊥

-- Nodes, links and wires of the unit and the placement represent a sound configuration with its delay.
pub record WiredMachineInvariant (u : Code) (l : Placement) (nodes : List NodeOf) (k : LinksOf Packet) (wires : Option LinkWires) : Type 0 where
  pub parts : NodesAreWellFormed u l nodes k
  pub there : HaveWires l wires
  pub config : Config Placed
  pub delay : Delay
  pub sound : IsSound (coded u) (IsOfCode u) l config delay
  pub stands : StandsFor (coded u) l (machine_on nodes k.links wires) config delay

-- the outcome is the act of the machine by the definition, and the state is the one after it
abbrev pub IsDidOn : Did → List NodeOf → LinksOf Packet → Option LinkWires → List NodeOf → LinksOf Packet → Option LinkWires → MachineActed Placed → Type 0
IsDidOn (D.Line what) nodes links wires nodes' links' wires' (M.Acts w m) = (what ≡ w) × (machine_on nodes' links'.links wires' ≡ m)
IsDidOn (D.Full kind node) nodes links wires nodes' links' wires' (M.Full k n) = (kind ≡ k) × (node ≡ n) × (nodes' ≡ nodes) × (links' ≡ links) × (wires' ≡ wires)
IsDidOn _ nodes links wires nodes' links' wires' _ = ⊥

-- the event has this outcome by the definition, for some request number that is not outstanding
abbrev pub EventMakes : Code → Placement → ℕ → Event → Did → List NodeOf → LinksOf Packet → Option LinkWires → List NodeOf → LinksOf Packet → Option LinkWires → Type 0
EventMakes u l q e did nodes links wires nodes' links' wires' =
    (fresh : ℕ) × IsFresh (machine_on nodes links.links wires) fresh e × IsDidOn did nodes links wires nodes' links' wires' (machine_act (coded u) l q fresh (machine_on nodes links.links wires) e)
