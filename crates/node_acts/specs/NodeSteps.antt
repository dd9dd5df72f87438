-- The premises and the outcomes of a step of a node, in terms of its parts.
use Rattle.std.specs.Prelude.{◌≡◌, ℕ, ◌+◌, ◌≤◌, ◌==◌, ◌&&◌, ◌||◌, not, Bool, List, length, nat_lt, Option, Some, None}
use Rattle.std.specs.Option.{option_map}
use Rattle.run_types.specs.declared.types.What.{What}
use Rattle.run_types.specs.declared.types.Value.{Value}
use Rattle.run_types.specs.declared.types.NameId.{NameId}
use Rattle.run_types.specs.declared.types.Label.{Label}
use Rattle.run_types.specs.declared.types.Label.TheVariants as L
use Rattle.run_types.specs.declared.types.FullKind.{FullKind}
use Rattle.run_types.specs.declared.types.Placement.{Placement}
use Rattle.code_semantics.specs.declared.unit.Unit.{Unit as Code}
use Rattle.mesh_of_code.specs.Coded.{Placed, coded}
use Rattle.node_semantics.specs.Node as N
use Rattle.node_semantics.specs.Node.{NodeActed, NodeState, message_act, message_count, name_at, packet_count, slot_act, within_node}
use Rattle.node_semantics.specs.Agrees.{IsUnused}
use Rattle.mesh_semantics.specs.Delay as D
use Rattle.run_types.specs.ObjectNames as DObjectNames
use Rattle.slot_queues.specs.declared.Message.{Message}
use Rattle.node_heap.specs.Heaps.{frames_used}
use Rattle.rendezvous_protocol.specs.declared.packet.Packet.{Packet}
use Rattle.rendezvous_protocol.specs.Packets.{numbered}
use Rattle.node_state.specs.declared.state.NodeParts.{NodeParts}
use Rattle.node_acts.specs.ActOf.{Act}
use Rattle.node_acts.specs.ActOf as A
use Rattle.node_state.specs.NodeOf.{NodeOf}
use Rattle.node_state.specs.OfUnit.{IsOfPlacement, IsOfUnit}
use Rattle.node_state.specs.Views.{NodeInvariant, arrival_of, node_of, slot_at, slots_of}

-- The parts keep their invariant, and are of the unit and the placement. They are within the limits, with `leaving`
-- packets on the links that leave the node.
pub record IsSet (u : Code) (l : Placement) (leaving : ℕ) (p : NodeParts) : Type 0 where
  pub whole : NodeInvariant p
  pub unit : IsOfUnit u (node_of p)
  pub placement : IsOfPlacement u l (node_of p)
  pub cells : message_count (slots_of p) + leaving ≤ l.cells
  pub frames : frames_used p.heap ≤ l.frames

-- The outcome is a line and the packet that leaves: the act is the definition's, and its cells are free.
pub record IsLine (u : Code) (l : Placement) (leaving : ℕ) (what : What) (packet : Option Packet) (old new : NodeParts) (a : NodeActed Placed) : Type 0 where
  pub whole : NodeInvariant new
  pub unit : IsOfUnit u (node_of new)
  pub is : a ≡ N.Acts what (option_map numbered packet) (node_of new).state
  pub rest : node_of new ≡ record (node_of old) { state = (node_of new).state; ready = (node_of new).ready }
  pub cells : message_count (slots_of new) + leaving + packet_count (option_map numbered packet) ≤ l.cells

-- The outcome is a limit: the act would exceed it, and nothing is changed.
pub record IsFull (u : Code) (l : Placement) (leaving : ℕ) (kind : FullKind) (old new : NodeParts) (a : NodeActed Placed) : Type 0 where
  pub same : new ≡ old
  pub full : within_node (coded u) l leaving a ≡ N.Full kind

-- the outcome reports the act, or the limit that the act would exceed
abbrev pub ReportsAct : Code → Placement → ℕ → Act → NodeParts → NodeParts → NodeActed Placed → Type 0
ReportsAct u l leaving A.Idle old new a = ⊥
ReportsAct u l leaving (A.Line what packet) old new a = IsLine u l leaving what packet old new a
ReportsAct u l leaving (A.Full kind) old new a = IsFull u l leaving kind old new a

-- the turn of slot i, of at most q local transitions
abbrev pub turn_at : Code → Placement → ℕ → ℕ → NodeParts → ℕ → NodeActed Placed
turn_at u l q fresh p i =
    slot_act (coded u) l q p.id fresh (node_of p).state i (slot_at p i) ((coded u).kind (name_at p.id i) (slot_at p i).state)

-- the outcome reports the turn, for some number that no slot has outstanding
abbrev pub IsTurned : Code → Placement → ℕ → ℕ → Act → NodeParts → NodeParts → ℕ → Type 0
IsTurned u l q leaving act old new i = (fresh : ℕ) × IsUnused fresh (node_of old).state × ReportsAct u l leaving act old new (turn_at u l q fresh old i)

-- The state of the node is now x.
pub record IsMoved (u : Code) (old new : NodeParts) (x : NodeState Placed) : Type 0 where
  pub whole : NodeInvariant new
  pub unit : IsOfUnit u (node_of new)
  pub is : node_of new ≡ record (node_of old) { state = x; ready = (node_of new).ready }

-- the packet of a message to an object
abbrev pub packet_by : Option ℕ → ℕ → ℕ → ℕ → List Value → D.Packet
packet_by None from to method args = D.Async from to method args
packet_by (Some number) from to method args = D.Request from to method args

-- the act of posting a message: into the mailbox of its receiver, or to another node
abbrev pub posted : What → ℕ → Message → ℕ → NodeState Placed → NodeActed Placed
posted what to m n x = message_act n what x to (arrival_of m) (packet_by m.call m.from to m.method.0 m.args)

-- whether a message to this object lacks a cell; it needs one if it goes to an existing object of this node, or leaves
-- the node
abbrev pub lacks_cell : Placement → ℕ → NodeOf → ℕ → Bool
lacks_cell l leaving n to =
    (not (DObjectNames.node_of to == n.id) || nat_lt (DObjectNames.slot_of to) (length n.state.slots)) && not (nat_lt (message_count n.state.slots + leaving) l.cells)

-- the label of a message that the object o accepts: an answer to its caller, or an asynchronous message
abbrev pub label_by : Option ℕ → ℕ → ℕ → NameId → List Value → Label
label_by None o from method args = L.Take o from method args
label_by (Some number) o from method args = L.Answer o from method args

abbrev pub taken_label : ℕ → Message → Label
taken_label o m = label_by m.call o m.from m.method m.args

-- if the outcome is a limit, the last slot is the one before
abbrev pub kept : Act → NodeParts → Option ℕ → NodeParts
kept (A.Full kind) p before = record p { last = before }
kept _ p before = p
