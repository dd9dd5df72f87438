-- The parts of a station: what contracts see of them, their invariant, and the steps of the code.
use Rattle.std.specs.Prelude.{◌≡◌, IsTrue, ℕ, ◌+◌, ◌*◌, ◌^◌, ◌≤◌, ◌<◌, ◌==◌, List, length, get_or, slice_get, slice_set, nat_lt, true, false, Option, Some, None, Result, Ok, Err, if◌then◌else◌}
use Rattle.std.specs.FinMap.Entries.{is_sorted}
use Rattle.run_types.specs.declared.types.FullKind.TheVariants as F
use Rattle.run_types.specs.declared.types.Placement.{Placement}
use Rattle.run_types.specs.declared.types.What.TheVariants as W
use Rattle.run_types.specs.LinkTables.{leaving, push_list}
use Rattle.run_types.specs.Paths.{next}
use Rattle.run_types.specs.Tables.{Each, pair_cmp, list_at}
use Rattle.mesh_semantics.specs.Act.{goal_node}
use Rattle.mesh_semantics.specs.Language.{Language}
use Rattle.mesh_semantics.specs.NumberedPackets.{NumberedPacket}
use Rattle.mesh_routing.specs.Links.{LinksOf}
use Rattle.code_semantics.specs.declared.unit.Unit.{Unit as Code}
use Rattle.mesh_of_code.specs.Coded.{Placed, coded}
use Rattle.node_semantics.specs.Machine.{Machine, machine_start}
use Rattle.node_semantics.specs.Node as N
use Rattle.node_semantics.specs.Node.{NodeActed, NodeState, message_count, receipt_act}
use Rattle.rendezvous_protocol.specs.declared.packet.Packet.{Packet}
use Rattle.rendezvous_protocol.specs.Packets.{numbered}
use Rattle.node_state.specs.NodeOf.{NodeOf}
use Rattle.node_state.specs.OfUnit.{IsOfPlacement, IsOfUnit}
use Rattle.node_acts.specs.declared.types.TurnOutcome.{TurnOutcome}
use Rattle.node_acts.specs.declared.types.TurnOutcome.TheVariants as T
use Rattle.node_station.specs.declared.parts.StationParts.{StationParts}
use Rattle.node_station.specs.declared.outcome.StationOutcome.{StationOutcome}
use Rattle.node_station.specs.declared.outcome.StationOutcome.TheVariants as O
use Rattle.node_station.specs.declared.outcome.StationFault.{StationFault}
use Rattle.node_station.specs.declared.outcome.StationFault.TheVariants as X
use Rattle.node_station.specs.StationOf.{StationOf}
use Rattle.node_station.specs.Outcomes.{is_other_node}

-- the station as contracts see it
abbrev pub view_of : StationParts → StationOf
view_of p = record {
  unit = p.unit.now;
  placement = p.table;
  quantum = p.quantum;
  node = p.node;
  links = p.links.links;
  acked = p.acked.items;
  handed = p.handed.items;
  steps = p.steps;
}

-- The parts agree.
pub record IsStation (p : StationParts) : Type 0 where
  pub of_unit : IsOfUnit p.unit.now p.node
  pub of_placement : IsOfPlacement p.unit.now p.table p.node
  pub id : p.node.id ≡ p.id
  pub quantum : 1 ≤ p.quantum
  pub width : p.links.width ≡ p.table.width
  pub height : p.links.height ≡ p.table.height
  pub cells : p.links.cells ≡ p.table.cells
  pub sorted : IsTrue (is_sorted pair_cmp p.links.links)
  pub acked : length p.acked.items ≡ p.table.width * p.table.height
  pub handed : length p.handed.items ≡ p.table.width * p.table.height
  -- the messages of the node and the packets that leave it are within its cells
  pub room : message_count p.node.state.slots + leaving p.links.links p.id ≤ p.table.cells
  pub made : Each (λ k. k ≤ p.made) p.node.state.made
  -- no link has more packets than there were steps
  pub entered : (b : ℕ) → get_or p.acked.items b 0 + length (list_at pair_cmp (p.id, b) p.links.links) ≤ p.steps
  pub came : (b : ℕ) → get_or p.handed.items b 0 ≤ p.steps
  pub few : p.steps < 2 ^ 64

-- the packet goes last on the first link of its path, if it goes to another node of the mesh
abbrev pub IsPosted : Placement → ℕ → Packet → LinksOf Packet → Option ℕ → LinksOf Packet → Type 0
IsPosted l n p old None new = (is_other_node l n (goal_node (numbered p).packet) ≡ false) × (new ≡ old)
IsPosted l n p old (Some to) new =
    (is_other_node l n (goal_node (numbered p).packet) ≡ true) × (to ≡ next l n (goal_node (numbered p).packet))
    × (new ≡ record old { links = push_list pair_cmp (n, to) p old.links })

-- the outcome of a step with this outcome of the node: a step is counted, and the packet that leaves is posted
abbrev pub IsSettled : Placement → ℕ → TurnOutcome → Packet → LinksOf Packet → ℕ → Result StationOutcome StationFault → LinksOf Packet → ℕ → Type 0
IsSettled l n T.Idle p old steps outcome new steps' = (outcome ≡ Ok O.Silent) × (new ≡ old) × (steps' ≡ steps)
IsSettled l n T.Line p old steps outcome new steps' = (outcome ≡ Ok O.Line) × (new ≡ old) × (steps' ≡ steps + 1)
IsSettled l n (T.Full kind) p old steps outcome new steps' = (outcome ≡ Ok (O.Full kind)) × (new ≡ old) × (steps' ≡ steps)
IsSettled l n T.Leaves p old steps (Ok (O.Puts to)) new steps' = IsPosted l n p old (Some to) new × (steps' ≡ steps + 1)
IsSettled l n T.Leaves p old steps (Err X.Strays) new steps' = IsPosted l n p old None new × (steps' ≡ steps + 1)
IsSettled l n T.Leaves p old steps _ new steps' = ⊥

-- the act of a node to which the next packet of a link comes: it is received at its goal, and otherwise passes
abbrev pub arrival_act : {S : Type 0} → Language S → Placement → ℕ → ℕ → NumberedPacket → NodeState S → NodeActed S
arrival_act g l n out e x =
    if goal_node e.packet == n then receipt_act g l n out e x
    else (if nat_lt l.cells (message_count x.slots + out + 1) then N.Full F.Cells else N.Acts W.Pass (Some e) x)

-- one more packet has come in order from a, if the outcome is a line
abbrev pub counted_in : List ℕ → ℕ → Result StationOutcome StationFault → List ℕ
counted_in ks a (Ok O.Line) = slice_set ks a (get_or ks a 0 + 1)
counted_in ks a (Ok (O.Puts to)) = slice_set ks a (get_or ks a 0 + 1)
counted_in ks a (Ok O.Silent) = ks
counted_in ks a (Ok (O.Full kind)) = ks
counted_in ks a (Err fault) = ks

-- the node of this number at the start of every machine of the unit
pub record IsFirst (u : Code) (l : Placement) (i : ℕ) (n : NodeOf) : Type 0 where
  pub id : n.id ≡ i
  pub of_unit : IsOfUnit u n
  pub of_placement : IsOfPlacement u l n
  pub made : Each (λ k. k ≤ 0) n.state.made
  pub messages : message_count n.state.slots ≡ 0
  pub first : (m : Machine Placed) → machine_start (coded u) l ≡ Some m → slice_get m.nodes i ≡ Some n.state
