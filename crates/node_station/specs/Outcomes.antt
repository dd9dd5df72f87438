-- The outcomes of a station are the answers of the definition, and each fault has its cause.
use Rattle.std.specs.Prelude.{◌≡◌, ◌⊎◌, ℕ, ◌-◌, ◌*◌, ◌^◌, ◌≤◌, ◌<◌, ◌==◌, List, [], ◌∷◌, not, ◌&&◌, nat_lt, Bool, false, Option, Some, None, Result, Ok, Err}
use Rattle.run_types.specs.declared.types.Event.{Event}
use Rattle.run_types.specs.declared.types.Event.TheVariants as Ev
use Rattle.run_types.specs.declared.types.Placement.{Placement}
use Rattle.run_types.specs.Paths.{next}
use Rattle.mesh_semantics.specs.Act.{goal_node}
use Rattle.mesh_semantics.specs.Delay as D
use Rattle.mesh_semantics.specs.NumberedPackets.{NumberedPacket}
use Rattle.mesh_of_code.specs.Coded.{Placed, coded}
use Rattle.node_semantics.specs.Agrees.{IsUnused}
use Rattle.rendezvous_protocol.specs.declared.packet.Packet.{Packet}
use Rattle.rendezvous_protocol.specs.Packets.{numbered}
use Rattle.node_acts.specs.declared.types.StepOutput.{StepOutput}
use Rattle.pool_node.specs.Acceptable.{IsAcceptable}
use Rattle.pool_node.specs.MadeCounts.{most_made}
use Rattle.station_semantics.specs.Station as S
use Rattle.station_semantics.specs.Station.{Ack, Answer, Data, Frame, Told, count_at, data_comes, turn}
use Rattle.node_station.specs.declared.outcome.StationOutcome.{StationOutcome}
use Rattle.node_station.specs.declared.outcome.StationOutcome.TheVariants as O
use Rattle.node_station.specs.declared.outcome.StationFault.{StationFault}
use Rattle.node_station.specs.declared.outcome.StationFault.TheVariants as X
use Rattle.node_station.specs.StationOf.{StationOf, station_of}

-- what is told of an event
abbrev pub told_of : Event → StationOutcome → StepOutput → Told
told_of e O.Silent room = S.Silent
told_of e O.Line room = S.Line e room.what
told_of e (O.Puts to) room = S.Line e room.what
told_of e (O.Full kind) room = S.Full kind

-- the packet that was put on a link
abbrev pub posted_of : StationOutcome → StepOutput → Option NumberedPacket
posted_of (O.Puts to) room = Some (numbered room.packet)
posted_of _ room = None

-- a packet that was put on a link is on the one to this neighbour
abbrev pub IsPutTo : Placement → ℕ → StationOutcome → StepOutput → Type 0
IsPutTo l n (O.Puts to) room = to ≡ next l n (goal_node (numbered room.packet).packet)
IsPutTo l n _ room = Unit {0}

-- the run is the same: unit, placement, quantum, and the number of the node
pub record IsOfSameRun (old new : StationOf) : Type 0 where
  pub unit : new.unit ≡ old.unit
  pub placement : new.placement ≡ old.placement
  pub quantum : new.quantum ≡ old.quantum
  pub id : new.node.id ≡ old.node.id

-- the outcome of an event is this answer of the definition, and the station is the one after it
pub record IsAnswer (e : Event) (outcome : StationOutcome) (room : StepOutput) (old new : StationOf) (a : Answer Placed) : Type 0 where
  pub told : told_of e outcome room ≡ a.told
  pub posted : posted_of outcome room ≡ a.posted
  pub to : IsPutTo old.placement old.node.id outcome room
  pub station : station_of new ≡ a.station

-- the goal is another node of the mesh
abbrev pub is_other_node : Placement → ℕ → ℕ → Bool
is_other_node l n goal = nat_lt goal (l.width * l.height) && not (goal == n)

-- the answer puts a packet on a link that goes to no other node of the mesh
abbrev pub Strays : Placement → ℕ → Option NumberedPacket → Type 0
Strays l n None = ⊥
Strays l n (Some e) = is_other_node l n (goal_node e.packet) ≡ false

-- the numbers are used up
abbrev pub IsSpent : StationOf → Type 0
IsSpent s = (2 ^ 32 - 1 ≤ most_made s.node.state.made) ⊎ (s.steps ≡ 2 ^ 64 - 1)

-- the packet can be handed out: it goes to a node of the mesh, and at its goal it is acceptable
pub record IsFit (s : StationOf) (p : D.Packet) : Type 0 where
  pub goal : goal_node p < s.placement.width * s.placement.height
  pub here : goal_node p ≡ s.node.id → IsAcceptable (coded s.unit) s.node.state p

abbrev pub turn_answer : StationOf → ℕ → Answer Placed
turn_answer s fresh = turn (coded s.unit) s.placement s.quantum s.node.id fresh (station_of s)

-- a turn, for some request number that is not in use
abbrev pub Turns : Result StationOutcome StationFault → StepOutput → StationOf → StationOf → Type 0
Turns (Ok outcome) room old new = (fresh : ℕ) × IsUnused fresh old.node.state × IsAnswer (Ev.Turn old.node.id) outcome room old new (turn_answer old fresh)
Turns (Err X.Strays) room old new = (fresh : ℕ) × IsUnused fresh old.node.state × Strays old.placement old.node.id (turn_answer old fresh).posted
Turns (Err X.Spent) room old new = IsSpent old
Turns (Err X.Unfit) room old new = ⊥

-- the acknowledgement that goes back to the neighbour a, unless the packet counts as not come
abbrev pub acks_of : ℕ → StationOutcome → StationOf → List (ℕ × Frame)
acks_of a (O.Full kind) s = []
acks_of a _ s = (a, Ack (count_at a (station_of s).handed)) ∷ []

abbrev pub data_answer : StationOf → ℕ → ℕ → Packet → Answer Placed
data_answer s a k p = data_comes (coded s.unit) s.placement s.node.id a k (numbered p) (station_of s)

-- the packet with the number k comes from a
abbrev pub Comes : Result StationOutcome StationFault → StepOutput → StationOf → StationOf → ℕ → ℕ → Packet → Type 0
Comes (Ok outcome) room old new a k p =
    IsAnswer (Ev.Link a old.node.id) outcome room old new (data_answer old a k p) × (acks_of a outcome new ≡ (data_answer old a k p).frames)
Comes (Err X.Strays) room old new a k p = Strays old.placement old.node.id (data_answer old a k p).posted
Comes (Err X.Spent) room old new a k p = IsSpent old
Comes (Err X.Unfit) room old new a k p = (k ≡ count_at a (station_of old).handed) × (IsFit old (numbered p).packet → ⊥)

-- the frame to b with this number, if there is a packet
abbrev pub frame_with : ℕ → ℕ → Option Packet → List (ℕ × Frame)
frame_with b k None = []
frame_with b k (Some p) = (b, Data k (numbered p)) ∷ []
