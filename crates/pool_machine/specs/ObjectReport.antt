-- The reports of a machine on its objects: a value on its way, a class, and a run-time error.
use Rattle.std.specs.Prelude.{ℕ, List, Option, Some, None, is_some, Bool}
use Rattle.std.specs.List.{list_any}
use Rattle.code_semantics.specs.declared.unit.Unit.{Unit as Code}
use Rattle.mesh_of_code.specs.Coded.{Placed, coded}
use Rattle.node_semantics.specs.Node.{NodeState, Slot}
use Rattle.node_semantics.specs.Standings.{brings}
use Rattle.rendezvous_protocol.specs.declared.packet.Packet.{Packet}
use Rattle.rendezvous_protocol.specs.Packets.{numbered}

-- whether one of the packets brings the object its value
abbrev pub is_brought : ℕ → List Packet → Bool
is_brought o packets = list_any (λ p. brings o (numbered p).packet) packets

-- the class of a slot's object
abbrev pub slot_class : Code → Option (Slot Placed) → Option ℕ
slot_class u None = None
slot_class u (Some s) = Some ((coded u).class s.state)

-- whether an object has met a run-time error
abbrev pub has_fault : List (NodeState Placed) → Bool
has_fault nodes = list_any (λ x. list_any (λ (s : Slot Placed). is_some s.state.fault) x.slots) nodes
