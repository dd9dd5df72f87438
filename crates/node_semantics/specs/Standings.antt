-- The status of an object as its node reports it, and as the machine reports it, which sees the links too.
use Rattle.std.specs.Prelude.{◌≡◌, ℕ, ◌==◌, List, Option, Some, None, Bool, false, if◌then◌else◌}
use Rattle.std.specs.List.{list_any}
use Rattle.run_types.specs.declared.types.Error.{Error}
use Rattle.mesh_semantics.specs.Kind as K
use Rattle.mesh_semantics.specs.Kind.{Kind}
use Rattle.mesh_semantics.specs.Language.{Language}
use Rattle.run_types.specs.Tables.{Pair}
use Rattle.mesh_semantics.specs.Delay as D
use Rattle.mesh_semantics.specs.Delay.{Packet, Arrival}
use Rattle.mesh_semantics.specs.NumberedPackets.{NumberedPacket}
use Rattle.mesh_semantics.specs.Act.{can_step}
use Rattle.mesh_semantics.specs.Standing as T
use Rattle.mesh_semantics.specs.Standing.{Standing}
use Rattle.node_semantics.specs.Node.{Slot, arrivals}
use Rattle.node_semantics.specs.Machine.{Machine}
use Rattle.node_semantics.specs.StandsFor.{slot_at}

-- while its request is pending, the object calls, or creates at the stored goal
abbrev pub slot_standing_by : Option ℕ → Option Error → List Arrival → ℕ → Kind → Standing
slot_standing_by (Some number) f box goal (K.Send b m args) = T.Calls b m
slot_standing_by (Some number) f box goal (K.New class) = T.Creates class goal
slot_standing_by (Some number) f box goal _ = T.Awaits
slot_standing_by None (Some e) box goal k = T.Faulted e
slot_standing_by None None box goal (K.Waits b m) = T.Calls b m
slot_standing_by None None box goal K.Finished = T.Finished
slot_standing_by None None box goal k = if can_step box k then T.Ready else T.Awaits

abbrev pub slot_standing : {S : Type 0} → Language S → ℕ → Slot S → Standing
slot_standing g o s = slot_standing_by s.request (g.fault s.state) (arrivals s.mailbox) s.goal (g.kind o s.state)

abbrev pub IsRequest : Standing → Type 0
IsRequest (T.Calls b m) = Unit {0}
IsRequest (T.Creates class node) = Unit {0}
IsRequest _ = ⊥

-- the first status is the second; if the second is due, the first is a call or a request for a new object
abbrev pub SaysOf : Standing → Standing → Type 0
SaysOf s T.Due = IsRequest s
SaysOf s t = s ≡ t

-- whether the packet has the value for the object
abbrev pub brings : ℕ → Packet → Bool
brings o (D.Created k name) = k == o
brings o (D.Result k v) = k == o
brings o _ = false

-- whether the object's value is on a link
abbrev pub is_on_way : ℕ → List (Pair × List NumberedPacket) → Bool
is_on_way o links = list_any (λ e. list_any (λ p. brings o p.packet) e.1) links

abbrev pub standing_in : {S : Type 0} → Language S → Machine S → ℕ → Option (Slot S) → Option Standing
standing_in g m o None = None
standing_in g m o (Some s) = Some (if is_on_way o m.links then T.Due else slot_standing g o s)

-- due while the value is on a link, and otherwise the status that the node reports; none for a name without object
abbrev pub machine_standing : {S : Type 0} → Language S → Machine S → ℕ → Option Standing
machine_standing g m o = standing_in g m o (slot_at m o)
