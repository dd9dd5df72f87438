-- The abstraction relation between a machine of nodes and the configuration with its delay that it represents. The
-- delay has no request numbers. Each object is in its slot. Mailboxes, links, last slots and counts are those of the
-- delay. Each stored number is that of the pending request to which it belongs.
-- Throughout, g is a language, m a machine, c a configuration with its delay d, o the name of an object, s its slot, x
-- its state in c, and h what it waits for in d.
use Rattle.std.specs.Prelude.{◌≡◌, ◌≤◌, ◌*◌, IsTrue, ℕ, List, [], ◌∷◌, length, Option, Some, None, true, slice_get, if◌then◌else◌}
use Rattle.std.specs.Ordering.{nat_cmp}
use Rattle.std.specs.FinMap.{find}
use Rattle.std.specs.FinMap.Entries.{is_sorted}
use Rattle.run_types.specs.declared.types.Value.{Value}
use Rattle.run_types.specs.declared.types.Placement.{Placement}
use Rattle.run_types.specs.Tables.{Pair, pair_cmp, list_at, Each}
use Rattle.mesh_semantics.specs.Kind as K
use Rattle.mesh_semantics.specs.Language.{Language}
use Rattle.mesh_semantics.specs.Config.{Config, object_of}
use Rattle.mesh_semantics.specs.Delay as D
use Rattle.mesh_semantics.specs.Delay.{Packet, Arrival, Holding, Delay, held, made_by, arrived_at}
use Rattle.mesh_semantics.specs.NumberedPackets.{NumberedPacket}
use Rattle.run_types.specs.ObjectNames.{node_of, slot_of}
use Rattle.run_types.specs.Paths.{on_link}
use Rattle.run_types.specs.PathFacts.{In}
use Rattle.node_semantics.specs.Node.{Slot, NodeState, made_here, arrivals}
use Rattle.node_semantics.specs.Machine.{Machine}
use Rattle.mesh_semantics.specs.Requests.{posts_request}

-- the slot of a name, if there is one
abbrev pub slot_in : {S : Type 0} → Option (NodeState S) → ℕ → Option (Slot S)
slot_in None i = None
slot_in (Some x) i = slice_get x.slots i

abbrev pub slot_at : {S : Type 0} → Machine S → ℕ → Option (Slot S)
slot_at m o = slot_in (slice_get m.nodes (node_of o)) (slot_of o)

-- the number of the pending request, if there is one
abbrev pub request_in : {S : Type 0} → Option (Slot S) → Option ℕ
request_in None = None
request_in (Some s) = s.request

-- the node to which the last request for a new object went
abbrev pub kept_goal_in : {S : Type 0} → Option (Slot S) → Option ℕ
kept_goal_in None = None
kept_goal_in (Some s) = Some s.goal

abbrev pub request_of : {S : Type 0} → Machine S → ℕ → Option ℕ
request_of m o = request_in (slot_at m o)

abbrev pub kept_goal_of : {S : Type 0} → Machine S → ℕ → Option ℕ
kept_goal_of m o = kept_goal_in (slot_at m o)

abbrev pub IsOut : Option ℕ → Type 0
IsOut number = (k : ℕ) × (number ≡ Some k)

-- How a slot represents an object in the state x. While a request is pending, the slot keeps the state in which the
-- object posted it. If the call is served, x is that state at the wait. If the value is on the way, x is that state
-- with the value.
pub data SlotStandsFor {S : Type 0} (g : Language S) (o : ℕ) (s : Slot S) (x : S) : Option Holding → Type 0 where
  Free : s.request ≡ None → s.state ≡ x → SlotStandsFor g o s x None
  Served : (b m : ℕ) (args : List Value) → IsOut s.request → g.kind o s.state ≡ K.Send b m args → g.waiting s.state b m ≡ x → SlotStandsFor g o s x None
  Posted : IsOut s.request → s.state ≡ x → SlotStandsFor g o s x (Some D.Posted)
  Due : (v : Value) → IsOut s.request → posts_request (g.kind o s.state) ≡ true → g.given s.state v ≡ x → SlotStandsFor g o s x (Some (D.Due v))

-- the slot represents the object, and its mailbox has the messages that have arrived at the object
pub record Occupied {S : Type 0} (g : Language S) (o : ℕ) (s : Slot S) (x : S) (h : Option Holding) (box : List Arrival) : Type 0 where
  pub state : SlotStandsFor g o s x h
  pub mailbox : arrivals s.mailbox ≡ box

-- a name has an object and its slot, or neither
abbrev pub AtName : {S : Type 0} → Language S → ℕ → Option (Slot S) → Option S → Option Holding → List Arrival → Type 0
AtName g o None None h box = (h ≡ None) × (box ≡ [])
AtName g o (Some s) (Some x) h box = Occupied g o s x h box
AtName g o None (Some x) h box = ⊥
AtName g o (Some s) None h box = ⊥

-- the packets without their request numbers
abbrev pub packets : List NumberedPacket → List Packet
packets [] = []
packets (e ∷ es) = e.packet ∷ packets es

-- the object to whose request the packet belongs
abbrev pub owner_of : Packet → Option ℕ
owner_of (D.Create o goal class) = Some o
owner_of (D.Created o name) = Some o
owner_of (D.Request o r m args) = Some o
owner_of (D.Result o v) = Some o
owner_of (D.Async s r m args) = None

-- the number is that of the owner's pending request; without owner there is no number
abbrev pub IsNumberOf : {S : Type 0} → Machine S → Option ℕ → Option ℕ → Type 0
IsNumberOf m number None = number ≡ None
IsNumberOf m number (Some o) = IsOut number × (request_of m o ≡ number)

abbrev pub caller_of : Arrival → Option ℕ
caller_of a = if a.is_call then Some a.sender else None

-- each caller that is served, the innermost first, has a pending request with the stored number
abbrev pub AreNumbersOf : {S : Type 0} → Machine S → List ℕ → List ℕ → Type 0
AreNumbersOf m [] [] = Unit {0}
AreNumbersOf m (k ∷ ks) (o ∷ os) = (request_of m o ≡ Some k) × AreNumbersOf m ks os
AreNumbersOf m [] (o ∷ os) = ⊥
AreNumbersOf m (k ∷ ks) [] = ⊥

abbrev pub HasSlot : {S : Type 0} → Machine S → ℕ → Type 0
HasSlot {S} m o = (s : Slot S) × (slot_at m o ≡ Some s)

-- the names in a packet: a receiver has a slot, and the goal of a request for a new object is the one stored for its
-- creator
abbrev pub Knows : {S : Type 0} → Machine S → Packet → Type 0
Knows m (D.Create o goal class) = kept_goal_of m o ≡ Some goal
Knows m (D.Created o name) = Unit {0}
Knows m (D.Request o r k args) = HasSlot m r
Knows m (D.Result o v) = Unit {0}
Knows m (D.Async s r k args) = HasSlot m r

-- the packet has the number of its owner's request
pub record PacketFits {S : Type 0} (m : Machine S) (e : NumberedPacket) : Type 0 where
  pub number : IsNumberOf m e.number (owner_of e.packet)
  pub names : Knows m e.packet

-- each call in the mailbox has the number of its caller's request, and an asynchronous message has none
abbrev pub MailboxFits : {S : Type 0} → Machine S → Option (Slot S) → Type 0
MailboxFits m None = Unit {0}
MailboxFits m (Some s) = Each (λ e. IsNumberOf m e.number (caller_of e.message)) s.mailbox

-- the numbers stored in the slot are those of the callers that its object serves
abbrev pub CallersFit : {S : Type 0} → Language S → Machine S → Option (Slot S) → Option S → Type 0
CallersFit g m (Some s) (Some x) = AreNumbersOf m s.callers (g.callers x)
CallersFit g m None x = Unit {0}
CallersFit g m (Some s) None = Unit {0}

-- the node has a count for each class, which is the number of objects that the node's objects have made
abbrev pub CountsMade : {S : Type 0} → Language S → NodeState S → Delay → ℕ → Type 0
CountsMade g x d n = (length x.made ≡ length g.classes) × ((k : ℕ) → In k g.classes → made_here g x k ≡ made_by d n k)

-- the machine represents the configuration and the delay
pub record MachineStandsFor {S : Type 0} (g : Language S) (l : Placement) (m : Machine S) (c : Config S) (d : Delay) : Type 0 where
  pub nodes : length m.nodes ≡ l.width * l.height
  -- the slots of a node are at most 65,536, so that each has a name
  pub few : (n : ℕ) (x : NodeState S) → slice_get m.nodes n ≡ Some x → length x.slots ≤ 65536
  pub named : (o : ℕ) → AtName g o (slot_at m o) (object_of c o) (held d o) (arrived_at d o)
  pub links : (k : Pair) → packets (list_at pair_cmp k m.links) ≡ on_link d.links k
  pub in_order : IsTrue (is_sorted pair_cmp m.links)
  pub last : (n : ℕ) (x : NodeState S) → slice_get m.nodes n ≡ Some x → x.last ≡ find nat_cmp n d.last
  pub made : (n : ℕ) (x : NodeState S) → slice_get m.nodes n ≡ Some x → CountsMade g x d n
  -- no number is in use twice at a node
  pub distinct : (o p k : ℕ) → node_of o ≡ node_of p → request_of m o ≡ Some k → request_of m p ≡ Some k → o ≡ p
  pub on_links : (k : Pair) → Each (PacketFits m) (list_at pair_cmp k m.links)
  pub in_mailboxes : (o : ℕ) → MailboxFits m (slot_at m o)
  pub in_callers : (o : ℕ) → CallersFit g m (slot_at m o) (object_of c o)
