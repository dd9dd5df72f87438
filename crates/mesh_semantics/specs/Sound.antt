-- Soundness, the invariant of a placed machine over configurations with delay. On the way for an object is exactly
-- what it waits for. The messages of each pair are on the way in the order in which they were sent. Each node is
-- within its limits.
use Rattle.std.specs.Prelude.{◌≡◌, ◌≢◌, ◌⊎◌, ℕ, ◌*◌, ◌<◌, ◌≤◌, ◌==◌, List, [], ◌∷◌, ◌++◌, Option, Some, None, Bool, true, false, ◌&&◌, if◌then◌else◌}
use Rattle.run_types.specs.declared.types.Value.{Value}
use Rattle.run_types.specs.declared.types.Value.TheVariants as V
use Rattle.run_types.specs.declared.types.Error.{Error}
use Rattle.run_types.specs.declared.types.Placement.{Placement}
use Rattle.run_types.specs.Tables.{Pair, Each}
use Rattle.run_types.specs.Message.{Message}
use Rattle.mesh_semantics.specs.Kind as K
use Rattle.mesh_semantics.specs.Kind.{Kind, waits_on}
use Rattle.mesh_semantics.specs.Language.{Language}
use Rattle.mesh_semantics.specs.Config.{Config, object_of, messages_of}
use Rattle.run_types.specs.Paths.{next, path, along, IsLink}
use Rattle.mesh_semantics.specs.Delay as D
use Rattle.mesh_semantics.specs.Delay.{Packet, Arrival, Holding, Delay, arrived_at, held, cell_count}
use Rattle.run_types.specs.ObjectNames.{node_of, slot_of}
use Rattle.mesh_semantics.specs.Act.{object_count, frame_count, goal_node}

-- an entry of an object: a packet on the way for it, or its call that has arrived
pub data Entry : Type 0 where
  Sent : (packet : Packet) → Entry
  Called : (receiver : ℕ) (arrival : Arrival) → Entry

-- whether the packet belongs to a request of the object o
abbrev pub owns : ℕ → Packet → Bool
owns o (D.Create k goal class) = k == o
owns o (D.Created k name) = k == o
owns o (D.Request k r m args) = k == o
owns o (D.Result k v) = k == o
owns o (D.Async s r m args) = false

-- the packets of the object's request
abbrev pub sent_of : ℕ → List (Pair × Packet) → List Entry
sent_of o [] = []
sent_of o (e ∷ es) = if owns o e.1 then Sent e.1 ∷ sent_of o es else sent_of o es

-- the calls of the object that have arrived
abbrev pub called_of : ℕ → List (ℕ × Arrival) → List Entry
called_of o [] = []
called_of o (e ∷ es) = if e.1.is_call && e.1.sender == o then Called e.0 e.1 ∷ called_of o es else called_of o es

abbrev pub entries : Delay → ℕ → List Entry
entries d o = sent_of o d.links ++ called_of o d.arrived

-- a call of o that has arrived
abbrev pub call_by : ℕ → ℕ → List Value → Arrival
call_by o m args = record { sender = o; is_call = true; method = m; args = args }

-- whether the action is a wait
abbrev pub is_wait : Kind → Bool
is_wait (K.Waits b m) = true
is_wait _ = false

-- The entries of an object o at this action. A free object has none. A posted one has exactly one, which is the
-- request that it is at. One that is due a value has exactly the packet with this value.
abbrev pub Owns : ℕ → Option Holding → Kind → List Entry → Type 0
Owns o None k es = es ≡ []
Owns o (Some D.Posted) (K.New class) es = (goal : ℕ) × (goal ≢ node_of o) × (es ≡ Sent (D.Create o goal class) ∷ [])
Owns o (Some D.Posted) (K.Send b m args) es = (es ≡ Sent (D.Request o b m args) ∷ []) ⊎ (es ≡ Called b (call_by o m args) ∷ [])
Owns o (Some D.Posted) _ es = ⊥
Owns o (Some (D.Due v)) k es = (is_wait k ≡ false) × ((es ≡ Sent (D.Result o v) ∷ []) ⊎ ((n : ℕ) × (v ≡ V.Ref n) × (es ≡ Sent (D.Created o n) ∷ [])))

-- a message of a pair, or a call
pub record Letter : Type 0 where
  pub is_call : Bool
  pub message : Message

-- the messages and calls of s among those that have arrived
abbrev pub letters_in : ℕ → List Arrival → List Letter
letters_in s [] = []
letters_in s (a ∷ rest) =
    if a.sender == s then record { is_call = a.is_call; message = record { method = a.method; args = a.args } } ∷ letters_in s rest else letters_in s rest

-- the letter, if the test holds
abbrev pub letter_if : Bool → Bool → ℕ → List Value → List Letter
letter_if true call m args = record { is_call = call; message = record { method = m; args = args } } ∷ []
letter_if false call m args = []

-- the message or call from s to r that the packet carries
abbrev pub letter : ℕ → ℕ → Packet → List Letter
letter s r (D.Request k b m args) = letter_if (k == s && b == r) true m args
letter s r (D.Async k b m args) = letter_if (k == s && b == r) false m args
letter s r _ = []

-- all that s has sent to r and r has not taken, the earliest first: the arrived messages, then those on the path,
-- beginning at its far end
abbrev pub letters : Placement → Delay → ℕ → ℕ → List Letter
letters l d s r = letters_in s (arrived_at d r) ++ along (letter s r) d.links (path l (node_of s) (node_of r))

-- the asynchronous messages
abbrev pub notes : List Letter → List Message
notes [] = []
notes (x ∷ xs) = if x.is_call then notes xs else x.message ∷ notes xs

-- no asynchronous message comes after a call
abbrev pub CallsLast : List Letter → Type 0
CallsLast [] = Unit {0}
CallsLast (x ∷ xs) = (x.is_call ≡ true → notes xs ≡ []) × CallsLast xs

-- the sender of the packet, or the object to which it goes back
abbrev pub sender_of : Packet → ℕ
sender_of (D.Create o goal class) = o
sender_of (D.Created o name) = o
sender_of (D.Request o r m args) = o
sender_of (D.Result o v) = o
sender_of (D.Async o r m args) = o

-- the list has the link
abbrev pub Has : List Pair → Pair → Type 0
Has [] k = ⊥
Has (x ∷ xs) k = (x ≡ k) ⊎ Has xs k

-- a call or an asynchronous message is on the path from its sender's node to its receiver's
abbrev pub OnPath : Placement → Pair → Packet → Type 0
OnPath l k (D.Request o r m args) = Has (path l (node_of o) (node_of r)) k
OnPath l k (D.Async o r m args) = Has (path l (node_of o) (node_of r)) k
OnPath l k _ = Unit {0}

-- there is an object of this name
abbrev pub IsThere : {S : Type 0} → Config S → ℕ → Type 0
IsThere {S} c o = (x : S) × (object_of c o ≡ Some x)

-- the packet may be on its link: its sender exists, its goal is a node of the mesh, and the link leads to the next
-- node on the way to the goal
pub record IsPlaced {S : Type 0} (l : Placement) (c : Config S) (e : Pair × Packet) : Type 0 where
  pub sender : IsThere c (sender_of e.1)
  pub goal : goal_node e.1 < l.width * l.height
  pub link : IsLink l e.0
  pub way : (e.0.0 ≢ goal_node e.1) × (e.0.1 ≡ next l e.0.0 (goal_node e.1))
  pub on_path : OnPath l e.0 e.1

-- the state and the entries of a name. An object with an error is free. A name without object has no state and no
-- entries.
abbrev pub OwnedAt : {S : Type 0} → Language S → ℕ → Option S → Option Holding → List Entry → Type 0
OwnedAt g o None t es = (t ≡ None) × (es ≡ [])
OwnedAt g o (Some x) t es = Owns o t (g.kind o x) es × ((e : Error) → g.fault x ≡ Some e → t ≡ None)

-- The parts of soundness without the limits. W is the property of configurations that is kept.
pub record Consistent {S : Type 0} (g : Language S) (W : Config S → Type 0) (l : Placement) (c : Config S) (d : Delay) : Type 0 where
  pub typed : W c
  -- the objects of a node have its first names, without a gap
  pub names : (o : ℕ) → IsThere c o → (node_of o < l.width * l.height) × (slot_of o < object_count c (node_of o))
  pub owned : (o : ℕ) → OwnedAt g o (object_of c o) (held d o) (entries d o)
  pub packets : Each (IsPlaced l c) d.links
  pub arrivals : Each (λ e. IsThere c e.1.sender) d.arrived
  pub lists : (s r : ℕ) → messages_of c s r ≡ notes (letters l d s r)
  pub order : (s r : ℕ) → CallsLast (letters l d s r)

-- the counts of the node are within the limits
abbrev pub IsWithin : {S : Type 0} → Language S → Placement → Config S → Delay → ℕ → Type 0
IsWithin g l c d n = (object_count c n ≤ l.objects) × (frame_count g c n ≤ l.frames) × (cell_count d n ≤ l.cells)

pub record IsSound {S : Type 0} (g : Language S) (W : Config S → Type 0) (l : Placement) (c : Config S) (d : Delay) : Type 0 where
  pub state : Consistent g W l c d
  pub limits : (n : ℕ) → IsWithin g l c d n
