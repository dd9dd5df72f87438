-- Packets that a node can receive: each name of the node in the packet belongs to an object, and the packet fits its
-- number and the node.
use Rattle.std.specs.Prelude.{◌≡◌, ◌≢◌, ℕ, List, [], ◌∷◌, Option, Some, slice_get}
use Rattle.mesh_semantics.specs.Language.{Language}
use Rattle.mesh_semantics.specs.Delay as D
use Rattle.mesh_semantics.specs.Delay.{Packet}
use Rattle.run_types.specs.ObjectNames.{node_of, slot_of}
use Rattle.run_types.specs.Tables.{Each}
use Rattle.run_types.specs.PathFacts.{In}
use Rattle.node_semantics.specs.Node.{Slot, NodeState}
use Rattle.node_semantics.specs.StandsFor.{caller_of}
use Rattle.mesh_semantics.specs.Requests.{names_in}

-- the node has a slot for this name
abbrev pub HasObject : {S : Type 0} → NodeState S → ℕ → Type 0
HasObject {S} x o = (s : Slot S) × (slice_get x.slots (slot_of o) ≡ Some s)

-- the number is that of the pending request of o; no call of o has arrived at the node, and no object of the node
-- serves o
pub record IsAwaited {S : Type 0} (g : Language S) (x : NodeState S) (number : Option ℕ) (o : ℕ) : Type 0 where
  pub slot : Slot S
  pub there : slice_get x.slots (slot_of o) ≡ Some slot
  pub out : ℕ
  pub number_is : number ≡ Some out
  pub request : slot.request ≡ Some out
  pub no_call : (i : ℕ) (s : Slot S) → slice_get x.slots i ≡ Some s → Each (λ a. caller_of a.message ≢ Some o) s.mailbox
  pub no_caller : (i : ℕ) (s : Slot S) → slice_get x.slots i ≡ Some s → In o (g.callers s.state) → ⊥

-- the names in the packet
abbrev pub names_of : Packet → List ℕ
names_of (D.Create o goal class) = o ∷ []
names_of (D.Created o name) = o ∷ name ∷ []
names_of (D.Request o r m args) = o ∷ r ∷ names_in args
names_of (D.Result o v) = o ∷ names_in (v ∷ [])
names_of (D.Async o r m args) = o ∷ r ∷ names_in args

-- each name of node n in the packet is that of an object of the node
abbrev pub HasNames : {S : Type 0} → ℕ → NodeState S → Packet → Type 0
HasNames n x p = Each (λ o. node_of o ≡ n → HasObject x o) (names_of p)

-- The packet fits the node. The node is its goal. The class of a new object exists. A request comes from another node.
-- A receiver has a slot. A value is awaited.
abbrev pub Meets : {S : Type 0} → Language S → ℕ → NodeState S → Option ℕ → Packet → Type 0
Meets g n x number (D.Create o goal class) = (goal ≡ n) × (node_of o ≢ n) × In class g.classes
Meets g n x number (D.Created o name) = (node_of o ≡ n) × IsAwaited g x number o
Meets g n x number (D.Request o r m args) = (node_of r ≡ n) × (node_of o ≢ n) × HasObject x r
Meets g n x number (D.Result o v) = (node_of o ≡ n) × IsAwaited g x number o
Meets g n x number (D.Async o r m args) = (node_of r ≡ n) × HasObject x r

abbrev pub IsReceivable : {S : Type 0} → Language S → ℕ → NodeState S → Option ℕ → Packet → Type 0
IsReceivable g n x number p = HasNames n x p × Meets g n x number p
