-- Conditions on an event and on the number for a request that it may post.
use Rattle.std.specs.Prelude.{◌≡◌, ◌≢◌, ◌<◌, ◌*◌, ℕ, Some, slice_get}
use Rattle.run_types.specs.declared.types.Event.{Event}
use Rattle.run_types.specs.declared.types.Event.TheVariants as Ev
use Rattle.run_types.specs.declared.types.Placement.{Placement}
use Rattle.node_semantics.specs.Node.{Slot, NodeState}
use Rattle.node_semantics.specs.Machine.{Machine}

-- the node of the event, or both ends of its link, are of the mesh
abbrev pub IsOfMesh : Placement → Event → Type 0
IsOfMesh l (Ev.Turn n) = n < l.width * l.height
IsOfMesh l (Ev.Link a b) = (a < l.width * l.height) × (b < l.width * l.height)
IsOfMesh l (Ev.Wire w a b) = (a < l.width * l.height) × (b < l.width * l.height)

-- no slot of the node has a pending request with this number
abbrev pub IsUnused : {S : Type 0} → ℕ → NodeState S → Type 0
IsUnused {S} fresh x = (i : ℕ) (s : Slot S) → slice_get x.slots i ≡ Some s → s.request ≢ Some fresh

-- the number is not in use at the node whose turn it is; another event needs no number
abbrev pub IsFresh : {S : Type 0} → Machine S → ℕ → Event → Type 0
IsFresh {S} m fresh (Ev.Turn n) = (x : NodeState S) → slice_get m.nodes n ≡ Some x → IsUnused fresh x
IsFresh m fresh (Ev.Link a b) = Unit {0}
IsFresh m fresh (Ev.Wire w a b) = Unit {0}
