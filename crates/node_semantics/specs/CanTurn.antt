-- The condition on a node under which each of its turns answers with a line or a limit: its objects can do their next
-- actions.
use Rattle.std.specs.Prelude.{◌≡◌, ◌≢◌, ℕ, ◌+◌, [], Option, Some, None, true, slice_get}
use Rattle.mesh_semantics.specs.Kind as K
use Rattle.mesh_semantics.specs.Kind.{Kind, Alternative, answered}
use Rattle.mesh_semantics.specs.Language.{Language}
use Rattle.node_semantics.specs.Node.{NumberedArrival, Slot, NodeState, name_at, first_on}

-- The object o of a slot can do this action. A class to be made exists. A message that an open alternative takes can
-- be served. A return has the number of a caller.
abbrev pub CanAct : {S : Type 0} → Language S → ℕ → Slot S → Kind → Type 0
CanAct g o s (K.New class) = g.made class ≢ None
CanAct g o s (K.Select alts) = (i : ℕ) (a : Alternative) (e : NumberedArrival) (caller : Option ℕ) → slice_get alts i ≡ Some a → a.is_open ≡ true
    → first_on (answered a.names) s.mailbox ≡ Some e → g.serving o s.state (1 + i) e.message.method caller e.message.args ≢ None
CanAct g o s (K.Return k v) = s.callers ≢ []
CanAct g o s _ = Unit {0}

abbrev pub CanTurn : {S : Type 0} → Language S → ℕ → NodeState S → Type 0
CanTurn {S} g n x = (i : ℕ) (s : Slot S) → slice_get x.slots i ≡ Some s → CanAct g (name_at n i) s (g.kind (name_at n i) s.state)
