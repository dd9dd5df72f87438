-- The request numbers in use at a node: each belongs to one object, and these objects are exactly those of the node
-- that are posted, at a wait, or due.
use Rattle.std.specs.Prelude.{◌≡◌, ◌≢◌, ◌⊎◌, ℕ, Some, None, true}
use Rattle.mesh_semantics.specs.Language.{Language}
use Rattle.mesh_semantics.specs.Config.{Config, object_of}
use Rattle.mesh_semantics.specs.Delay.{Delay, held}
use Rattle.run_types.specs.ObjectNames.{node_of}
use Rattle.mesh_semantics.specs.Sound.{is_wait}
use Rattle.node_semantics.specs.Machine.{Machine}
use Rattle.node_semantics.specs.StandsFor.{IsOut, request_of}

-- the object o in the state x is posted, due, or at a wait
abbrev pub IsWaiting : {S : Type 0} → Language S → Delay → ℕ → S → Type 0
IsWaiting g d o x = (held d o ≢ None) ⊎ (is_wait (g.kind o x) ≡ true)

pub record Outstanding {S : Type 0} (g : Language S) (m : Machine S) (c : Config S) (d : Delay) (n : ℕ) : Type 0 where
  pub one : (o p k : ℕ) → node_of o ≡ n → node_of p ≡ n → request_of m o ≡ Some k → request_of m p ≡ Some k → o ≡ p
  pub waiting : (o k : ℕ) → node_of o ≡ n → request_of m o ≡ Some k → (x : S) × (object_of c o ≡ Some x) × IsWaiting g d o x
  pub out : (o : ℕ) (x : S) → node_of o ≡ n → object_of c o ≡ Some x → IsWaiting g d o x → IsOut (request_of m o)
