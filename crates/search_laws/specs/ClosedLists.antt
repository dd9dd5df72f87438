-- Closed lists of configurations: no label leaves them that names new objects in order.
use Rattle.std.specs.Prelude.{◌≡◌, ℕ, List, Some, true}
use Rattle.run_types.specs.declared.types.Label.{Label}
use Rattle.pool_syntax.specs.Terms.{ProgramTree}
use Rattle.pool_relation.specs.Configuration.{Configuration}
use Rattle.pool_relation.specs.Transition.{transition, start}
use Rattle.reachability.specs.Search.{after, names_next, needs_no_choice, IsIn, IsInOrder}

-- no label that names new objects in order leads out of the list
abbrev pub IsClosed : ProgramTree → List (ℕ × Configuration) → Type 0
IsClosed p es = (n : ℕ) (c d : Configuration) (l : Label) → IsIn n c es → names_next n l ≡ true → transition p c l ≡ Some d → IsIn (after n l) d es

-- a closed list that has the start
pub record IsClosedSearch (p : ProgramTree) (es : List (ℕ × Configuration)) : Type 0 where
  pub begins : (c : Configuration) → start p 0 ≡ Some c → IsIn 1 c es
  pub closed : IsClosed p es

-- any number of transitions that need no choice, one after another
pub data Settles (p : ProgramTree) : Configuration → Configuration → Type 0 where
  Settled : {c : Configuration} → Settles p c c
  Goes : {c d e : Configuration} (l : Label) → needs_no_choice l ≡ true → transition p c l ≡ Some d → Settles p d e → Settles p c e

-- the same as `IsClosedSearch` for a search that follows any number of such transitions and keeps only the
-- configurations after them
pub record IsClosedAfterSettling (p : ProgramTree) (es : List (ℕ × Configuration)) : Type 0 where
  pub in_order : (n : ℕ) (c : Configuration) → IsIn n c es → IsInOrder c
  pub begins : (c : Configuration) → start p 0 ≡ Some c → (e : Configuration) × Settles p c e × IsIn 1 e es
  pub closed : (n : ℕ) (c d : Configuration) (l : Label) → IsIn n c es → names_next n l ≡ true → transition p c l ≡ Some d
      → (e : Configuration) × Settles p d e × IsIn (after n l) e es
