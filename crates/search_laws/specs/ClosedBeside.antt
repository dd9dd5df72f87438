-- Lists of configurations that no label leaves and in which no label changes an object.
use Rattle.std.specs.Prelude.{◌≡◌, ℕ, List, [], ◌∷◌, Some, Bool, true, false, not}
use Rattle.run_types.specs.declared.types.Label.{Label}
use Rattle.pool_syntax.specs.Terms.{ProgramTree}
use Rattle.pool_relation.specs.Configuration.{Configuration}
use Rattle.pool_relation.specs.Transition.{transition, run, start}
use Rattle.reachability.specs.Search.{IsIn, IsInOrder, after, names_next, in_order}
use Rattle.search_laws.specs.Dead.{changes}
pub use Rattle.search_laws.specs.FreeSettling.{SettlesFreely, AtRest, GoesFreely}

-- the labels that do not change the object o
abbrev pub beside : ℕ → Label → Bool
beside o l = not (changes o l)

-- any number of transitions that need no choice and do not change it, one after another
abbrev pub SettlesBeside : ProgramTree → ℕ → Configuration → Configuration → Type 0
SettlesBeside p o = SettlesFreely p (beside o)

-- From a configuration of the list, no label that names new objects in order changes the object o. Each such label
-- leads into the list, after some transitions that need no choice and do not change it.
pub record IsClosedBeside (p : ProgramTree) (o : ℕ) (es : List (ℕ × Configuration)) : Type 0 where
  pub in_order : (n : ℕ) (c : Configuration) → IsIn n c es → IsInOrder c
  pub beside : (n : ℕ) (c d : Configuration) (l : Label) → IsIn n c es → names_next n l ≡ true → transition p c l ≡ Some d → changes o l ≡ false
  pub closed : (n : ℕ) (c d : Configuration) (l : Label) → IsIn n c es → names_next n l ≡ true → transition p c l ≡ Some d
      → (e : Configuration) × SettlesBeside p o d e × IsIn (after n l) e es

-- the next name after these labels, if it was n before
abbrev pub after_all : ℕ → List Label → ℕ
after_all n [] = n
after_all n (l ∷ ls) = after_all (after n l) ls

-- labels that name new objects in order lead to c from the start, whose object has the name 0, and n is the next name
-- after them
pub record IsReachedInOrder (p : ProgramTree) (n : ℕ) (c : Configuration) : Type 0 where
  pub first : Configuration
  pub labels : List Label
  pub starts : start p 0 ≡ Some first
  pub orders : in_order 1 labels ≡ true
  pub leads : run p first labels ≡ Some c
  pub next : after_all 1 labels ≡ n
