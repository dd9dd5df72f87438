-- Kinds of labels that no run has.
use Rattle.std.specs.Prelude.{◌≡◌, ℕ, List, [], ◌∷◌, Some, Bool, true, ◌&&◌}
use Rattle.run_types.specs.declared.types.Label.{Label}
use Rattle.pool_syntax.specs.Terms.{ProgramTree}
use Rattle.pool_relation.specs.Configuration.{Configuration}
use Rattle.pool_relation.specs.Transition.{start}
use Rattle.reachability.specs.Search.{IsIn}
use Rattle.search_laws.specs.Renamed.{renamed_label}
use Rattle.search_laws.specs.FreeSettling.{SettlesFreely}
use Rattle.search_laws.specs.PutOff.{IsClosedByChoices}

-- each of these labels is free
abbrev pub all_free : (Label → Bool) → List Label → Bool
all_free free [] = true
all_free free (l ∷ ls) = free l && all_free free ls

-- the names of objects do not matter to it
abbrev pub IsOfNoNames : (Label → Bool) → Type 0
IsOfNoNames free = (f : ℕ → ℕ) (l : Label) → free (renamed_label f l) ≡ free l

-- the start leads into a list that puts off no label for ever, and all labels that were tried or followed are free
pub record IsWholeAndFree (p : ProgramTree) (free : Label → Bool) (es : List (ℕ × Configuration)) : Type 0 where
  pub begins : (c : Configuration) → start p 0 ≡ Some c → (e : Configuration) × SettlesFreely p free c e × IsIn 1 e es
  pub closed : IsClosedByChoices p free es
