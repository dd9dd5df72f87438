-- Lists of a search with stubborn sets by places, as a search knows them that appends what it reaches.
use Rattle.std.specs.Prelude.{◌≡◌, ℕ, suc, List, Some, Bool, true, ◌<◌}
use Rattle.run_types.specs.declared.types.NameId.{NameId}
use Rattle.run_types.specs.declared.types.Label.{Label}
use Rattle.run_types.specs.declared.types.Label.TheVariants as L
use Rattle.pool_syntax.specs.Terms.{ProgramTree}
use Rattle.pool_relation.specs.Configuration.{Configuration}
use Rattle.pool_relation.specs.Transition.{transition}
use Rattle.search_laws.specs.FreeSettling.{SettlesFreely}
use Rattle.search_laws.specs.StubbornSets.{IsStubborn}
use Rattle.search_laws.specs.PutOff.{LeadsFreely}

-- All labels were tried in the configuration at the place i, or all labels of a stubborn set, or a creation. In the
-- second case, the label of the set that stays possible leads to a later place.
pub data IsTriedAt (p : ProgramTree) (free : Label → Bool) (es : List (ℕ × Configuration)) (At : ℕ → ℕ → Configuration → Type 0) (i n : ℕ) (c : Configuration) : Type 0 where
  AllThere : ((l : Label) → LeadsFreely p free es n c l) → IsTriedAt p free es At i n c
  SomeThere : (chosen : Label → Bool) (stubborn : IsStubborn p n c chosen) → ((l : Label) → chosen l ≡ true → LeadsFreely p free es n c l)
      → (d e : Configuration) → transition p c stubborn.one ≡ Some d → SettlesFreely p free d e → (j : ℕ) → i < j → At j n e → IsTriedAt p free es At i n c
  CreatedThere : (o : ℕ) (k : NameId) → ((m : ℕ) → free (L.New o m k) ≡ true) → (d e : Configuration) → transition p c (L.New o n k) ≡ Some d → SettlesFreely p free d e → (j : ℕ) → At j (suc n) e → IsTriedAt p free es At i n c
