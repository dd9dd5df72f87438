-- Lists of a search with stubborn sets that puts off no label for ever: from each configuration, labels that were tried
-- lead on to a configuration in which all labels were tried.
use Rattle.std.specs.Prelude.{◌≡◌, ℕ, suc, List, Some, Bool, true}
use Rattle.run_types.specs.declared.types.NameId.{NameId}
use Rattle.run_types.specs.declared.types.Label.{Label}
use Rattle.run_types.specs.declared.types.Label.TheVariants as L
use Rattle.pool_syntax.specs.Terms.{ProgramTree}
use Rattle.pool_relation.specs.Configuration.{Configuration}
use Rattle.pool_relation.specs.Transition.{transition, start}
use Rattle.reachability.specs.Search.{IsIn, IsInOrder, after, names_next}
use Rattle.search_laws.specs.FreeSettling.{SettlesFreely}
use Rattle.search_laws.specs.StubbornSets.{IsStubborn}

-- if the label is possible, it is free, and leads into the list after some free transitions that need no choice
abbrev pub LeadsFreely : ProgramTree → (Label → Bool) → List (ℕ × Configuration) → ℕ → Configuration → Label → Type 0
LeadsFreely p free es n c l = (d : Configuration) → names_next n l ≡ true → transition p c l ≡ Some d
    → (free l ≡ true) × ((e : Configuration) × SettlesFreely p free d e × IsIn (after n l) e es)

-- All labels were tried in c, or all labels of a stubborn set, or the creation that one object is about to make. In the
-- second case, the label of the set that stays possible leads to another configuration of the list of which the same
-- holds. In the third case the creation does.
pub data IsTriedInTheEnd (p : ProgramTree) (free : Label → Bool) (es : List (ℕ × Configuration)) : ℕ → Configuration → Type 0 where
  Every : {n : ℕ} {c : Configuration} → ((l : Label) → LeadsFreely p free es n c l) → IsTriedInTheEnd p free es n c
  Chosen : {n : ℕ} {c : Configuration} (chosen : Label → Bool) (stubborn : IsStubborn p n c chosen) → ((l : Label) → chosen l ≡ true → LeadsFreely p free es n c l)
      → (d e : Configuration) → transition p c stubborn.one ≡ Some d → SettlesFreely p free d e → IsIn n e es → IsTriedInTheEnd p free es n e → IsTriedInTheEnd p free es n c
  Created : {n : ℕ} {c : Configuration} (o : ℕ) (k : NameId) → ((m : ℕ) → free (L.New o m k) ≡ true)
      → (d e : Configuration) → transition p c (L.New o n k) ≡ Some d → SettlesFreely p free d e → IsIn (suc n) e es → IsTriedInTheEnd p free es (suc n) e → IsTriedInTheEnd p free es n c

-- the same holds of each configuration of the list, so that no label is put off for ever
pub record IsClosedByChoices (p : ProgramTree) (free : Label → Bool) (es : List (ℕ × Configuration)) : Type 0 where
  pub in_order : (n : ℕ) (c : Configuration) → IsIn n c es → IsInOrder c
  pub in_the_end : (n : ℕ) (c : Configuration) → IsIn n c es → IsTriedInTheEnd p free es n c

-- all labels
abbrev pub any : Label → Bool
any l = true

-- the start leads into such a list, with all labels free
pub record IsWholeByChoices (p : ProgramTree) (es : List (ℕ × Configuration)) : Type 0 where
  pub begins : (c : Configuration) → start p 0 ≡ Some c → (e : Configuration) × SettlesFreely p any c e × IsIn 1 e es
  pub closed : IsClosedByChoices p any es
