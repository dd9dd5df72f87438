-- Lists of a search with stubborn sets of which each configuration has a bound on the runs from it: on their number of
-- transitions, and on what these cost. And runs that can be repeated for ever.
use Rattle.std.specs.Prelude.{◌≡◌, ◌≤◌, ◌+◌, ◌⊎◌, ℕ, suc, List, [], ◌∷◌, length, Some, Bool, true}
use Rattle.run_types.specs.declared.types.Label.{Label}
use Rattle.pool_syntax.specs.Terms.{ProgramTree}
use Rattle.pool_relation.specs.Configuration.{Configuration}
use Rattle.pool_relation.specs.Transition.{transition, run, start}
use Rattle.reachability.specs.Search.{IsAtEnd, IsInOrder, after, names_next, needs_no_choice}
use Rattle.search_laws.specs.Renamed.{renamed_label}
use Rattle.search_laws.specs.StubbornSets.{IsStubborn}
use Rattle.search_laws.specs.Monitors.{Watched, IsWatched}

-- what the labels cost together
abbrev pub costs : (Label → ℕ) → List Label → ℕ
costs cost [] = 0
costs cost (l ∷ ls) = cost l + costs cost ls

-- a cost that the names of objects do not change
abbrev pub IsOfKinds : (Label → ℕ) → Type 0
IsOfKinds cost = (f : ℕ → ℕ) (l : Label) → cost (renamed_label f l) ≡ cost l

-- transitions that need no choice, one after another, with their number and what they cost
pub data SettlesIn (p : ProgramTree) (cost : Label → ℕ) : ℕ → ℕ → Configuration → Configuration → Type 0 where
  InNone : {c : Configuration} → SettlesIn p cost 0 0 c c
  InMore : {k v : ℕ} {c d e : Configuration} (l : Label) → needs_no_choice l ≡ true → transition p c l ≡ Some d → SettlesIn p cost k v d e → SettlesIn p cost (suc k) (cost l + v) c e

-- a configuration, with its next name, the largest number of transitions of a run from it, and the greatest cost of one
pub record Bounded : Type 0 where
  pub next : ℕ
  pub length : ℕ
  pub cost : ℕ
  pub configuration : Configuration

abbrev pub IsBounded : ℕ → ℕ → ℕ → Configuration → List Bounded → Type 0
IsBounded n k v c [] = ⊥
IsBounded n k v c (e ∷ es) = ((e.next ≡ n) × (e.length ≡ k) × (e.cost ≡ v) × (e.configuration ≡ c)) ⊎ IsBounded n k v c es

module _ (p : ProgramTree) (cost : Label → ℕ) (es : List Bounded) where
  -- some transitions that need no choice lead from d into the list, where at most k and v are left with them
  pub record SettlesLower (n k v : ℕ) (d : Configuration) : Type 0 where
    pub steps : ℕ
    pub paid : ℕ
    pub to : Configuration
    pub settles : SettlesIn p cost steps paid d to
    pub left : ℕ
    pub owed : ℕ
    pub is_in : IsBounded n left owed to es
    pub shorter : steps + left ≤ k
    pub cheaper : paid + owed ≤ v

  -- if the label is possible, it leads into the list, and the bounds are kept
  abbrev pub LeadsLower : ℕ → ℕ → ℕ → Configuration → Label → Type 0
  LeadsLower n k v c l = (d : Configuration) → names_next n l ≡ true → transition p c l ≡ Some d
      → (j w : ℕ) × (suc j ≤ k) × (cost l + w ≤ v) × SettlesLower (after n l) j w d

  -- all labels do so, or all labels of a stubborn set
  pub data IsLowered (n k v : ℕ) (c : Configuration) : Type 0 where
    EachLowers : ((l : Label) → LeadsLower n k v c l) → IsLowered n k v c
    SomeLower : (chosen : Label → Bool) → IsStubborn p n c chosen → ((l : Label) → chosen l ≡ true → LeadsLower n k v c l) → IsLowered n k v c

  -- the start leads into such a list, with the bounds k and v
  pub record IsWholeBounded (k v : ℕ) : Type 0 where
    pub begins : (c : Configuration) → start p 0 ≡ Some c → SettlesLower 1 k v c
    pub in_order : (n k v : ℕ) (c : Configuration) → IsBounded n k v c es → IsInOrder c
    pub lowered : (n k v : ℕ) (c : Configuration) → IsBounded n k v c es → IsLowered n k v c

-- Lists of which each configuration has a bound that the runs from it to an end do not fall below.
module _ (p : ProgramTree) (cost : Label → ℕ) (es : List (Watched ℕ)) where
  -- some transitions that need no choice lead from d into the list, and cost at least v with what is owed there
  pub record SettlesAbove (n v : ℕ) (d : Configuration) : Type 0 where
    pub steps : ℕ
    pub paid : ℕ
    pub to : Configuration
    pub settles : SettlesIn p cost steps paid d to
    pub owed : ℕ
    pub is_in : IsWatched ℕ n owed to es
    pub dearer : v ≤ paid + owed

  -- if the label is possible, it leads into the list, and the bound is kept
  abbrev pub LeadsAbove : ℕ → ℕ → Configuration → Label → Type 0
  LeadsAbove n v c l = (d : Configuration) → names_next n l ≡ true → transition p c l ≡ Some d → (w : ℕ) × (v ≤ cost l + w) × SettlesAbove (after n l) w d

  -- all labels do so, or all labels of a stubborn set
  pub data IsRaised (n v : ℕ) (c : Configuration) : Type 0 where
    EachRaises : ((l : Label) → LeadsAbove n v c l) → IsRaised n v c
    SomeRaise : (chosen : Label → Bool) → IsStubborn p n c chosen → ((l : Label) → chosen l ≡ true → LeadsAbove n v c l) → IsRaised n v c

  -- the start leads into such a list, with the bound v; where no label is possible the bound is 0
  pub record IsWholeAbove (v : ℕ) : Type 0 where
    pub begins : (c : Configuration) → start p 0 ≡ Some c → SettlesAbove 1 v c
    pub in_order : (n v : ℕ) (c : Configuration) → IsWatched ℕ n v c es → IsInOrder c
    pub raised : (n v : ℕ) (c : Configuration) → IsWatched ℕ n v c es → IsRaised n v c
    pub ends : (n v : ℕ) (c : Configuration) → IsWatched ℕ n v c es → IsAtEnd p c → v ≡ 0

-- these labels are a run from the start, and after it the loop leads back to where it began
pub record ComesBack (p : ProgramTree) (front loop : List Label) : Type 0 where
  pub root : ℕ
  pub first : Configuration
  pub there : Configuration
  pub starts : start p root ≡ Some first
  pub leads : run p first front ≡ Some there
  pub back : run p there loop ≡ Some there
  pub some : 1 ≤ length loop

-- for each number there is a run with at least as many transitions
abbrev pub HasLongRuns : ProgramTree → Type 0
HasLongRuns p = (n : ℕ) → (root : ℕ) × (c d : Configuration) × (ls : List Label) × (start p root ≡ Some c) × (run p c ls ≡ Some d) × (n ≤ length ls)
