-- Monitors: machines that read what a run writes. Lists that hold with each configuration the state of a monitor, of a
-- search with stubborn sets that puts off no label for ever.
use Rattle.std.specs.Prelude.{◌≡◌, ◌⊎◌, ℕ, List, [], ◌∷◌, Some, Bool, true, false}
use Rattle.run_types.specs.declared.types.Item.{Item}
use Rattle.run_types.specs.declared.types.Label.{Label}
use Rattle.run_types.specs.declared.types.Label.TheVariants as L
use Rattle.pool_syntax.specs.Terms.{ProgramTree}
use Rattle.pool_relation.specs.Configuration.{Configuration}
use Rattle.pool_relation.specs.Transition.{transition, run, start}
use Rattle.reachability.specs.Outcomes.{items_of, written}
use Rattle.reachability.specs.Renaming.{Renaming, renamed_item}
use Rattle.reachability.specs.Search.{IsInOrder, after, names_next}
use Rattle.search_laws.specs.FreeSettling.{SettlesFreely}
use Rattle.search_laws.specs.Renamed.{IsRenamed}
use Rattle.search_laws.specs.StubbornSets.{IsStubborn}

-- a machine that reads items, with its states
pub record Monitor (S : Type 0) : Type 0 where
  pub first : S
  pub next : S → Item → S

-- the state after these items
abbrev pub reads : (S : Type 0) → Monitor S → S → List Item → S
reads S m q [] = q
reads S m q (i ∷ is) = reads S m (m.next q i) is

-- the names of objects do not matter to it
abbrev pub IgnoresNames : (S : Type 0) → Monitor S → Type 0
IgnoresNames S m = (f : ℕ → ℕ) (q : S) (i : Item) → m.next q (renamed_item f i) ≡ m.next q i

-- some run leads to d from the start, for some name of the first object, and writes these items
pub record IsReachedWriting (p : ProgramTree) (w : List Item) (d : Configuration) : Type 0 where
  pub root : ℕ
  pub first : Configuration
  pub labels : List Label
  pub starts : start p root ≡ Some first
  pub leads : run p first labels ≡ Some d
  pub writes : written labels ≡ w

-- a configuration, with its next name and the state of the monitor
pub record Watched (S : Type 0) : Type 0 where
  pub next : ℕ
  pub state : S
  pub configuration : Configuration

-- the list has this configuration with this next name and this state
abbrev pub IsWatched : (S : Type 0) → ℕ → S → Configuration → List (Watched S) → Type 0
IsWatched S n q c [] = ⊥
IsWatched S n q c (e ∷ es) = ((e.next ≡ n) × (e.state ≡ q) × (e.configuration ≡ c)) ⊎ IsWatched S n q c es

-- a transition with this label writes nothing
abbrev pub writes_nothing : Label → Bool
writes_nothing (L.Write o i) = false
writes_nothing _ = true

module _ (S : Type 0) (p : ProgramTree) (m : Monitor S) (es : List (Watched S)) where
  -- if the label is possible, it leads into the list, after some transitions that need no choice and write nothing
  abbrev pub LeadsWatched : ℕ → S → Configuration → Label → Type 0
  LeadsWatched n q c l = (d : Configuration) → names_next n l ≡ true → transition p c l ≡ Some d
      → (e : Configuration) × SettlesFreely p writes_nothing d e × IsWatched S (after n l) (reads S m q (items_of l)) e es

  -- All labels were tried in c, or all labels of a stubborn set, which write nothing. In the second case, the label of it
  -- that stays possible leads to another configuration of the list of which the same holds.
  pub data IsWatchedInTheEnd : ℕ → S → Configuration → Type 0 where
    EachWatched : {n : ℕ} {q : S} {c : Configuration} → ((l : Label) → LeadsWatched n q c l) → IsWatchedInTheEnd n q c
    SomeWatched : {n : ℕ} {q : S} {c : Configuration} (chosen : Label → Bool) (stubborn : IsStubborn p n c chosen) → ((l : Label) → chosen l ≡ true → writes_nothing l ≡ true)
        → ((l : Label) → chosen l ≡ true → LeadsWatched n q c l)
        → (d e : Configuration) → transition p c stubborn.one ≡ Some d → SettlesFreely p writes_nothing d e → IsWatched S n q e es → IsWatchedInTheEnd n q e → IsWatchedInTheEnd n q c

  -- no label leads out of the list, and none is put off for ever
  pub record IsClosedWatched : Type 0 where
    pub in_order : (n : ℕ) (q : S) (c : Configuration) → IsWatched S n q c es → IsInOrder c
    pub in_the_end : (n : ℕ) (q : S) (c : Configuration) → IsWatched S n q c es → IsWatchedInTheEnd n q c

  -- the start leads into such a list
  pub record IsWholeWatched : Type 0 where
    pub begins : (c : Configuration) → start p 0 ≡ Some c → (e : Configuration) × SettlesFreely p writes_nothing c e × IsWatched S 1 m.first e es
    pub closed : IsClosedWatched

  -- a run that writes nothing leads from d, under other names of objects, to a configuration of the list with this state
  pub record LeadsOnTo (q : S) (d : Configuration) : Type 0 where
    pub names : Renaming
    pub other : Configuration
    pub same : IsRenamed names.to d other
    pub next : ℕ
    pub seen : Configuration
    pub is_in : IsWatched S next q seen es
    pub labels : List Label
    pub leads : run p other labels ≡ Some seen
    pub silent : written labels ≡ []

-- from d, with the monitor in the state q, some run goes on to where the state has the property
pub record CanCome (S : Type 0) (p : ProgramTree) (m : Monitor S) (wanted : S → Bool) (q : S) (d : Configuration) : Type 0 where
  pub last : Configuration
  pub labels : List Label
  pub leads : run p d labels ≡ Some last
  pub holds : wanted (reads S m q (written labels)) ≡ true

-- the list has d with this state, under other names of objects
pub record IsKeptWatched (S : Type 0) (es : List (Watched S)) (q : S) (d : Configuration) : Type 0 where
  pub names : Renaming
  pub next : ℕ
  pub seen : Configuration
  pub is_in : IsWatched S next q seen es
  pub same : IsRenamed names.to d seen
