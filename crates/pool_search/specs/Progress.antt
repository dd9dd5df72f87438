-- The progress of a search: the list of its entries, and how many of them were visited.
use Rattle.std.specs.Prelude.{◌≡◌, ◌≤◌, ◌+◌, ℕ, List, [], ◌∷◌, ◌++◌, take, length, Some}
use Rattle.run_types.specs.declared.types.Item.{Item}
use Rattle.run_types.specs.declared.types.Label.{Label}
use Rattle.pool_syntax.specs.Terms.{ProgramTree}
use Rattle.run_types.specs.Tables.{Each}
use Rattle.pool_relation.specs.Configuration.{Configuration}
use Rattle.pool_relation.specs.Transition.{run, start}
use Rattle.reachability.specs.Search.{IsInOrder}
use Rattle.search_laws.specs.Outcomes.{Passed}
use Rattle.search_laws.specs.Tried.{Course, AreTried, Begins}

-- configurations, each with its next free name and what was written before it
abbrev pub Entries : Type 0
Entries = List Passed

-- the maps of each configuration are in order
abbrev pub AllInOrder : Entries → Type 0
AllInOrder es = Each (λ (e : Passed). IsInOrder e.configuration) es

module _ (p : ProgramTree) (k : Course) where
  -- what a search keeps of the labels of a run
  abbrev pub gathered : List Label → List Item
  gathered [] = []
  gathered (l ∷ ls) = k.keeps l ++ gathered ls

  -- some run from the start, where the root has the name 0, leads there, and this is kept of it
  pub record IsReachedWith (w : List Item) (c : Configuration) : Type 0 where
    pub first : Configuration
    pub labels : List Label
    pub starts : start p 0 ≡ Some first
    pub leads : run p first labels ≡ Some c
    pub kept : gathered labels ≡ w

  abbrev pub AllReached : Entries → Type 0
  AllReached es = Each (λ (e : Passed). IsReachedWith e.items e.configuration) es

  -- the list grew at its end, by configurations that are reached and have maps in order, and did not pass the bound
  pub record Grows (most : ℕ) (old new : Entries) : Type 0 where
    pub added : Entries
    pub is : new ≡ old ++ added
    pub in_order : AllInOrder old → AllInOrder new
    pub reached : AllReached old → AllReached new
    pub within : length old ≤ most → length new ≤ most

  -- the start settles into the list; the entries before `at` were
  -- expanded; each of these entries has the property P
  pub record IsSearchedTo (P : Passed → Type 0) (es : Entries) (at : ℕ) : Type 0 where
    pub begins : Begins p k es
    pub in_order : AllInOrder es
    pub reached : AllReached es
    pub tried : AreTried p k es 0 (take at es)
    pub visited : Each P (take at es)

  -- the list grew, and one more entry was visited
  pub record HasSearched (most : ℕ) (P : Passed → Type 0) (old new : Entries) (at : ℕ) : Type 0 where
    pub grows : Grows most old new
    pub goes_on : IsSearchedTo P old at → IsSearchedTo P new (at + 1)
