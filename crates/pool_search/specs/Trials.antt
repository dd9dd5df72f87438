-- The labels of an entry that are tried, and the results of trials.
use Rattle.std.specs.Prelude.{◌≡◌, ◌<◌, ◌==◌, ℕ, List, Option, Some, None, Bool, true, false, slice_get}
use Rattle.run_types.specs.declared.types.Item.{Item}
use Rattle.run_types.specs.declared.types.Label.{Label}
use Rattle.run_types.specs.declared.types.Label.TheVariants as L
use Rattle.pool_syntax.specs.Terms.{ProgramTree}
use Rattle.pool_relation.specs.Configuration.{Configuration}
use Rattle.pool_relation.specs.Transition.{transition}
use Rattle.search_laws.specs.Outcomes.{Passed}
use Rattle.search_laws.specs.Stubborn.{is_served}
use Rattle.search_laws.specs.Tried.{Course, Follows, LeadsAt}
use Rattle.pool_search.specs.Progress.{Entries}
use Rattle.visited_set.specs.VisitedConfigurations.{entry}
use Rattle.pool_search.specs.declared.choices.Trial.{Trial}
use Rattle.pool_search.specs.declared.choices.Trial.TheVariants as T

-- no bound was met
abbrev pub is_tried : Trial → Bool
is_tried T.Tried = true
is_tried (T.Led i) = true
is_tried T.Over = false

-- all labels are asked for, or those that this object serves
abbrev pub is_asked : Option ℕ → Label → Bool
is_asked None l = true
is_asked (Some b) l = is_served b l

-- the label gives the name n to a new object
abbrev pub is_birth : ℕ → Label → Bool
is_birth n (L.New o m k) = m == n
is_birth n _ = false

-- so does the label at this place
pub record IsBirthAt (n : ℕ) (ls : List Label) (place : ℕ) : Type 0 where
  pub label : Label
  pub there : slice_get ls place ≡ Some label
  pub births : is_birth n label ≡ true

-- some label is possible in c
pub record CanMove (p : ProgramTree) (c : Configuration) : Type 0 where
  pub label : Label
  pub next : Configuration
  pub step : transition p c label ≡ Some next

-- transitions that are followed lead from c to the entry at this place, with this next name and these items
pub record SettlesAt (p : ProgramTree) (k : Course) (es : Entries) (n : ℕ) (w : List Item) (c : Configuration) (place : ℕ) : Type 0 where
  pub to : Configuration
  pub follows : Follows p k c to
  pub there : slice_get es place ≡ Some (entry n w to)

-- a label that is asked for leads from the entry e at the place `at` to the later entry at this place
pub record OneLeadsOn (p : ProgramTree) (k : Course) (es : Entries) (at : ℕ) (e : Passed) (served : Option ℕ) (place : ℕ) : Type 0 where
  pub later : at < place
  pub label : Label
  pub asked : is_asked served label ≡ true
  pub leads : LeadsAt p k es e.next e.items e.configuration label place
