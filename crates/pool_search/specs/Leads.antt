-- Where the labels of an entry lead, and entries that no label leaves and in which no label changes an object.
use Rattle.std.specs.Prelude.{◌≡◌, ◌⊎◌, ◌<◌, ℕ, List, ◌∷◌, Option, Some, None, true, false, slice_get}
use Rattle.std.specs.List.{filter}
use Rattle.run_types.specs.declared.types.Item.{Item}
use Rattle.run_types.specs.declared.types.NameId.{NameId}
use Rattle.run_types.specs.declared.types.Label.{Label}
use Rattle.run_types.specs.declared.types.Label.TheVariants as N
use Rattle.run_types.specs.Tables.{Each}
use Rattle.pool_syntax.specs.Terms.{ProgramTree}
use Rattle.pool_relation.specs.Configuration.{Configuration}
use Rattle.pool_relation.specs.Transition.{transition, run}
use Rattle.reachability.specs.Search.{after}
use Rattle.reachability.specs.Labels.{labels_to_try}
use Rattle.search_laws.specs.Outcomes.{Passed}
use Rattle.search_laws.specs.Stubborn.{IsAwaited, is_served}
use Rattle.search_laws.specs.Tried.{states_only}
use Rattle.search_laws.specs.Dead.{some_changes}
use Rattle.object_moves.specs.Followed.{AreChanged}
use Rattle.visited_set.specs.Courses.{all_followed}
use Rattle.pool_search.specs.declared.choices.Trial.{Trial}
use Rattle.pool_search.specs.declared.choices.Trial.TheVariants as T
use Rattle.pool_search.specs.declared.going_on.Lead.{Lead}
use Rattle.pool_search.specs.declared.going_on.Lead.TheVariants as L
use Rattle.pool_search.specs.Progress.{Entries}
use Rattle.pool_search.specs.Trials.{is_asked}
use Rattle.visited_set.specs.VisitedConfigurations.{entry}
use Rattle.visited_set.specs.WaiterLists.{HasWaiter}
use Rattle.visited_set.specs.declared.waiters.Waiter.{Waiter}

-- from c, with the next name n, the label l leads to the entry `to`; `made` are the label and those that settle after it
pub record IsEdge (p : ProgramTree) (es : Entries) (n : ℕ) (c : Configuration) (l : Label) (made : List Label) (to : ℕ) : Type 0 where
  pub settled : List Label
  pub is : made ≡ l ∷ settled
  pub free : all_followed states_only settled ≡ true
  pub last : Configuration
  pub leads : run p c made ≡ Some last
  pub items : List Item
  pub there : slice_get es to ≡ Some (entry (after n l) items last)

-- what is known of a label of the entry e that was followed: it is impossible, or it leads to an entry, or nothing
abbrev pub IsLead : ProgramTree → Entries → Passed → Label → List Label → Lead → Type 0
IsLead p es e l made L.Nowhere = transition p e.configuration l ≡ None
IsLead p es e l made (L.To to) = IsEdge p es e.next e.configuration l made to
IsLead p es e l made L.Unknown = Unit {0}

-- from c, with the next name n, the label l leads to the entry `to`, and these objects are changed on the way
pub record HasMovedTo (p : ProgramTree) (es : Entries) (n : ℕ) (c : Configuration) (l : Label) (moved : List ℕ) (to : ℕ) : Type 0 where
  pub made : List Label
  pub edge : IsEdge p es n c l made to
  pub changed : AreChanged made moved

module _ (p : ProgramTree) (es : Entries) (ws : List Waiter) (o : ℕ) where
  -- the label leads to an entry in which the object waits and is not known to go on, and nothing on the way changes it
  pub record LeadsBeside (n : ℕ) (c : Configuration) (l : Label) : Type 0 where
    pub made : List Label
    pub to : ℕ
    pub edge : IsEdge p es n c l made to
    pub beside : some_changes o made ≡ false
    pub waits : HasWaiter false to o ws

  -- the label is impossible or does so
  abbrev pub IsBeside : ℕ → Configuration → Label → Type 0
  IsBeside n c l = (transition p c l ≡ None) ⊎ LeadsBeside n c l

  -- what is known of a label of the entry e after a trial: it is impossible, or leads so to this place, or nothing
  abbrev pub IsTriedBeside : Passed → Label → Trial → Type 0
  IsTriedBeside e l T.Tried = transition p e.configuration l ≡ None
  IsTriedBeside e l (T.Led i) = (h : LeadsBeside e.next e.configuration l) × (h.to ≡ i)
  IsTriedBeside e l T.Over = Unit {0}

  -- a label that is asked for leads so from the entry at the place `at` to the later entry at this place
  pub record OneStaysOn (at n : ℕ) (c : Configuration) (served : Option ℕ) (place : ℕ) : Type 0 where
    pub later : at < place
    pub label : Label
    pub asked : is_asked served label ≡ true
    pub leads : LeadsBeside n c label
    pub to : leads.to ≡ place

  -- Each label of the entry at the place `at` is impossible or leads so. Or each of those of an awaited object is, and one
  -- of them leads to a later entry. Or a creation leads so.
  pub data StaysIn (at : ℕ) (e : Passed) : Type 0 where
    ByAll : Each (IsBeside e.next e.configuration) (labels_to_try p e.next e.configuration) → StaysIn at e
    ByThose : (b : ℕ) (awaited : IsAwaited p e.next b e.configuration) → Each (IsBeside e.next e.configuration) (filter (is_served b) (labels_to_try p e.next e.configuration))
        → (leads : LeadsBeside e.next e.configuration awaited.one) → at < leads.to → StaysIn at e
    ByBirth : (b : ℕ) (class : NameId) → LeadsBeside e.next e.configuration (N.New b e.next class) → StaysIn at e

  -- the same of the entry of the waiter, if the waiter is the object and not known to go on
  abbrev pub StaysAt : Waiter → Type 0
  StaysAt w = w.object ≡ o → w.goes_on ≡ false → (e : Passed) → slice_get es w.entry ≡ Some e → StaysIn w.entry e
