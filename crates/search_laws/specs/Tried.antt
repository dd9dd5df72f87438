-- Lists of which the labels were tried, for a search that keeps configurations alone, or also what was written. Of an
-- entry all labels were tried, or those of one object that are enough, or one creation.
use Rattle.std.specs.Prelude.{◌≡◌, ◌⊎◌, ◌<◌, ℕ, suc, List, [], ◌∷◌, ◌++◌, Some, None, Bool, true}
use Rattle.std.specs.List.{filter, slice_get}
use Rattle.run_types.specs.declared.types.Item.{Item}
use Rattle.run_types.specs.declared.types.NameId.{NameId}
use Rattle.run_types.specs.declared.types.Label.{Label}
use Rattle.run_types.specs.declared.types.Label.TheVariants as L
use Rattle.pool_syntax.specs.Terms.{ProgramTree}
use Rattle.pool_relation.specs.Configuration.{Configuration}
use Rattle.pool_relation.specs.Transition.{transition, start}
use Rattle.reachability.specs.Search.{after, needs_no_choice, IsInOrder}
use Rattle.reachability.specs.Labels.{labels_to_try, is_silent}
use Rattle.reachability.specs.Outcomes.{items_of}
use Rattle.search_laws.specs.Outcomes.{Passed, IsPassed}
use Rattle.search_laws.specs.Stubborn.{IsAwaited, is_served}

-- what a search keeps of the label that leads to a configuration, and which labels it follows without keeping the
-- configurations between
pub record Course : Type 0 where
  pub keeps : Label → List Item
  pub follows : Label → Bool

-- of the labels that it follows it keeps nothing
abbrev pub KeepsNothing : Course → Type 0
KeepsNothing k = (l : Label) → k.follows l ≡ true → k.keeps l ≡ []

-- configurations alone
abbrev pub states_only : Course
states_only = record { keeps = λ _. []; follows = needs_no_choice }

-- what is written, too
abbrev pub with_writes : Course
with_writes = record { keeps = items_of; follows = is_silent }

module _ (p : ProgramTree) (k : Course) where
  -- any number of transitions that are followed
  pub data Follows : Configuration → Configuration → Type 0 where
    Stays : {c : Configuration} → Follows c c
    GoesBy : {c d e : Configuration} (l : Label) → k.follows l ≡ true → transition p c l ≡ Some d → Follows d e → Follows c e

  -- the label is possible and leads into the list, after some transitions that are followed
  pub record LeadsInto (es : List Passed) (n : ℕ) (w : List Item) (c : Configuration) (l : Label) : Type 0 where
    pub next : Configuration
    pub step : transition p c l ≡ Some next
    pub to : Configuration
    pub follows : Follows next to
    pub is_in : IsPassed (after n l) (w ++ k.keeps l) to es

  -- the label is impossible, or leads into the list
  abbrev pub IsLabelTried : List Passed → ℕ → List Item → Configuration → Label → Type 0
  IsLabelTried es n w c l = (transition p c l ≡ None) ⊎ LeadsInto es n w c l

  -- so is each of these labels
  abbrev pub AllLeadInto : List Passed → ℕ → List Item → Configuration → List Label → Type 0
  AllLeadInto es n w c [] = Unit {0}
  AllLeadInto es n w c (l ∷ ls) = IsLabelTried es n w c l × AllLeadInto es n w c ls

  -- the label leads to the entry at this place, after some transitions that are followed
  pub record LeadsAt (es : List Passed) (n : ℕ) (w : List Item) (c : Configuration) (l : Label) (place : ℕ) : Type 0 where
    pub next : Configuration
    pub step : transition p c l ≡ Some next
    pub to : Configuration
    pub follows : Follows next to
    pub there : slice_get es place ≡ Some (record { next = after n l; items = w ++ k.keeps l; configuration = to })

  -- Each label to try of the entry at the place i leads into the list or is impossible. Or each of those of an awaited
  -- object does, and one of them leads to a later entry. Or one creation leads into the list.
  pub data IsExpanded (es : List Passed) (i n : ℕ) (w : List Item) (c : Configuration) : Type 0 where
    Every : AllLeadInto es n w c (labels_to_try p n c) → IsExpanded es i n w c
    Those : (b : ℕ) (awaited : IsAwaited p n b c) → AllLeadInto es n w c (filter (is_served b) (labels_to_try p n c)) → (place : ℕ) → i < place → LeadsAt es n w c awaited.one place
        → IsExpanded es i n w c
    ByBirth : (o : ℕ) (class : NameId) → LeadsInto es n w c (L.New o n class) → IsExpanded es i n w c

  -- each configuration of the second list, of which the first has the place i, is in order and was expanded into the
  -- first list
  abbrev pub AreTried : List Passed → ℕ → List Passed → Type 0
  AreTried es i [] = Unit {0}
  AreTried es i (e ∷ rest) = IsInOrder e.configuration × IsExpanded es i e.next e.items e.configuration × AreTried es (suc i) rest

  -- the start settles into the list
  abbrev pub Begins : List Passed → Type 0
  Begins es = (c : Configuration) → start p 0 ≡ Some c → (e : Configuration) × Follows c e × IsPassed 1 [] e es

  -- the facts that a search has established at its end: the start leads into the list, and each configuration was
  -- expanded into it
  pub record IsTried (es : List Passed) : Type 0 where
    pub begins : Begins es
    pub tried : AreTried es 0 es

-- the configuration with its next name
abbrev pub state_of : Passed → ℕ × Configuration
state_of e = (e.next, e.configuration)
