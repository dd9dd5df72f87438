-- Lists that hold with each configuration what was written on the way to it, and what such a list needs so that the end
-- of no run is missing.
use Rattle.std.specs.Prelude.{◌≡◌, ◌⊎◌, ◌==◌, ℕ, suc, List, [], ◌∷◌, ◌++◌, map, Option, Some, None, Bool, true, false}
use Rattle.run_types.specs.declared.types.NameId.{NameId}
use Rattle.run_types.specs.declared.types.Item.{Item}
use Rattle.run_types.specs.declared.types.Label.{Label}
use Rattle.run_types.specs.declared.types.Label.TheVariants as L
use Rattle.pool_syntax.specs.Terms.{ProgramTree}
use Rattle.pool_relation.specs.Configuration.{Configuration}
use Rattle.pool_relation.specs.Transition.{transition, start}
use Rattle.search_laws.specs.Renamed.{Renaming, renamed_item, IsRenamed}
use Rattle.search_laws.specs.Stubborn.{IsStubborn}
use Rattle.reachability.specs.Outcomes.{items_of, IsOneOf}
use Rattle.reachability.specs.Search.{IsStuck, IsUnfinished, IsFaulty, IsAtEnd, needs_no_choice, after, names_next, IsInOrder}

-- The order of such a transition in a run does not matter for what the run writes. It needs no choice, and is no write
-- but of the writer, if there is one.
abbrev pub needs_no_order : Option ℕ → Label → Bool
needs_no_order None (L.Write o i) = false
needs_no_order (Some w) (L.Write o i) = o == w
needs_no_order s l = needs_no_choice l

-- any number of such transitions, one after another, which write these items
pub data SettlesWith (p : ProgramTree) (s : Option ℕ) : Configuration → List Item → Configuration → Type 0 where
  Rests : {c : Configuration} → SettlesWith p s c [] c
  GoesOn : {c d e : Configuration} {v : List Item} (l : Label) → needs_no_order s l ≡ true → transition p c l ≡ Some d → SettlesWith p s d v e → SettlesWith p s c (items_of l ++ v) e

-- a configuration, with its next name and with what was written on the way to it
pub record Passed : Type 0 where
  pub next : ℕ
  pub items : List Item
  pub configuration : Configuration

-- the list has this configuration with this next name and these items
abbrev pub IsPassed : ℕ → List Item → Configuration → List Passed → Type 0
IsPassed n w c [] = ⊥
IsPassed n w c (e ∷ es) = ((e.next ≡ n) × (e.items ≡ w) × (e.configuration ≡ c)) ⊎ IsPassed n w c es

-- The start leads into the list, after some transitions whose order does not matter. So does each label of a
-- configuration of the list, if it names new objects in order. If there is a writer, no other object can write in a
-- configuration of the list.
pub record IsWholeWith (p : ProgramTree) (s : Option ℕ) (es : List Passed) : Type 0 where
  pub in_order : (n : ℕ) (w : List Item) (c : Configuration) → IsPassed n w c es → IsInOrder c
  pub begins : (c : Configuration) → start p 0 ≡ Some c → (e : Configuration) × (v : List Item) × SettlesWith p s c v e × IsPassed 1 v e es
  pub closed : (n : ℕ) (w : List Item) (c d : Configuration) (l : Label) → IsPassed n w c es → names_next n l ≡ true → transition p c l ≡ Some d
      → (e : Configuration) × (v : List Item) × SettlesWith p s d v e × IsPassed (after n l) (w ++ (items_of l ++ v)) e es
  pub alone : (writer : ℕ) → s ≡ Some writer → (n : ℕ) (w : List Item) (c d : Configuration) (o : ℕ) (i : Item) → IsPassed n w c es
      → transition p c (L.Write o i) ≡ Some d → o ≡ writer

-- the list has d with these items, both under other names of objects
pub record IsKeptEnd (p : ProgramTree) (es : List Passed) (items : List Item) (d : Configuration) : Type 0 where
  pub names : Renaming
  pub next : ℕ
  pub seen : Configuration
  pub is_in : IsPassed next (map (renamed_item names.to) items) seen es
  pub same : IsRenamed names.to d seen

-- the outputs vs are all that the list has with configurations in which no label is possible
abbrev pub HasAllEnds : ProgramTree → List Passed → List (List Item) → Type 0
HasAllEnds p es vs = (n : ℕ) (w : List Item) (c : Configuration) → IsPassed n w c es → IsAtEnd p c → IsOneOf w vs

-- one of the two configurations is faulty, stuck or unfinished exactly if the other is
pub record EndsAlike (p : ProgramTree) (c d : Configuration) : Type 0 where
  pub faulty : IsFaulty c → IsFaulty d
  pub faulty_back : IsFaulty d → IsFaulty c
  pub stuck : IsStuck p c → IsStuck p d
  pub stuck_back : IsStuck p d → IsStuck p c
  pub unfinished : IsUnfinished p c → IsUnfinished p d
  pub unfinished_back : IsUnfinished p d → IsUnfinished p c

-- if the label is possible, it leads into the list, after some transitions that need no choice and are no writes
abbrev pub LeadsWith : ProgramTree → List Passed → ℕ → List Item → Configuration → Label → Type 0
LeadsWith p es n w c l = (d : Configuration) → names_next n l ≡ true → transition p c l ≡ Some d
    → (e : Configuration) × (v : List Item) × SettlesWith p None d v e × IsPassed (after n l) (w ++ (items_of l ++ v)) e es

-- all labels lead into the list, or all labels of a stubborn set that write nothing do, or a creation that one object is
-- about to make does
pub data IsEnoughWith (p : ProgramTree) (es : List Passed) (n : ℕ) (w : List Item) (c : Configuration) : Type 0 where
  AllOfThem : ((l : Label) → LeadsWith p es n w c l) → IsEnoughWith p es n w c
  Chosen : (chosen : Label → Bool) → IsStubborn p n c chosen → ((l : Label) → chosen l ≡ true → items_of l ≡ []) → ((l : Label) → chosen l ≡ true → LeadsWith p es n w c l) → IsEnoughWith p es n w c
  Created : (o : ℕ) (k : NameId) (d e : Configuration) (v : List Item) → transition p c (L.New o n k) ≡ Some d → SettlesWith p None d v e → IsPassed (suc n) (w ++ v) e es → IsEnoughWith p es n w c

-- The start leads into the list, after some such transitions. In each configuration of the list, all labels lead into
-- the list, or all labels of a stubborn set that write nothing do, or a creation does.
pub record IsWholeWithChoices (p : ProgramTree) (es : List Passed) : Type 0 where
  pub in_order : (n : ℕ) (w : List Item) (c : Configuration) → IsPassed n w c es → IsInOrder c
  pub begins : (c : Configuration) → start p 0 ≡ Some c → (e : Configuration) × (v : List Item) × SettlesWith p None c v e × IsPassed 1 v e es
  pub enough : (n : ℕ) (w : List Item) (c : Configuration) → IsPassed n w c es → IsEnoughWith p es n w c
