-- The outcomes of a program: how its runs end, and what they wrote until then.
use Rattle.std.specs.Prelude.{◌≡◌, ◌⊎◌, List, [], ◌∷◌, map, true}
use Rattle.run_types.specs.declared.types.Item.{Item}
use Rattle.run_types.specs.declared.types.Label.{Label}
use Rattle.pool_syntax.specs.Terms.{ProgramTree}
use Rattle.pool_relation.specs.Configuration.{Configuration}
use Rattle.reachability.specs.Search.{IsAtEnd, IsStuck, IsUnfinished, IsFaulty, in_order}
use Rattle.reachability.specs.Renaming.{Renaming, renamed_item}
use Rattle.reachability.specs.Outcomes.{written, EndsWith, IsOneOf, all_name_none}
use Rattle.search_laws.specs.RenamedConfigurations.{IsRenamed}
use Rattle.pool_search.specs.declared.outcomes.EndKind.{EndKind}
use Rattle.pool_search.specs.declared.outcomes.EndKind.TheVariants as K
use Rattle.pool_search.specs.declared.outcomes.Outcome.{Outcome}
use Rattle.pool_search.specs.SearchTargets.{LeadsTo}

-- Where no label is possible: an object has met a run-time error; or else an object is in a call; or else an object
-- stands at an answer or a select, or a message was not taken; or nothing is left.
abbrev pub IsOfKind : EndKind → ProgramTree → Configuration → Type 0
IsOfKind K.Fault p c = IsFaulty c
IsOfKind K.Stuck p c = IsStuck p c × ¬ (IsFaulty c)
IsOfKind K.Left p c = IsUnfinished p c × ¬ (IsStuck p c) × ¬ (IsFaulty c)
IsOfKind K.Done p c = ¬ (IsUnfinished p c) × ¬ (IsFaulty c)

-- no label is possible, and the end is of this kind
pub record IsEndOf (k : EndKind) (p : ProgramTree) (c : Configuration) : Type 0 where
  pub at_end : IsAtEnd p c
  pub kind : IsOfKind k p c

-- these labels are a run from the start that ends in this way and writes these items
pub record IsRunOf (p : ProgramTree) (o : Outcome) (ls : List Label) : Type 0 where
  pub leads : LeadsTo p ls (IsEndOf o.kind p)
  pub writes : written ls ≡ o.items.items

-- the same, and the labels give new objects the names 1, 2, .. in order
abbrev pub IsRunInOrder : ProgramTree → Outcome → List Label → Type 0
IsRunInOrder p o ls = IsRunOf p o ls × (in_order 1 ls ≡ true)

-- some run ends in this way and writes these items
abbrev pub IsShown : ProgramTree → Outcome → Type 0
IsShown p o = (ls : List Label) × IsRunOf p o ls

-- one of the outcomes has these items, and its kind is that of this end
abbrev pub HasOutcome : ProgramTree → List Outcome → List Item → Configuration → Type 0
HasOutcome p [] w d = ⊥
HasOutcome p (o ∷ os) w d = ((o.items.items ≡ w) × IsOfKind o.kind p d) ⊎ HasOutcome p os w d

-- what was written, of each outcome
abbrev pub outputs_of : List Outcome → List (List Item)
outputs_of os = map (λ (o : Outcome). o.items.items) os

-- A run that wrote w came to its end d. This is its outcome, under other names of objects: a run from the start, whose
-- first object has the name 0, has the outcome, and its end is d under these names.
pub record IsOutcomeOf (p : ProgramTree) (o : Outcome) (w : List Item) (d : Configuration) : Type 0 where
  pub names : Renaming
  pub labels : List Label
  pub shows : IsRunOf p o labels
  pub same : IsRenamed names.to d shows.leads.last
  pub wrote : o.items.items ≡ map (renamed_item names.to) w
  pub kind : IsOfKind o.kind p d

-- one of the outcomes is that of this run
abbrev pub HasOutcomeOf : ProgramTree → List Outcome → List Item → Configuration → Type 0
HasOutcomeOf p [] w d = ⊥
HasOutcomeOf p (o ∷ os) w d = IsOutcomeOf p o w d ⊎ HasOutcomeOf p os w d

-- Each run that comes to its end has one of these outcomes, under other names of objects. If no outcome names an object,
-- the run wrote exactly what one of them says.
pub record HasAllOutcomes (p : ProgramTree) (os : List Outcome) : Type 0 where
  pub under_names : (w : List Item) (d : Configuration) → EndsWith p w d → HasOutcomeOf p os w d
  pub exactly : all_name_none (outputs_of os) ≡ true → (w : List Item) (d : Configuration) → EndsWith p w d → IsOneOf w (outputs_of os) × HasOutcome p os w d
