-- What a run has written when no label is possible any more, and lists of such outputs.
use Rattle.std.specs.Prelude.{◌≡◌, ◌⊎◌, ℕ, List, [], ◌∷◌, ◌++◌, Some, Bool, true, false, ◌&&◌}
use Rattle.run_types.specs.declared.types.Value.TheVariants as V
use Rattle.run_types.specs.declared.types.Item.{Item}
use Rattle.run_types.specs.declared.types.Item.TheVariants as I
use Rattle.run_types.specs.declared.types.Label.{Label}
use Rattle.run_types.specs.declared.types.Label.TheVariants as L
use Rattle.pool_syntax.specs.Terms.{ProgramTree}
use Rattle.pool_relation.specs.Configuration.{Configuration}
use Rattle.pool_relation.specs.Transition.{run, start}
use Rattle.reachability.specs.Search.{IsAtEnd}

-- the items that a transition with this label writes: one or none
abbrev pub items_of : Label → List Item
items_of (L.Write o i) = i ∷ []
items_of _ = []

-- the items that a run with these labels writes, in their order
abbrev pub written : List Label → List Item
written [] = []
written (l ∷ ls) = items_of l ++ written ls

-- some run leads to d from the start, for some name of the first object; it writes these items, and no label is possible
-- in d
pub record EndsWith (p : ProgramTree) (items : List Item) (d : Configuration) : Type 0 where
  pub root : ℕ
  pub first : Configuration
  pub labels : List Label
  pub starts : start p root ≡ Some first
  pub leads : run p first labels ≡ Some d
  pub at_end : IsAtEnd p d
  pub writes : written labels ≡ items

-- the output w is one of these
abbrev pub IsOneOf : List Item → List (List Item) → Type 0
IsOneOf w [] = ⊥
IsOneOf w (v ∷ vs) = (v ≡ w) ⊎ IsOneOf w vs

-- the item is not the name of an object
abbrev pub names_none : Item → Bool
names_none (I.Value (V.Ref n)) = false
names_none _ = true

-- no item of the output is the name of an object
abbrev pub name_none : List Item → Bool
name_none [] = true
name_none (i ∷ is) = names_none i && name_none is

-- the same of each of these outputs
abbrev pub all_name_none : List (List Item) → Bool
all_name_none [] = true
all_name_none (w ∷ ws) = name_none w && all_name_none ws
