-- Maps from each class name to the place of the first class of that name.
use Rattle.std.specs.Prelude.{◌≡◌, ℕ, List}
use Rattle.std.specs.Ordering.{nat_cmp}
use Rattle.std.specs.BTreeMap.{get, BTreeMap}
use Rattle.code_semantics.specs.declared.unit.ClassCode.{ClassCode}
use Rattle.code_semantics.specs.Step.{class_from}

-- a map from numbers of names to places
abbrev pub Places : Type 0
Places = BTreeMap ℕ ℕ

-- the map has the place of the first class of each name; the first class of the list has the place i
abbrev pub IsIndexFrom : ℕ → Places → List ClassCode → Type 0
IsIndexFrom i places ks = (n : ℕ) → get nat_cmp places n ≡ class_from i ks (record { 0 = n })
