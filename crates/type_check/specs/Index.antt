-- The first place of each name in a list, and maps from names to these places.
use Rattle.std.specs.Prelude.{◌≡◌, ℕ, suc, ◌<◌, ◌==◌, nat_eq, List, [], ◌∷◌, length, get_or, Option, Some, None, option_map, if◌then◌else◌}
use Rattle.std.specs.declared.hash.FoldHasher.{FoldHasher}
use Rattle.std.specs.declared.hash.BuildHasherDefault.{BuildHasherDefault}
use Rattle.std.specs.HashMap.{get, HashMap}
use Rattle.pool_syntax.specs.declared.tree.ClassDecl.{ClassDecl}
use Rattle.pool_syntax.specs.declared.tree.Method.{Method}

-- a map from names to places
abbrev pub Places : Type 0
Places = HashMap ℕ ℕ (BuildHasherDefault FoldHasher)

-- the place of the first entry with this name
abbrev pub place_of : {A : Type 0} → (A → ℕ) → List A → ℕ → Option ℕ
place_of name [] n = None
place_of name (x ∷ xs) n = if name x == n then Some 0 else option_map suc (place_of name xs n)

-- the map gives the first place of each name
abbrev pub IsIndex : {A : Type 0} → (A → ℕ) → Places → List A → Type 0
IsIndex name places xs = (n : ℕ) → get nat_eq places n ≡ place_of name xs n

-- the first place of a name n after one more entry with this name was added at this place
abbrev pub place_with : Option ℕ → ℕ → ℕ → ℕ → Option ℕ
place_with (Some i) name place n = Some i
place_with None name place n = if name == n then Some place else None

-- the number of a method's name
abbrev pub method_name : Method → ℕ
method_name m = m.name.name.0

-- the map with the number of a class gives the first place of each name of a method in this class
abbrev pub AreIndexes : List Places → List ClassDecl → Type 0
AreIndexes all ks = (i : ℕ) (places : Places) (k : ClassDecl) → i < length all → places ≡ get_or all i places → k ≡ get_or ks i k → IsIndex method_name places k.methods
