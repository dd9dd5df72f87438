-- Finite maps as lists of entries with ascending keys, and maps to lists in which no entry is empty.
use Rattle.std.specs.Prelude.{ℕ, List, [], ◌∷◌, Bool, true, false, not, ◌&&◌}
use Rattle.std.specs.Option.{unwrap_or}
use Rattle.std.specs.declared.cmp.Ordering.{Ordering}
use Rattle.std.specs.Ordering.{eq_by_cmp, nat_cmp, ordering_then}
use Rattle.std.specs.FinMap.{find, put}
use Rattle.std.specs.FinMap.Entries.{where_key}

-- two numbers: a sender and a receiver, or the ends of a link
abbrev pub Pair : Type 0
Pair = ℕ × ℕ

-- the order of pairs: by the first number, then by the second
abbrev pub pair_cmp : Pair → Pair → Ordering
pair_cmp a b = ordering_then (nat_cmp a.0 b.0) (nat_cmp a.1 b.1)

-- the entries without the one under this key
abbrev pub without : {K X : Type 0} → (K → K → Ordering) → K → List (K × X) → List (K × X)
without R k es = where_key R (λ x. not (eq_by_cmp R k x)) es

-- the list under a key; empty if there is none
abbrev pub list_at : {K X : Type 0} → (K → K → Ordering) → K → List (K × List X) → List X
list_at R k es = unwrap_or (find R k es) []

-- whether a list has an element
abbrev pub has_some : {X : Type 0} → List X → Bool
has_some [] = false
has_some (x ∷ xs) = true

-- whether no entry is empty
abbrev pub no_entry_empty : {K X : Type 0} → List (K × List X) → Bool
no_entry_empty [] = true
no_entry_empty (e ∷ es) = has_some e.1 && no_entry_empty es

-- the map with a list under a key; an empty list has no entry
abbrev pub put_list : {K X : Type 0} → (K → K → Ordering) → K → List X → List (K × List X) → List (K × List X)
put_list R k [] es = without R k es
put_list R k (x ∷ xs) es = put R k (x ∷ xs) es

-- each element of a list has the property
abbrev pub Each : {X : Type 0} → (X → Type 0) → List X → Type 0
Each P [] = Unit {0}
Each P (x ∷ xs) = P x × Each P xs
