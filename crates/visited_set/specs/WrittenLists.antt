-- The lists of items that a tree of items stands for.
use Rattle.std.specs.Prelude.{◌≡◌, ℕ, List, [], ◌∷◌, ◌++◌, get_or, nat_lt, if◌then◌else◌, Option, None, Some}
use Rattle.run_types.specs.declared.types.Item.{Item}
use Rattle.visited_set.specs.declared.writings.Node.{Node}

-- the lists, and after them that of each node: one of those before, with one item more
abbrev pub with_nodes : List (List Item) → List Node → List (List Item)
with_nodes ls [] = ls
with_nodes ls (n ∷ ns) = with_nodes (ls ++ (get_or ls n.before [] ++ n.item ∷ []) ∷ []) ns

-- the number before that of a list, if it is smaller; else that of the empty list
abbrev pub parent : ℕ → ℕ → ℕ
parent before at = if nat_lt before at then before else 0

-- an item as a list; none if there is none
abbrev pub option_items : Option Item → List Item
option_items None = []
option_items (Some i) = i ∷ []

-- lists were added at the end
abbrev pub IsGrown : List (List Item) → List (List Item) → Type 0
IsGrown old new = (added : List (List Item)) × (new ≡ old ++ added)
