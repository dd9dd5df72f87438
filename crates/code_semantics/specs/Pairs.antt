-- The pairs of the items that have the same place in two lists.
use Rattle.std.specs.Prelude.{List, [], ◌∷◌}

-- the pairs of items at the same place; surplus items are dropped
abbrev pub pairs : {A B : Type 0} → List A → List B → List (A × B)
pairs (x ∷ xs) (y ∷ ys) = (x, y) ∷ pairs xs ys
pairs _ _ = []
