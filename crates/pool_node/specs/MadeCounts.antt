-- The counts of the objects that a node has made, one for each class.
use Rattle.std.specs.Prelude.{ℕ, List, [], ◌∷◌, if◌then◌else◌, nat_lt}

-- the largest count; 0 if there is none
abbrev pub most_made : List ℕ → ℕ
most_made [] = 0
most_made (k ∷ ks) = if nat_lt (most_made ks) k then k else most_made ks
