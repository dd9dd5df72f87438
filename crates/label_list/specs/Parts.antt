-- The labels of the parts of a list.
use Rattle.std.specs.Prelude.{ℕ, List, [], ◌∷◌, ◌++◌, replicate}
use Rattle.run_types.specs.declared.types.Label.{Label}
use Rattle.run_types.specs.declared.types.Label.TheVariants as L
use Rattle.label_list.specs.declared.part.Part.{Part}
use Rattle.label_list.specs.declared.part.Part.TheVariants as P

abbrev pub label_of : Part → Label
label_of (P.Local o n) = L.Local o
label_of (P.Other l) = l

-- the number of labels of the part, which are all the same
abbrev pub times_of : Part → ℕ
times_of (P.Local o n) = n
times_of (P.Other l) = 1

abbrev pub labels_of : Part → List Label
labels_of p = replicate (times_of p) (label_of p)

-- the labels of these parts, in order
abbrev pub labels_in : List Part → List Label
labels_in [] = []
labels_in (p ∷ ps) = labels_of p ++ labels_in ps
