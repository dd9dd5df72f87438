-- The first pair of nodes without a path: the way from the one to the other takes a cut link or visits a node twice.
use Rattle.std.specs.Prelude.{ℕ, ◌*◌, List, [], ◌∷◌, Option, Some, None, Bool, false, ◌||◌, if◌then◌else◌, nat_eq}
use Rattle.std.specs.List.{list_any, range_with_len}
use Rattle.std.specs.Option.{option_or}
use Rattle.run_types.specs.declared.types.Placement.{Placement}
use Rattle.run_types.specs.Tables.{Pair}
use Rattle.run_types.specs.Paths.{is_cut, path, ends_of}

-- whether a number is twice in the list
abbrev pub has_twice : List ℕ → Bool
has_twice [] = false
has_twice (n ∷ ns) = list_any (nat_eq n) ns || has_twice ns

-- whether the path from a to b takes a cut link or visits a node twice
abbrev pub is_broken : Placement → ℕ → ℕ → Bool
is_broken l a b = list_any (λ (k : Pair). is_cut l.cuts k.0 k.1) (path l a b) || has_twice (a ∷ ends_of (path l a b))

-- the first of the goals to which the path from a is broken, with a
abbrev pub broken_to : Placement → ℕ → List ℕ → Option Pair
broken_to l a [] = None
broken_to l a (b ∷ bs) = if is_broken l a b then Some (a, b) else broken_to l a bs

-- the first broken path from one of these nodes to one of the goals bs
abbrev pub broken_from : Placement → List ℕ → List ℕ → Option Pair
broken_from l [] bs = None
broken_from l (a ∷ rest) bs = option_or (broken_to l a bs) (broken_from l rest bs)

-- the least pair of nodes without a path, by its first node and then its second
abbrev pub without_route : Placement → Option Pair
without_route l = broken_from l (range_with_len 0 (l.width * l.height)) (range_with_len 0 (l.width * l.height))
