-- Traffic over the links of a mesh, for values of any type: a value enters at the first link of its path and moves
-- along the path, and each link is a queue.
use Rattle.std.specs.Prelude.{ℕ, ◌*◌, ◌<◌, ◌==◌, List, [], ◌∷◌, ◌++◌, ◌&&◌, if◌then◌else◌, flat_map}
use Rattle.run_types.specs.declared.types.Placement.{Placement}
use Rattle.run_types.specs.Tables.{Pair, pair_cmp, list_at, put_list}
use Rattle.run_types.specs.LinkTables.{push_list}
use Rattle.run_types.specs.Paths.{next}

-- a value on its way between two nodes
pub record Load (X : Type 0) : Type 0 where
  pub from : ℕ
  pub to : ℕ
  pub value : X

-- the values on each link, the head first, where a link without values has no entry; and the values that entered, and
-- those that left at their goals
pub record Traffic (X : Type 0) : Type 0 where
  pub links : List (Pair × List (Load X))
  pub entered : List (Load X)
  pub left : List (Load X)

-- a value enters at its first node, or a link hands out its head
pub data Change (X : Type 0) : Type 0 where
  Enter : (from to : ℕ) (value : X) → Change X
  Move : (link : Pair) → Change X

-- the head of a link leaves at its goal, and otherwise goes last on its next link
abbrev pub moved_on : {X : Type 0} → Placement → Traffic X → Pair → List (Load X) → Traffic X
moved_on l t k [] = t
moved_on l t k (x ∷ rest) =
    if x.to == k.1 then record t { links = put_list pair_cmp k rest t.links; left = t.left ++ x ∷ [] }
    else record t { links = push_list pair_cmp (k.1, next l k.1 x.to) x (put_list pair_cmp k rest t.links) }

-- the traffic after the change; a value whose goal is the node where it enters is on no link
abbrev pub happens : {X : Type 0} → Placement → Traffic X → Change X → Traffic X
happens l t (Enter a b v) =
    if a == b then t
    else record t { links = push_list pair_cmp (a, next l a b) (record { from = a; to = b; value = v }) t.links; entered = t.entered ++ record { from = a; to = b; value = v } ∷ [] }
happens l t (Move k) = moved_on l t k (list_at pair_cmp k t.links)

abbrev pub traffic : {X : Type 0} → Placement → Traffic X → List (Change X) → Traffic X
traffic l t [] = t
traffic l t (e ∷ es) = traffic l (happens l t e) es

abbrev pub no_traffic : {X : Type 0} → Traffic X
no_traffic = record { links = []; entered = []; left = [] }

-- the load, if it goes from a to b
abbrev pub of_pair : {X : Type 0} → ℕ → ℕ → Load X → List (Load X)
of_pair a b x = if x.from == a && x.to == b then x ∷ [] else []

-- the loads from a to b
abbrev pub between : {X : Type 0} → ℕ → ℕ → List (Load X) → List (Load X)
between a b xs = flat_map (of_pair a b) xs

-- the values that enter go between nodes of the mesh
abbrev pub Inside : {X : Type 0} → Placement → List (Change X) → Type 0
Inside l [] = Unit {0}
Inside l (Enter a b v ∷ es) = (a < l.width * l.height) × (b < l.width * l.height) × Inside l es
Inside l (Move k ∷ es) = Inside l es
