-- The nodes and links of a mesh, the path of a packet through it, and the packets on links. Node k is in column
-- k mod width and row k div width.
use Rattle.std.specs.Prelude.{◌≡◌, ◌⊎◌, ℕ, zero, suc, ◌+◌, ◌-◌, ◌*◌, ◌/◌, ◌%◌, ◌<◌, ◌==◌, List, [], ◌∷◌, ◌++◌, Option, Some, None, Bool, false, ◌&&◌, ◌||◌, if◌then◌else◌, nat_eq, nat_lt, flat_map}
use Rattle.std.specs.List.{list_any}
use Rattle.std.specs.Option.{unwrap_or}
use Rattle.run_types.specs.declared.types.LinkId.{LinkId}
use Rattle.run_types.specs.declared.types.Placement.{Placement}
use Rattle.run_types.specs.declared.types.Route.{Route}
use Rattle.run_types.specs.Tables.{Pair}

-- one of the two numbers follows the other
abbrev pub Adjacent : ℕ → ℕ → Type 0
Adjacent x y = (x + 1 ≡ y) ⊎ (y + 1 ≡ x)

-- the two nodes are neighbours in a mesh of width w: in one row and adjacent columns, or in one column and adjacent
-- rows
abbrev pub AreNeighbours : ℕ → ℕ → ℕ → Type 0
AreNeighbours w a b = ((a / w ≡ b / w) × Adjacent (a % w) (b % w)) ⊎ ((a % w ≡ b % w) × Adjacent (a / w) (b / w))

-- whether one of the two numbers follows the other
abbrev pub are_adjacent : ℕ → ℕ → Bool
are_adjacent m n = nat_eq (m + 1) n || nat_eq (n + 1) m

-- whether the two nodes are neighbours in a mesh of width w
abbrev pub are_neighbours : ℕ → ℕ → ℕ → Bool
are_neighbours w a b = (nat_eq (a / w) (b / w) && are_adjacent (a % w) (b % w)) || (nat_eq (a % w) (b % w) && are_adjacent (a / w) (b / w))

-- whether the link from a to b is cut
abbrev pub is_cut : List LinkId → ℕ → ℕ → Bool
is_cut cuts a b = list_any (λ (k : LinkId). k.from == a && k.to == b) cuts

-- a link of the mesh goes from a node to a neighbour, and is not cut
pub record IsLink (l : Placement) (k : Pair) : Type 0 where
  pub from : k.0 < l.width * l.height
  pub to : k.1 < l.width * l.height
  pub beside : AreNeighbours l.width k.0 k.1
  pub there : is_cut l.cuts k.0 k.1 ≡ false

-- the next node on the way from a to another node b in a mesh of width w: first along the row, then along the column
abbrev pub toward : ℕ → ℕ → ℕ → ℕ
toward w a b = if a % w == b % w then (if nat_lt a b then a + w else a - w) else (if nat_lt (a % w) (b % w) then a + 1 else a - 1)

-- the next node of the first route for b at a, if there is one
abbrev pub route_of : List Route → ℕ → ℕ → Option ℕ
route_of [] a b = None
route_of (r ∷ rs) a b = if r.at == a && r.goal == b then Some r.next else route_of rs a b

-- the next node on the way from a to b: by a route if there is one, otherwise along the row and the column
abbrev pub next : Placement → ℕ → ℕ → ℕ
next l a b = unwrap_or (route_of l.routes a b) (toward l.width a b)

-- the links on the way from a to b by these steps, at most n
abbrev pub walk : (ℕ → ℕ → ℕ) → ℕ → ℕ → ℕ → List Pair
walk step zero a b = []
walk step (suc n) a b = if a == b then [] else (a, step a b) ∷ walk step n (step a b) b

-- the links from a to b
abbrev pub path : Placement → ℕ → ℕ → List Pair
path l a b = walk (next l) (l.width * l.height) a b

-- whether a link goes from a to b
abbrev pub is_link : ℕ → ℕ → Pair → Bool
is_link a b k = k.0 == a && k.1 == b

-- the values under the keys that pass the test, in their order
abbrev pub under : {K X : Type 0} → (K → Bool) → List (K × X) → List X
under t [] = []
under t (e ∷ es) = if t e.0 then e.1 ∷ under t es else under t es

-- the list without its first entry that passes the test
abbrev pub without_first : {E : Type 0} → (E → Bool) → List E → List E
without_first t [] = []
without_first t (e ∷ es) = if t e then es else e ∷ without_first t es

-- the sum over a list
abbrev pub total : {E : Type 0} → (E → ℕ) → List E → ℕ
total f [] = 0
total f (e ∷ es) = f e + total f es

-- the values on the link k, with the head first
abbrev pub on_link : {X : Type 0} → List (Pair × X) → Pair → List X
on_link ls k = under (is_link k.0 k.1) ls

-- the links after x went last onto the link k
abbrev pub put_last : {X : Type 0} → Pair → X → List (Pair × X) → List (Pair × X)
put_last k x ls = ls ++ (k, x) ∷ []

-- the links after the head of the link k left
abbrev pub move_head : {X : Type 0} → Pair → List (Pair × X) → List (Pair × X)
move_head k ls = without_first (λ e. is_link k.0 k.1 e.0) ls

-- the lists that h gives for all values on the links of a path, joined; values nearer to the end of the path come
-- first
abbrev pub along : {X Y : Type 0} → (X → List Y) → List (Pair × X) → List Pair → List Y
along h ls [] = []
along h ls (k ∷ ks) = along h ls ks ++ flat_map h (on_link ls k)

-- the nodes at which the links end, in order
abbrev pub ends_of : List Pair → List ℕ
ends_of [] = []
ends_of (k ∷ ks) = k.1 ∷ ends_of ks
