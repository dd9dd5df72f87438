-- The packets on the links as the code stores them: the cells of each node, with a queue for each link that leaves it.
use Rattle.std.specs.Prelude.{◌≡◌, ℕ, suc, ◌*◌, ◌<◌, List, [], ◌∷◌, ◌++◌, length, get_or}
use Rattle.cell_pool.specs.Lists.{Pool, pool}
use Rattle.run_types.specs.Tables.{Pair}
use Rattle.mesh_routing.specs.Ways.{ends}
use Rattle.mesh_routing.specs.Links.{LinksOf, links_of}

module _ {X : Type 0} where
  -- the entry of a link before other entries, or no entry if the link is empty
  abbrev pub with_entry : Pair → List X → List (Pair × List X) → List (Pair × List X)
  with_entry k [] es = es
  with_entry k (x ∷ xs) es = (k, x ∷ xs) ∷ es

  -- the entries of the links from the node k to these nodes, with these packets
  abbrev pub entries_at : ℕ → List ℕ → List (List X) → List (Pair × List X)
  entries_at k [] ls = []
  entries_at k (e ∷ es) [] = []
  entries_at k (e ∷ es) (l ∷ ls) = with_entry (k, e) l (entries_at k es ls)

  -- the entries of the links that leave these nodes, the first of which is the node k
  abbrev pub links_from : (ℕ → List ℕ) → ℕ → List (Pool X) → List (Pair × List X)
  links_from ways k [] = []
  links_from ways k (p ∷ ps) = entries_at k (ways k) p.lists ++ links_from ways (suc k) ps

  -- the links as contracts see them
  abbrev pub view_of : ℕ → ℕ → ℕ → List (Pool X) → LinksOf X
  view_of w h c nodes = links_of w h c (links_from (ends w h) 0 nodes)

  abbrev pub node_of : List (Pool X) → ℕ → Pool X
  node_of nodes k = get_or nodes k (pool [] 0)

  -- Each node has c cells, and a queue for each link that leaves it.
  pub record AreNodes (w h c : ℕ) (nodes : List (Pool X)) : Type 0 where
    pub many : length nodes ≡ w * h
    pub ways : (k : ℕ) → k < length nodes → length (node_of nodes k).lists ≡ length (ends w h k)
    pub cells : (k : ℕ) → k < length nodes → (node_of nodes k).cells ≡ c
