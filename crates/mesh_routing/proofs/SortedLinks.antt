-- The entries of the links are sorted.
use Rattle.std.proofs.Common.{◌≡◌, ℕ, suc, ◌<◌, List, [], ◌∷◌, ◌++◌, Bool, true, false, ◌&&◌, nat_lt, arith}
use Rattle.std.specs.Prelude.{T}
use Rattle.std.specs.Ordering.{is_lt}
use Rattle.std.specs.FinMap.Entries.{below_all, is_sorted}
use Rattle.cell_pool.specs.Lists.{Pool}
use Rattle.run_types.specs.Tables.{Pair, pair_cmp}
use Rattle.run_types.proofs.Laws.{equals}
use Rattle.mesh_routing.specs.Nodes.{entries_at, links_from}
use Rattle.mesh_routing.proofs.AscendingNodes.{Above, Rises}

both : (a b : Bool) → T a → T b → T (a && b)
both true b p q = q
both false b p q = absurd p

in_one : (k e x : ℕ) → e < x → T (is_lt (pair_cmp (k, e) (k, x)))
in_one k e x h =
    let i : nat_lt k k ≡ false = grind arith in
    let j : nat_lt e x ≡ true = grind (arith, h) in
    rw (i, equals k, j) tt

in_later : (k j e x : ℕ) → k < j → T (is_lt (pair_cmp (k, e) (j, x)))
in_later k j e x h = let i : nat_lt k j ≡ true = grind (arith, h) in rw i tt

module _ {X : Type 0} where
  -- entries of links from nodes after k
  abbrev Later : ℕ → List (Pair × List X) → Type 0
  Later k [] = Unit {0}
  Later k (e ∷ es) = (k < e.0.0) × Later k es

  later_all : (k e : ℕ) (rest : List (Pair × List X)) → Later k rest → T (below_all pair_cmp (k, e) rest)
  later_all k e [] h = tt
  later_all k e (r ∷ rest) h = both _ _ (in_later k r.0.0 e r.0.1 h.0) (later_all k e rest h.1)

  below_here : (k e : ℕ) (es : List ℕ) (ls : List (List X)) (rest : List (Pair × List X)) → Above e es → Later k rest → T (below_all pair_cmp (k, e) (entries_at k es ls ++ rest))
  below_here k e [] ls rest a h = later_all k e rest h
  below_here k e (x ∷ es) [] rest a h = later_all k e rest h
  below_here k e (x ∷ es) ([] ∷ ls) rest a h = below_here k e es ls rest a.1 h
  below_here k e (x ∷ es) ((y ∷ ys) ∷ ls) rest a h = both _ _ (in_one k e x a.0) (below_here k e es ls rest a.1 h)

  sorted_here : (k : ℕ) (es : List ℕ) (ls : List (List X)) (rest : List (Pair × List X)) → Rises es → Later k rest → T (is_sorted pair_cmp rest) → T (is_sorted pair_cmp (entries_at k es ls ++ rest))
  sorted_here k [] ls rest r h s = s
  sorted_here k (e ∷ es) [] rest r h s = s
  sorted_here k (e ∷ es) ([] ∷ ls) rest r h s = sorted_here k es ls rest r.1 h s
  sorted_here k (e ∷ es) ((y ∷ ys) ∷ ls) rest r h s = both _ _ (below_here k e es ls rest r.0 h) (sorted_here k es ls rest r.1 h s)

  later_entries : (j k : ℕ) (es : List ℕ) (ls : List (List X)) (rest : List (Pair × List X)) → j < k → Later j rest → Later j (entries_at k es ls ++ rest)
  later_entries j k [] ls rest h r = r
  later_entries j k (e ∷ es) [] rest h r = r
  later_entries j k (e ∷ es) ([] ∷ ls) rest h r = later_entries j k es ls rest h r
  later_entries j k (e ∷ es) ((y ∷ ys) ∷ ls) rest h r = (h, later_entries j k es ls rest h r)

  module _ (ways : ℕ → List ℕ) (rises : (k : ℕ) → Rises (ways k)) where
    later_links : (j k : ℕ) (ps : List (Pool X)) → j < k → Later j (links_from ways k ps)
    later_links j k [] h = tt
    later_links j k (p ∷ ps) h = later_entries j k (ways k) p.lists (links_from ways (suc k) ps) h (later_links j (suc k) ps (omega (arith, h)))

    pub sorted_links : (k : ℕ) (ps : List (Pool X)) → T (is_sorted pair_cmp (links_from ways k ps))
    sorted_links k [] = tt
    sorted_links k (p ∷ ps) =
        sorted_here k (ways k) p.lists (links_from ways (suc k) ps) (rises k) (later_links k (suc k) ps (omega arith)) (sorted_links (suc k) ps)
