-- The number of packets on the links that leave a node, which is 0 if each queue is empty.
use Rattle.std.proofs.Common.{◌≡◌, ◌≢◌, refl, ap, subst, ◌∙◌, ℕ, zero, suc, ◌+◌, ◌<◌, ◌==◌, List, [], ◌∷◌, ◌++◌, length, cond, arith}
use Rattle.std.proofs.lemmas.List.Sums.{sum_by-append, sum_by-cons}
use Rattle.cell_pool.specs.Lists.{Pool, lengths}
use Rattle.run_types.specs.Tables.{Pair}
use Rattle.run_types.specs.LinkTables.{leaving}
use Rattle.run_types.proofs.Laws.{equals, differ}
use Rattle.mesh_routing.specs.Nodes.{entries_at, links_from, node_of}

module _ {X : Type 0} where
  -- the packets of an entry, if its link leaves the node
  abbrev of_node : ℕ → Pair × List X → ℕ
  of_node n e = cond (e.0.0 == n) (length e.1) 0

  added : (xs ys : List (Pair × List X)) (n : ℕ) → leaving (xs ++ ys) n ≡ leaving xs n + leaving ys n
  added xs ys n = sum_by-append (of_node n) xs ys

  from_here : (k : ℕ) (es : List ℕ) (ls : List (List X)) → length ls ≡ length es → leaving (entries_at k es ls) k ≡ lengths ls
  from_here k [] [] h = refl
  from_here k [] (l ∷ ls) h = absurd (omega (arith, h))
  from_here k (e ∷ es) [] h = absurd (omega (arith, h))
  from_here k (e ∷ es) ([] ∷ ls) h = let r = from_here k es ls (omega (arith, h)) in omega (arith, r)
  from_here k (e ∷ es) ((y ∷ ys) ∷ ls) h =
      let r = from_here k es ls (omega (arith, h)) in
      let t : of_node k ((k, e), y ∷ ys) ≡ length (y ∷ ys) = ap (λ z. cond z (length (y ∷ ys)) 0) (equals k) in
      sum_by-cons (of_node k) ((k, e), y ∷ ys) (entries_at k es ls) ∙ ap (λ n. n + leaving (entries_at k es ls) k) t ∙ ap (λ n. length (y ∷ ys) + n) r

  from_other : (k n : ℕ) (es : List ℕ) (ls : List (List X)) → k ≢ n → leaving (entries_at k es ls) n ≡ 0
  from_other k n [] ls h = refl
  from_other k n (e ∷ es) [] h = refl
  from_other k n (e ∷ es) ([] ∷ ls) h = from_other k n es ls h
  from_other k n (e ∷ es) ((y ∷ ys) ∷ ls) h =
      let t : of_node n ((k, e), y ∷ ys) ≡ 0 = ap (λ z. cond z (length (y ∷ ys)) 0) (differ k n h) in
      sum_by-cons (of_node n) ((k, e), y ∷ ys) (entries_at k es ls) ∙ ap (λ m. m + leaving (entries_at k es ls) n) t ∙ ap (λ m. 0 + m) (from_other k n es ls h) ∙ omega arith

  no_entries : (k : ℕ) (es : List ℕ) (ls : List (List X)) → lengths ls ≡ 0 → entries_at k es ls ≡ []
  no_entries k [] ls h = refl
  no_entries k (e ∷ es) [] h = refl
  no_entries k (e ∷ es) ([] ∷ ls) h = no_entries k es ls (omega (arith, h))
  no_entries k (e ∷ es) ((y ∷ ys) ∷ ls) h = absurd (omega (arith, h))

  module _ (ways : ℕ → List ℕ) where
    none_before : (k n : ℕ) (ps : List (Pool X)) → n < k → leaving (links_from ways k ps) n ≡ 0
    none_before k n [] h = refl
    none_before k n (p ∷ ps) h =
        let a = added (entries_at k (ways k) p.lists) (links_from ways (suc k) ps) n in
        let b = from_other k n (ways k) p.lists (λ e. absurd (omega (arith, e, h))) in
        let c = none_before (suc k) n ps (omega (arith, h)) in
        omega (arith, a, b, c)

    counted_from : (k i : ℕ) (ps : List (Pool X)) → ((j : ℕ) → j < length ps → length (node_of ps j).lists ≡ length (ways (k + j)))
        → i < length ps → leaving (links_from ways k ps) (k + i) ≡ lengths (node_of ps i).lists
    counted_from k i [] h l = absurd (omega (arith, l))
    counted_from k zero (p ∷ ps) h l =
        let z : k + zero ≡ k = omega arith in
        let w : length p.lists ≡ length (ways k) = subst (λ m. length p.lists ≡ length (ways m)) z (h zero (omega arith)) in
        let a = added (entries_at k (ways k) p.lists) (links_from ways (suc k) ps) k in
        let b = from_here k (ways k) p.lists w in
        let c = none_before (suc k) k ps (omega arith) in
        rw z (omega (arith, a, b, c))
    counted_from k (suc i) (p ∷ ps) h l =
        let z : k + suc i ≡ suc k + i = omega arith in
        let a = added (entries_at k (ways k) p.lists) (links_from ways (suc k) ps) (suc k + i) in
        let b = from_other k (suc k + i) (ways k) p.lists (λ e. absurd (omega (arith, e))) in
        let c = counted_from (suc k) i ps (λ j s. subst (λ m. length (node_of ps j).lists ≡ length (ways m)) (on j) (h (suc j) (omega (arith, s)))) (omega (arith, l)) in
        rw z (omega (arith, a, b, c))
      where
        on : (j : ℕ) → k + suc j ≡ suc k + j
        on j = omega arith

    -- the packets that leave a node are those of its ways
    pub counted_at : (a : ℕ) (ps : List (Pool X)) → ((j : ℕ) → j < length ps → length (node_of ps j).lists ≡ length (ways j))
        → a < length ps → leaving (links_from ways 0 ps) a ≡ lengths (node_of ps a).lists
    counted_at a ps h l =
        let z : 0 + a ≡ a = omega arith in
        let c = counted_from 0 a ps (λ j s. subst (λ m. length (node_of ps j).lists ≡ length (ways m)) (on j) (h j s)) l in
        subst (λ m. leaving (links_from ways 0 ps) m ≡ lengths (node_of ps a).lists) z c
      where
        on : (j : ℕ) → j ≡ 0 + j
        on j = omega arith

    pub all_empty : (k : ℕ) (ps : List (Pool X)) → ((j : ℕ) → j < length ps → lengths (node_of ps j).lists ≡ 0) → links_from ways k ps ≡ []
    all_empty k [] h = refl
    all_empty k (p ∷ ps) h =
        rw (no_entries k (ways k) p.lists (h zero (omega arith))) (all_empty (suc k) ps (λ j s. h (suc j) (omega (arith, s))))
