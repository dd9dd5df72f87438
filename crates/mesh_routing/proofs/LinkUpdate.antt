-- The links after the packets of one link were changed.
use Rattle.std.proofs.Common.{◌≡◌, ◌≢◌, ◌⊎◌, inl, inr, refl, sym, ap, subst, ◌∙◌, ℕ, ◌<◌, List, [], ◌∷◌, ◌++◌, length, set, Some, None, not, cond, slice_get}
use Rattle.std.specs.Ordering.{eq_by_cmp, is_eq}
use Rattle.std.specs.Cmp.{alike_right}
use Rattle.std.specs.FinMap.Entries.{find, put, find-put, find-where_key, same_entries}
use Rattle.std.proofs.lemmas.List.{get_or-set_same, get_or-set_other}
use Rattle.cell_pool.specs.Lists.{Pool, pool, with_list}
use Rattle.run_types.specs.Tables.{Pair, pair_cmp, list_at, put_list}
use Rattle.run_types.specs.LinkTables.{push_list}
use Rattle.run_types.proofs.Laws.{decide, T_true, true_T, pair_total, tied_pair, untied_pair, listed_sorted, one_pair}
use Rattle.mesh_routing.specs.Nodes.{links_from, node_of}
use Rattle.mesh_routing.proofs.AscendingNodes.{Rises}
use Rattle.mesh_routing.proofs.LinkLookup.{some_list, at_end, at_end_is, at_end_other, found_at}
use Rattle.mesh_routing.proofs.SortedLinks.{sorted_links}

module _ {X : Type 0} where
  -- the nodes with these packets on one way out of one
  abbrev pub put_at : List (Pool X) → ℕ → ℕ → List X → List (Pool X)
  put_at ps a i ys = set ps a (with_list (node_of ps a) i ys)

  -- what is found after a list was put
  put_same : (k : Pair) (ys : List X) (es : List (Pair × List X)) → find pair_cmp k (put_list pair_cmp k ys es) ≡ some_list ys
  put_same k [] es =
      find-where_key pair_cmp (λ x. not (eq_by_cmp pair_cmp k x)) k (λ x e. ap (λ o. not (is_eq o)) (sym (alike_right pair_total k x k e))) es
      ∙ ap (λ b. cond (not b) (find pair_cmp k es) None) (tied_pair k)
  put_same k (y ∷ ys) es = find-put pair_cmp pair_total k k (y ∷ ys) es ∙ ap (λ b. cond b (Some (y ∷ ys)) (find pair_cmp k es)) (tied_pair k)

  put_other : (q k : Pair) (ys : List X) (es : List (Pair × List X)) → q ≢ k → find pair_cmp q (put_list pair_cmp k ys es) ≡ find pair_cmp q es
  put_other q k [] es n =
      find-where_key pair_cmp (λ x. not (eq_by_cmp pair_cmp k x)) q (λ x e. ap (λ o. not (is_eq o)) (sym (alike_right pair_total q x k e))) es
      ∙ ap (λ b. cond (not b) (find pair_cmp q es) None) (untied_pair k q (λ e. n (sym e)))
  put_other q k (y ∷ ys) es n = find-put pair_cmp pair_total q k (y ∷ ys) es ∙ ap (λ b. cond b (Some (y ∷ ys)) (find pair_cmp q es)) (untied_pair q k n)

  pub pushed : (k : Pair) (x : X) (es : List (Pair × List X)) → put_list pair_cmp k (list_at pair_cmp k es ++ x ∷ []) es ≡ push_list pair_cmp k x es
  pushed k x es = by (list_at pair_cmp k es)
    where
      by : (l : List X) → put_list pair_cmp k (l ++ x ∷ []) es ≡ put pair_cmp k (l ++ x ∷ []) es
      by [] = refl
      by (y ∷ l) = refl

  module _ (ways : ℕ → List ℕ) (rises : (k : ℕ) → Rises (ways k)) where
    pub changed : (a b i : ℕ) (ps : List (Pool X)) (ys : List X) → slice_get (ways a) i ≡ Some b → a < length ps → i < length (node_of ps a).lists
        → links_from ways 0 (put_at ps a i ys) ≡ put_list pair_cmp (a, b) ys (links_from ways 0 ps)
    changed a b i ps ys h l m =
        same_entries pair_cmp pair_total one_pair (links_from ways 0 (put_at ps a i ys)) (put_list pair_cmp (a, b) ys (links_from ways 0 ps))
        (sorted_links ways rises 0 (put_at ps a i ys))
        (true_T _ (listed_sorted (links_from ways 0 ps) (a, b) ys (T_true _ (sorted_links ways rises 0 ps))))
        (λ q. by q (decide q.0 a) (decide q.1 b))
      where
        is_new : node_of (put_at ps a i ys) a ≡ with_list (node_of ps a) i ys
        is_new = get_or-set_same ps a (with_list (node_of ps a) i ys) (pool [] 0) l

        by : (q : Pair) → (q.0 ≡ a) ⊎ (q.0 ≢ a) → (q.1 ≡ b) ⊎ (q.1 ≢ b) → find pair_cmp q (links_from ways 0 (put_at ps a i ys)) ≡ find pair_cmp q (put_list pair_cmp (a, b) ys (links_from ways 0 ps))
        by q (inl s) (inl t) =
            let e : q ≡ (a, b) = λ j. (s j, t j) in
            let lists : (node_of (put_at ps a i ys) a).lists ≡ set (node_of ps a).lists i ys = ap (λ (p : Pool X). p.lists) is_new in
            let new : find pair_cmp (a, b) (links_from ways 0 (put_at ps a i ys)) ≡ some_list ys =
            found_at ways rises a b (put_at ps a i ys)
            ∙ ap some_list (ap (λ z. at_end b (ways a) z) lists
            ∙ at_end_is b i (ways a) (set (node_of ps a).lists i ys) (rises a) h
            ∙ get_or-set_same (node_of ps a).lists i ys [] m) in
            subst (λ z. find pair_cmp z (links_from ways 0 (put_at ps a i ys)) ≡ find pair_cmp z (put_list pair_cmp (a, b) ys (links_from ways 0 ps))) (sym e)
            (new ∙ sym (put_same (a, b) ys (links_from ways 0 ps)))
        by q (inl s) (inr n) =
            let lists : (node_of (put_at ps a i ys) a).lists ≡ set (node_of ps a).lists i ys = ap (λ (p : Pool X). p.lists) is_new in
            let kept : at_end q.1 (ways a) (node_of (put_at ps a i ys) a).lists ≡ at_end q.1 (ways a) (node_of ps a).lists =
            ap (λ z. at_end q.1 (ways a) z) lists ∙ at_end_other b q.1 i (ways a) (node_of ps a).lists ys h n in
            found_at ways rises q.0 q.1 (put_at ps a i ys)
            ∙ ap some_list (subst (λ z. at_end q.1 (ways z) (node_of (put_at ps a i ys) z).lists ≡ at_end q.1 (ways z) (node_of ps z).lists) (sym s) kept)
            ∙ sym (found_at ways rises q.0 q.1 ps)
            ∙ sym (put_other q (a, b) ys (links_from ways 0 ps) (λ e. n (ap (λ (p : Pair). p.1) e)))
        by q (inr n) t =
            let node : node_of (put_at ps a i ys) q.0 ≡ node_of ps q.0 = get_or-set_other ps a q.0 (with_list (node_of ps a) i ys) (pool [] 0) n in
            found_at ways rises q.0 q.1 (put_at ps a i ys)
            ∙ ap (λ (p : Pool X). some_list (at_end q.1 (ways q.0) p.lists)) node
            ∙ sym (found_at ways rises q.0 q.1 ps)
            ∙ sym (put_other q (a, b) ys (links_from ways 0 ps) (λ e. n (ap (λ (p : Pair). p.0) e)))
