-- The packets found by the ends of a link.
use Rattle.std.proofs.Common.{◌≡◌, ◌≢◌, refl, sym, ap, subst, ◌∙◌, ℕ, zero, suc, ◌+◌, ◌<◌, ◌==◌, List, [], ◌∷◌, ◌++◌, set, get_or, Option, Some, None, Bool, true, false, cond, slice_get, arith}
use Rattle.std.specs.Option.{unwrap_or}
use Rattle.std.specs.Ordering.{eq_by_cmp}
use Rattle.std.specs.FinMap.Entries.{find}
use Rattle.cell_pool.specs.Lists.{Pool, list_of}
use Rattle.run_types.specs.Tables.{Pair, pair_cmp, list_at}
use Rattle.run_types.proofs.Laws.{equal, equals, differ, tied_pair, untied_pair}
use Rattle.mesh_routing.specs.Nodes.{with_entry, entries_at, links_from, node_of}
use Rattle.mesh_routing.proofs.AscendingNodes.{Above, Rises}

module _ {X : Type 0} where
  -- a list, if it is not empty
  abbrev pub some_list : List X → Option (List X)
  some_list [] = None
  some_list (x ∷ xs) = Some (x ∷ xs)

  -- the list of the way to the node b
  abbrev pub at_end : ℕ → List ℕ → List (List X) → List X
  at_end b [] ls = []
  at_end b (e ∷ es) [] = []
  at_end b (e ∷ es) (l ∷ ls) = cond (b == e) l (at_end b es ls)

  listed : (xs : List X) → unwrap_or (some_list xs) [] ≡ xs
  listed [] = refl
  listed (x ∷ xs) = refl

  no_lists : (b : ℕ) (es : List ℕ) → at_end b es [] ≡ []
  no_lists b [] = refl
  no_lists b (e ∷ es) = refl

  -- no way leads to a node before all ends
  no_way : (b : ℕ) (es : List ℕ) (ls : List (List X)) → Above b es → at_end b es ls ≡ []
  no_way b [] ls h = refl
  no_way b (e ∷ es) [] h = refl
  no_way b (e ∷ es) (l ∷ ls) h = rw (differ b e (λ q. absurd (let s = h.0 in omega (arith, q, s)))) (no_way b es ls h.1)

  pub at_end_is : (b i : ℕ) (es : List ℕ) (ls : List (List X)) → Rises es → slice_get es i ≡ Some b → at_end b es ls ≡ get_or ls i []
  at_end_is b i [] ls r h = absurd (cc)
  at_end_is b zero (e ∷ es) [] r h = refl
  at_end_is b (suc i) (e ∷ es) [] r h = refl
  at_end_is b zero (e ∷ es) (l ∷ ls) r h = let s : e ≡ b = ap (λ o. unwrap_or o b) h in rw (s, equals b) refl
  at_end_is b (suc i) (e ∷ es) (l ∷ ls) r h =
      rw (differ b e (λ q. absurd (let s = within e b i es r.0 h in omega (arith, q, s)))) (at_end_is b i es ls r.1 h)
    where
      within : (e b i : ℕ) (es : List ℕ) → Above e es → slice_get es i ≡ Some b → e < b
      within e b i [] a h = absurd (cc)
      within e b zero (x ∷ es) a h = subst (λ z. e < z) (ap (λ o. unwrap_or o b) h) a.0
      within e b (suc i) (x ∷ es) a h = within e b i es a.1 h

  pub at_end_other : (b d i : ℕ) (es : List ℕ) (ls : List (List X)) (ys : List X) → slice_get es i ≡ Some b → d ≢ b → at_end d es (set ls i ys) ≡ at_end d es ls
  at_end_other b d i [] ls ys h n = refl
  at_end_other b d i (e ∷ es) [] ys h n = refl
  at_end_other b d zero (e ∷ es) (l ∷ ls) ys h n = let s : e ≡ b = ap (λ o. unwrap_or o b) h in rw (s, differ d b n) refl
  at_end_other b d (suc i) (e ∷ es) (l ∷ ls) ys h n = ap (λ z. cond (d == e) l z) (at_end_other b d i es ls ys h n)

  -- what is found in lists of entries one after the other
  past : (q : Pair) (xs ys : List (Pair × List X)) → find pair_cmp q xs ≡ None → find pair_cmp q (xs ++ ys) ≡ find pair_cmp q ys
  past q [] ys h = refl
  past q (e ∷ xs) ys h = by (eq_by_cmp pair_cmp q e.0) refl h (past q xs ys)
    where
      by : (t : Bool) → eq_by_cmp pair_cmp q e.0 ≡ t → cond (eq_by_cmp pair_cmp q e.0) (Some e.1) (find pair_cmp q xs) ≡ None
          → (find pair_cmp q xs ≡ None → find pair_cmp q (xs ++ ys) ≡ find pair_cmp q ys) → cond (eq_by_cmp pair_cmp q e.0) (Some e.1) (find pair_cmp q (xs ++ ys)) ≡ find pair_cmp q ys
      by true i h k = absurd (let z : Some e.1 ≡ None = rw i at h in cc)
      by false i h k = rw i (k (rw i at h))

  before : (q : Pair) (xs ys : List (Pair × List X)) → find pair_cmp q ys ≡ None → find pair_cmp q (xs ++ ys) ≡ find pair_cmp q xs
  before q [] ys h = h
  before q (e ∷ xs) ys h = ap (λ z. cond (eq_by_cmp pair_cmp q e.0) (Some e.1) z) (before q xs ys h)

  here : (a b : ℕ) (es : List ℕ) (ls : List (List X)) → Rises es → find pair_cmp (a, b) (entries_at a es ls) ≡ some_list (at_end b es ls)
  here a b [] ls r = refl
  here a b (e ∷ es) [] r = refl
  here a b (e ∷ es) (l ∷ ls) r = by l (b == e) refl (here a b es ls r.1)
    where
      by : (l : List X) (t : Bool) → (b == e) ≡ t → find pair_cmp (a, b) (entries_at a es ls) ≡ some_list (at_end b es ls)
          → find pair_cmp (a, b) (with_entry (a, e) l (entries_at a es ls)) ≡ some_list (cond (b == e) l (at_end b es ls))
      by [] true i k =
          let s : b ≡ e = equal b e i in
          rw i (k ∙ ap some_list (no_way b es ls (subst (λ z. Above z es) (sym s) r.0)))
      by (x ∷ xs) true i k =
          let s : b ≡ e = equal b e i in
          let t : eq_by_cmp pair_cmp (a, b) (a, e) ≡ true = subst (λ z. eq_by_cmp pair_cmp (a, b) (a, z) ≡ true) s (tied_pair (a, b)) in
          ap (λ z. cond z (Some (x ∷ xs)) (find pair_cmp (a, b) (entries_at a es ls))) t ∙ sym (ap (λ z. some_list (cond z (x ∷ xs) (at_end b es ls))) i)
      by [] false i k = rw i k
      by (x ∷ xs) false i k =
          let n : b ≢ e = λ s. absurd (let q : (b == e) ≡ true = rw s (equals e) in let z = sym q ∙ i in cc) in
          let t = untied_pair (a, b) (a, e) (λ s. n (ap (λ (p : Pair). p.1) s)) in
          ap (λ z. cond z (Some (x ∷ xs)) (find pair_cmp (a, b) (entries_at a es ls))) t ∙ k ∙ sym (ap (λ z. some_list (cond z (x ∷ xs) (at_end b es ls))) i)

  away : (k a b : ℕ) (es : List ℕ) (ls : List (List X)) → a ≢ k → find pair_cmp (a, b) (entries_at k es ls) ≡ None
  away k a b [] ls n = refl
  away k a b (e ∷ es) [] n = refl
  away k a b (e ∷ es) ([] ∷ ls) n = away k a b es ls n
  away k a b (e ∷ es) ((x ∷ xs) ∷ ls) n =
      ap (λ z. cond z (Some (x ∷ xs)) (find pair_cmp (a, b) (entries_at k es ls))) (untied_pair (a, b) (k, e) (λ s. n (ap (λ (p : Pair). p.0) s)))
      ∙ away k a b es ls n

  module _ (ways : ℕ → List ℕ) (rises : (k : ℕ) → Rises (ways k)) where
    earlier : (k a b : ℕ) (ps : List (Pool X)) → a < k → find pair_cmp (a, b) (links_from ways k ps) ≡ None
    earlier k a b [] h = refl
    earlier k a b (p ∷ ps) h =
        past (a, b) (entries_at k (ways k) p.lists) (links_from ways (suc k) ps) (away k a b (ways k) p.lists (λ e. absurd (omega (arith, e, h))))
        ∙ earlier (suc k) a b ps (omega (arith, h))

    found_from : (k i b : ℕ) (ps : List (Pool X)) → find pair_cmp (k + i, b) (links_from ways k ps) ≡ some_list (at_end b (ways (k + i)) (node_of ps i).lists)
    found_from k i b [] = ap some_list (sym (no_lists b (ways (k + i))))
    found_from k zero b (p ∷ ps) =
        let z : k + zero ≡ k = omega arith in
        rw z (before (k, b) (entries_at k (ways k) p.lists) (links_from ways (suc k) ps) (earlier (suc k) k b ps (omega arith)) ∙ here k b (ways k) p.lists (rises k))
    found_from k (suc i) b (p ∷ ps) =
        let z : k + suc i ≡ suc k + i = omega arith in
        past (k + suc i, b) (entries_at k (ways k) p.lists) (links_from ways (suc k) ps) (away k (k + suc i) b (ways k) p.lists (λ e. absurd (omega (arith, e))))
        ∙ subst (λ m. find pair_cmp (m, b) (links_from ways (suc k) ps) ≡ some_list (at_end b (ways m) (node_of ps i).lists)) (sym z) (found_from (suc k) i b ps)

    pub found_at : (a b : ℕ) (ps : List (Pool X)) → find pair_cmp (a, b) (links_from ways 0 ps) ≡ some_list (at_end b (ways a) (node_of ps a).lists)
    found_at a b ps =
        let z : 0 + a ≡ a = omega arith in
        subst (λ m. find pair_cmp (m, b) (links_from ways 0 ps) ≡ some_list (at_end b (ways m) (node_of ps a).lists)) z (found_from 0 a b ps)

    -- the packets of a link are those of its way
    pub list_there : (a b i : ℕ) (ps : List (Pool X)) → slice_get (ways a) i ≡ Some b → list_at pair_cmp (a, b) (links_from ways 0 ps) ≡ list_of (node_of ps a) i
    list_there a b i ps h =
        ap (λ z. unwrap_or z []) (found_at a b ps) ∙ listed (at_end b (ways a) (node_of ps a).lists) ∙ at_end_is b i (ways a) (node_of ps a).lists (rises a) h
