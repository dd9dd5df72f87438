-- Maps after one entry was put or removed.
use Rattle.std.proofs.Common.{◌≡◌, ◌≢◌, refl, sym, ap, subst, ◌∙◌, IsTrue, ℕ, ◌+◌, List, [], ◌∷◌, ◌++◌, Some, None, Bool, true, false, not, ◌&&◌, cond, arith, ◌<◌, ◌==◌, nat_lt, ltb-true}
use Rattle.run_types.specs.Paths.{total}
use Rattle.std.specs.List.{list_all}
use Rattle.std.specs.Option.{unwrap_or}
use Rattle.std.specs.Ordering.{nat_cmp, eq_by_cmp, is_lt, is_eq, ordering_then}
use Rattle.std.specs.declared.cmp.Ordering.{Ordering}
use Rattle.std.specs.declared.cmp.Ordering.TheVariants.{Less, Equal, Greater}
use Rattle.std.specs.Cmp.{IsTotalOrder, nat_cmp_total, on_total, then_total, tied_itself, alike_right}
use Rattle.std.specs.FinMap.Entries.{find, put, is_sorted, below_all, find-put, find-where_key}
use Rattle.std.specs.FinMap.{nat_cmp-IsAntisymmetric}
use Rattle.run_types.specs.Tables.{Pair, pair_cmp, without, list_at, put_list}
use Rattle.run_types.specs.LinkTables.{push_list}
use Rattle.run_types.proofs.Tests.{first, second, both}
use Rattle.run_types.proofs.Chains.{same_some}

-- numbers that are not equal do not tie
pub untied : (q o : ℕ) → q ≢ o → eq_by_cmp nat_cmp q o ≡ false
untied q o n = by (nat_cmp q o) refl
  where
    by : (r : Ordering) → nat_cmp q o ≡ r → is_eq (nat_cmp q o) ≡ false
    by Less e = rw e refl
    by Greater e = rw e refl
    by Equal e = absurd (n (nat_cmp-IsAntisymmetric q o e))

pub tied : (q : ℕ) → eq_by_cmp nat_cmp q q ≡ true
tied q = ap is_eq (tied_itself nat_cmp_total q)

module _ {X : Type 0} where
  pub find_put_same : (o : ℕ) (x : X) (es : List (ℕ × X)) → find nat_cmp o (put nat_cmp o x es) ≡ Some x
  find_put_same o x es = find-put nat_cmp nat_cmp_total o o x es ∙ ap (λ b. cond b (Some x) (find nat_cmp o es)) (tied o)

  pub find_put_other : (q o : ℕ) (x : X) (es : List (ℕ × X)) → q ≢ o → find nat_cmp q (put nat_cmp o x es) ≡ find nat_cmp q es
  find_put_other q o x es n = find-put nat_cmp nat_cmp_total q o x es ∙ ap (λ b. cond b (Some x) (find nat_cmp q es)) (untied q o n)

  without_is : (q o : ℕ) (es : List (ℕ × X)) → find nat_cmp q (without nat_cmp o es) ≡ cond (not (eq_by_cmp nat_cmp o q)) (find nat_cmp q es) None
  without_is q o es = find-where_key nat_cmp (λ x. not (eq_by_cmp nat_cmp o x)) q (λ x e. ap (λ r. not (is_eq r)) (sym (alike_right nat_cmp_total q x o e))) es

  pub find_without_same : (o : ℕ) (es : List (ℕ × X)) → find nat_cmp o (without nat_cmp o es) ≡ None
  find_without_same o es = without_is o o es ∙ ap (λ b. cond (not b) (find nat_cmp o es) None) (tied o)

  pub find_without_other : (q o : ℕ) (es : List (ℕ × X)) → q ≢ o → find nat_cmp q (without nat_cmp o es) ≡ find nat_cmp q es
  find_without_other q o es n = without_is q o es ∙ ap (λ b. cond (not b) (find nat_cmp q es) None) (untied o q (λ e. n (sym e)))

  -- a name below the names of a list is not in it
  not_below : (o : ℕ) (es : List (ℕ × X)) → IsTrue (below_all nat_cmp o es) → find nat_cmp o es ≡ None
  not_below o [] t = refl
  not_below o (j ∷ es) t = by (nat_cmp o j.0) refl (not_below o es (second (is_lt (nat_cmp o j.0)) (below_all nat_cmp o es) t))
    where
      by : (r : Ordering) → nat_cmp o j.0 ≡ r → find nat_cmp o es ≡ None → find nat_cmp o (j ∷ es) ≡ None
      by Less e k = rw e k
      by Equal e k = absurd (let q : (is_lt Equal && below_all nat_cmp o es) ≡ true = rw e at t in grind (arith, q))
      by Greater e k = absurd (let q : (is_lt Greater && below_all nat_cmp o es) ≡ true = rw e at t in grind (arith, q))

  lower : (o k : ℕ) → nat_cmp o k ≡ Less → (es : List (ℕ × X)) → IsTrue (below_all nat_cmp k es) → IsTrue (below_all nat_cmp o es)
  lower o k i [] t = refl
  lower o k i (j ∷ es) t = both (is_lt (nat_cmp o j.0)) (below_all nat_cmp o es) (less (nat_cmp k j.0) refl) (lower o k i es (second (is_lt (nat_cmp k j.0)) (below_all nat_cmp k es) t))
    where
      less : (r : Ordering) → nat_cmp k j.0 ≡ r → is_lt (nat_cmp o j.0) ≡ true
      less Less m = rw (nat_cmp_total.trans o k j.0 i m) refl
      less Equal m = absurd (let q : (is_lt Equal && below_all nat_cmp k es) ≡ true = rw m at t in grind (arith, q))
      less Greater m = absurd (let q : (is_lt Greater && below_all nat_cmp k es) ≡ true = rw m at t in grind (arith, q))

  -- a sum over the entries, where a name that is there gets another object with the same summand
  pub total_put : (f : ℕ × X → ℕ) (o : ℕ) (x y : X) (es : List (ℕ × X)) → IsTrue (is_sorted nat_cmp es) → find nat_cmp o es ≡ Some x
      → f (o, y) ≡ f (o, x) → total f (put nat_cmp o y es) ≡ total f es
  total_put f o x y [] s h e = absurd (cc)
  total_put f o x y (k ∷ es) s h e = by (nat_cmp o k.0) refl (total_put f o x y es (second (below_all nat_cmp k.0 es) (is_sorted nat_cmp es) s))
    where
      by : (r : Ordering) → nat_cmp o k.0 ≡ r → (find nat_cmp o es ≡ Some x → f (o, y) ≡ f (o, x) → total f (put nat_cmp o y es) ≡ total f es)
          → total f (put nat_cmp o y (k ∷ es)) ≡ total f (k ∷ es)
      by Less i rest = absurd (let n = not_below o es (lower o k.0 i es (first (below_all nat_cmp k.0 es) (is_sorted nat_cmp es) s)) in
          let q : find nat_cmp o es ≡ Some x = rw i at h in cc)
      by Equal i rest =
          let at : o ≡ k.0 = nat_cmp-IsAntisymmetric o k.0 i in
          let is : k.1 ≡ x = same_some (rw i at h) in
          let one : f (k.0, y) ≡ f k = subst (λ n. f (n, y) ≡ f (n, k.1)) at (e ∙ ap (λ z. f (o, z)) (sym is)) in
          rw i (ap (λ n. n + total f es) one)
      by Greater i rest = let r = rest (rw i at h) e in rw i (ap (λ n. f k + n) r)

  -- and a new name adds its summand
  pub total_put_new : (f : ℕ × X → ℕ) (o : ℕ) (y : X) (es : List (ℕ × X)) → find nat_cmp o es ≡ None
      → total f (put nat_cmp o y es) ≡ f (o, y) + total f es
  total_put_new f o y [] h = refl
  total_put_new f o y (k ∷ es) h = by (nat_cmp o k.0) refl (total_put_new f o y es)
    where
      by : (r : Ordering) → nat_cmp o k.0 ≡ r → (find nat_cmp o es ≡ None → total f (put nat_cmp o y es) ≡ f (o, y) + total f es)
          → total f (put nat_cmp o y (k ∷ es)) ≡ f (o, y) + total f (k ∷ es)
      by Less i rest = rw i refl
      by Equal i rest = absurd (let q : Some k.1 ≡ None = rw i at h in cc)
      by Greater i rest = let r = rest (rw i at h) in rw i (ap (λ n. f k + n) r ∙ (omega arith))

pub pair_total : IsTotalOrder pair_cmp
pair_total = then_total (on_total (λ (p : Pair). p.0) nat_cmp_total) (on_total (λ (p : Pair). p.1) nat_cmp_total)

tied_pair : (p : Pair) → eq_by_cmp pair_cmp p p ≡ true
tied_pair p = ap is_eq (tied_itself pair_total p)

untied_pair : (k j : Pair) → j ≢ k → eq_by_cmp pair_cmp j k ≡ false
untied_pair k j n = by (nat_cmp j.0 k.0) refl
  where
    by : (a : Ordering) → nat_cmp j.0 k.0 ≡ a → is_eq (ordering_then (nat_cmp j.0 k.0) (nat_cmp j.1 k.1)) ≡ false
    by Less i = rw i refl
    by Greater i = rw i refl
    by Equal i = rw i (untied j.1 k.1 (λ e. n (λ t. (nat_cmp-IsAntisymmetric j.0 k.0 i t, e t))))

-- a map from pairs after one entry was put
module _ {X : Type 0} where
  pub find_pair_same : (k : Pair) (x : X) (es : List (Pair × X)) → find pair_cmp k (put pair_cmp k x es) ≡ Some x
  find_pair_same k x es = find-put pair_cmp pair_total k k x es ∙ ap (λ b. cond b (Some x) (find pair_cmp k es)) (tied_pair k)

  pub find_pair_other : (j k : Pair) (x : X) (es : List (Pair × X)) → j ≢ k → find pair_cmp j (put pair_cmp k x es) ≡ find pair_cmp j es
  find_pair_other j k x es n = find-put pair_cmp pair_total j k x es ∙ ap (λ b. cond b (Some x) (find pair_cmp j es)) (untied_pair k j n)

pair_same : (j k : Pair) → pair_cmp j k ≡ Equal → j ≡ k
pair_same j k e = by (nat_cmp j.0 k.0) refl
  where
    by : (a : Ordering) → nat_cmp j.0 k.0 ≡ a → j ≡ k
    by Less i = absurd (let q : Less ≡ Equal = rw i at e in cc)
    by Greater i = absurd (let q : Greater ≡ Equal = rw i at e in cc)
    by Equal i = let q : nat_cmp j.1 k.1 ≡ Equal = rw i at e in λ t. (nat_cmp-IsAntisymmetric j.0 k.0 i t, nat_cmp-IsAntisymmetric j.1 k.1 q t)

-- a test of the keys of a map
module _ {X : Type 0} (test : Pair → Bool) where
  pub tested : (es : List (Pair × X)) → list_all (λ e. test e.0) es ≡ true → (k : Pair) (x : X) → find pair_cmp k es ≡ Some x → test k ≡ true
  tested [] h k x f = absurd (cc)
  tested (e ∷ es) h k x f = by (pair_cmp k e.0) refl (tested es (second (test e.0) (list_all (λ e. test e.0) es) h) k x)
    where
      by : (r : Ordering) → pair_cmp k e.0 ≡ r → (find pair_cmp k es ≡ Some x → test k ≡ true) → test k ≡ true
      by Less i rest = rest (rw i at f)
      by Greater i rest = rest (rw i at f)
      by Equal i rest = subst (λ z. test z ≡ true) (sym (pair_same k e.0 i)) (first (test e.0) (list_all (λ e. test e.0) es) h)

  pub all_tested : (es : List (Pair × X)) → ((k : Pair) → test k ≡ true) → list_all (λ e. test e.0) es ≡ true
  all_tested [] f = refl
  all_tested (e ∷ es) f = both (test e.0) (list_all (λ e. test e.0) es) (f e.0) (all_tested es f)

-- a table of lists after one list was put, or a value last in one
module _ {X : Type 0} where
  pub put_list_same : (k : Pair) (xs : List X) (es : List (Pair × List X)) → list_at pair_cmp k (put_list pair_cmp k xs es) ≡ xs
  put_list_same k [] es =
      ap (λ z. unwrap_or z []) (find-where_key pair_cmp (λ x. not (eq_by_cmp pair_cmp k x)) k (λ x e. ap (λ o. not (is_eq o)) (sym (alike_right pair_total k x k e))) es
      ∙ ap (λ b. cond (not b) (find pair_cmp k es) None) (tied_pair k))
  put_list_same k (x ∷ xs) es =
      ap (λ z. unwrap_or z []) (find-put pair_cmp pair_total k k (x ∷ xs) es ∙ ap (λ b. cond b (Some (x ∷ xs)) (find pair_cmp k es)) (tied_pair k))

  pub put_list_other : (k : Pair) (xs : List X) (es : List (Pair × List X)) (j : Pair) → j ≢ k → list_at pair_cmp j (put_list pair_cmp k xs es) ≡ list_at pair_cmp j es
  put_list_other k [] es j n =
      ap (λ z. unwrap_or z []) (find-where_key pair_cmp (λ x. not (eq_by_cmp pair_cmp k x)) j (λ x e. ap (λ o. not (is_eq o)) (sym (alike_right pair_total j x k e))) es
      ∙ ap (λ b. cond (not b) (find pair_cmp j es) None) (untied_pair j k (λ e. n (sym e))))
  put_list_other k (x ∷ xs) es j n =
      ap (λ z. unwrap_or z []) (find-put pair_cmp pair_total j k (x ∷ xs) es ∙ ap (λ b. cond b (Some (x ∷ xs)) (find pair_cmp j es)) (untied_pair k j n))

  pub push_list_same : (k : Pair) (x : X) (es : List (Pair × List X)) → list_at pair_cmp k (push_list pair_cmp k x es) ≡ list_at pair_cmp k es ++ x ∷ []
  push_list_same k x es =
      ap (λ z. unwrap_or z []) (find-put pair_cmp pair_total k k (list_at pair_cmp k es ++ x ∷ []) es ∙ ap (λ b. cond b (Some (list_at pair_cmp k es ++ x ∷ [])) (find pair_cmp k es)) (tied_pair k))

  pub push_list_other : (k : Pair) (x : X) (es : List (Pair × List X)) (j : Pair) → j ≢ k → list_at pair_cmp j (push_list pair_cmp k x es) ≡ list_at pair_cmp j es
  push_list_other k x es j n =
      ap (λ z. unwrap_or z []) (find-put pair_cmp pair_total j k (list_at pair_cmp k es ++ x ∷ []) es ∙ ap (λ b. cond b (Some (list_at pair_cmp k es ++ x ∷ [])) (find pair_cmp j es)) (untied_pair k j n))

-- what the order of numbers tells
pub less_than : (a b : ℕ) → IsTrue (is_lt (nat_cmp a b)) → a < b
less_than a b h = by (nat_lt a b) refl
  where
    by : (t : Bool) → nat_lt a b ≡ t → a < b
    by true e = ltb-true a b e
    by false e = absurd (at (a == b) refl)
      where
        at : (s : Bool) → (a == b) ≡ s → ⊥
        at true f = let q : is_lt Equal ≡ true = rw (e, f) at h in grind (arith, q)
        at false f = let q : is_lt Greater ≡ true = rw (e, f) at h in grind (arith, q)
