-- One more packet on a link: how many packets leave a node then, and how many are on the link.
use Rattle.std.proofs.Common.{◌≡◌, refl, ap, subst, ◌∙◌, IsTrue, ℕ, ◌+◌, ◌≤◌, ◌==◌, List, [], ◌∷◌, ◌++◌, length, None, Bool, true, false, ◌&&◌, if◌then◌else◌, arith}
use Rattle.std.specs.Option.{unwrap_or}
use Rattle.std.specs.Ordering.{is_lt}
use Rattle.std.specs.declared.cmp.Ordering.{Ordering}
use Rattle.std.specs.declared.cmp.Ordering.TheVariants.{Less, Equal, Greater}
use Rattle.std.specs.FinMap.{find, put}
use Rattle.std.specs.FinMap.Entries.{is_sorted, below_all}
use Rattle.std.proofs.lemmas.List.{length_push}
use Rattle.std.proofs.lemmas.List.Sums.{sum_by-cons}
use Rattle.run_types.specs.Tables.{Pair, pair_cmp, list_at}
use Rattle.run_types.specs.LinkTables.{leaving, push_list}
use Rattle.run_types.specs.Paths.{total}
use Rattle.run_types.proofs.Laws.{first, second, pair_total}

within_if : (b : Bool) (m k : ℕ) → m ≤ k → (if b then m else 0) ≤ k
within_if true m k h = h
within_if false m k h = omega arith

more_if : (b : Bool) (m k : ℕ) → m ≤ k + 1 → (if b then m else 0) ≤ (if b then k else 0) + 1
more_if true m k h = h
more_if false m k h = omega arith

module _ {Y : Type 0} where
  -- nothing is found under a key below the first of rising keys
  lower : (j k : Pair) → pair_cmp j k ≡ Less → (es : List (Pair × Y)) → IsTrue (below_all pair_cmp k es) → find pair_cmp j es ≡ None
  lower j k i [] t = refl
  lower j k i (e ∷ es) t = by (pair_cmp k e.0) refl (lower j k i es (second (is_lt (pair_cmp k e.0)) (below_all pair_cmp k es) t))
    where
      by : (r : Ordering) → pair_cmp k e.0 ≡ r → find pair_cmp j es ≡ None → find pair_cmp j (e ∷ es) ≡ None
      by Less m r = let z = pair_total.trans j k e.0 i m in rw z r
      by Equal m r = absurd (let q : (is_lt Equal && below_all pair_cmp k es) ≡ true = rw m at t in grind (arith, q))
      by Greater m r = absurd (let q : (is_lt Greater && below_all pair_cmp k es) ≡ true = rw m at t in grind (arith, q))

module _ {X : Type 0} where
  module _ (n : ℕ) where
    -- the number of packets that leave, by recursion
    abbrev count : List (Pair × List X) → ℕ
    count es = total (λ e. if e.0.0 == n then length e.1 else 0) es

    leaving_is : (es : List (Pair × List X)) → leaving es n ≡ count es
    leaving_is [] = refl
    leaving_is (e ∷ es) = sum_by-cons (λ (d : Pair × List X). if d.0.0 == n then length d.1 else 0) e es ∙ ap (λ k. (if e.0.0 == n then length e.1 else 0) + k) (leaving_is es)

    count_put : (k : Pair) (xs : List X) (es : List (Pair × List X)) → IsTrue (is_sorted pair_cmp es) → length xs ≤ length (list_at pair_cmp k es) + 1 → count (put pair_cmp k xs es) ≤ count es + 1
    count_put k xs [] s h = let a = within_if (k.0 == n) (length xs) 1 h in omega (arith, a)
    count_put k xs (e ∷ es) s h = by (pair_cmp k e.0) refl (count_put k xs es (second (below_all pair_cmp e.0 es) (is_sorted pair_cmp es) s))
      where
        by : (r : Ordering) → pair_cmp k e.0 ≡ r → (length xs ≤ length (list_at pair_cmp k es) + 1 → count (put pair_cmp k xs es) ≤ count es + 1)
            → count (put pair_cmp k xs (e ∷ es)) ≤ count (e ∷ es) + 1
        by Less i r =
            let none = lower k e.0 i es (first (below_all pair_cmp e.0 es) (is_sorted pair_cmp es) s) in
            let few : length xs ≤ length (unwrap_or (find pair_cmp k es) []) + 1 = rw i at h in
            let one : length xs ≤ 1 = subst (λ o. length xs ≤ length (unwrap_or o []) + 1) none few in
            let a = within_if (k.0 == n) (length xs) 1 one in rw i (omega (arith, a))
        by Equal i r =
            let few : length xs ≤ length e.1 + 1 = rw i at h in
            let a = more_if (e.0.0 == n) (length xs) (length e.1) few in rw i (omega (arith, a))
        by Greater i r =
            let few : length xs ≤ length (list_at pair_cmp k es) + 1 = rw i at h in
            let a = r few in rw i (omega (arith, a))

    -- one more packet leaves
    pub leaving_push : (k : Pair) (x : X) (es : List (Pair × List X)) → IsTrue (is_sorted pair_cmp es) → leaving (push_list pair_cmp k x es) n ≤ leaving es n + 1
    leaving_push k x es s =
        let a = leaving_is es in
        let b = leaving_is (push_list pair_cmp k x es) in
        let z = length_push (list_at pair_cmp k es) x in
        let c = count_put k (list_at pair_cmp k es ++ x ∷ []) es s (omega (arith, z)) in omega (arith, a, b, c)
