-- If no link that leaves a node has more packets in one map than in another, no more packets leave the node.
use Rattle.std.proofs.Common.{◌≡◌, ◌≢◌, ◌⊎◌, inl, inr, refl, sym, ap, subst, ◌∙◌, IsTrue, ℕ, ◌+◌, ◌≤◌, ◌==◌, List, [], ◌∷◌, length, None, Bool, true, false, ◌&&◌, if◌then◌else◌, arith}
use Rattle.std.specs.Option.{unwrap_or}
use Rattle.std.specs.Ordering.{is_lt, is_eq}
use Rattle.std.specs.declared.cmp.Ordering.{Ordering}
use Rattle.std.specs.declared.cmp.Ordering.TheVariants.{Less, Equal, Greater}
use Rattle.std.specs.FinMap.{find}
use Rattle.std.specs.FinMap.Entries.{is_sorted, below_all}
use Rattle.run_types.specs.Tables.{Pair, pair_cmp, list_at, without}
use Rattle.run_types.specs.LinkTables.{leaving}
use Rattle.run_types.specs.Paths.{total}
use Rattle.std.proofs.lemmas.List.Sums.{sum_by-cons}
use Rattle.run_types.proofs.Laws.{first, second, equal, equals, one_pair, tied_pair, listed_there}
use Rattle.node_semantics.proofs.Laws.{decide_link}

shift : (a b c d : ℕ) → a + b ≤ c → a + (d + b) ≤ d + c
shift a b c d h = omega (arith, h)

module _ {X : Type 0} (n : ℕ) where
  -- the number of packets that leave, by recursion
  abbrev count : List (Pair × List X) → ℕ
  count es = total (λ e. if e.0.0 == n then length e.1 else 0) es

  leaving_is : (es : List (Pair × List X)) → leaving es n ≡ count es
  leaving_is [] = refl
  leaving_is (e ∷ es) = sum_by-cons (λ (d : Pair × List X). if d.0.0 == n then length d.1 else 0) e es ∙ ap (λ k. (if e.0.0 == n then length e.1 else 0) + k) (leaving_is es)

  fewer : (k : Pair) (es : List (Pair × List X)) → count (without pair_cmp k es) ≤ count es
  fewer k [] = omega arith
  fewer k (e ∷ es) = by (pair_cmp k e.0) refl (fewer k es)
    where
      by : (r : Ordering) → pair_cmp k e.0 ≡ r → count (without pair_cmp k es) ≤ count es → count (without pair_cmp k (e ∷ es)) ≤ count (e ∷ es)
      by Less i h = rw i (omega (arith, h))
      by Greater i h = rw i (omega (arith, h))
      by Equal i h = rw i (omega (arith, h))

  split : (k : Pair) (es : List (Pair × List X)) → (if k.0 == n then length (list_at pair_cmp k es) else 0) + count (without pair_cmp k es) ≤ count es
  split k [] = on (k.0 == n)
    where
      on : (b : Bool) → (if b then 0 else 0) + 0 ≤ 0
      on true = omega arith
      on false = omega arith
  split k (e ∷ es) = by (pair_cmp k e.0) refl (split k es)
    where
      by : (r : Ordering) → pair_cmp k e.0 ≡ r → (if k.0 == n then length (list_at pair_cmp k es) else 0) + count (without pair_cmp k es) ≤ count es
          → (if k.0 == n then length (list_at pair_cmp k (e ∷ es)) else 0) + count (without pair_cmp k (e ∷ es)) ≤ count (e ∷ es)
      by Less i h = rw i (shift (if k.0 == n then length (list_at pair_cmp k es) else 0) (count (without pair_cmp k es)) (count es) (if e.0.0 == n then length e.1 else 0) h)
      by Greater i h = rw i (shift (if k.0 == n then length (list_at pair_cmp k es) else 0) (count (without pair_cmp k es)) (count es) (if e.0.0 == n then length e.1 else 0) h)
      by Equal i h =
          let same : k ≡ e.0 = one_pair k e.0 i in
          let f = fewer k es in
          let z : (if k.0 == n then length e.1 else 0) ≡ (if e.0.0 == n then length e.1 else 0) = ap (λ (j : Pair). if j.0 == n then length e.1 else 0) same in
          rw i (omega (arith, f, z))

  pub none_at : (k : Pair) (es : List (Pair × List X)) → IsTrue (below_all pair_cmp k es) → find pair_cmp k es ≡ None
  none_at k [] t = refl
  none_at k (j ∷ es) t = by (pair_cmp k j.0) refl (none_at k es (second (is_lt (pair_cmp k j.0)) (below_all pair_cmp k es) t))
    where
      by : (r : Ordering) → pair_cmp k j.0 ≡ r → find pair_cmp k es ≡ None → find pair_cmp k (j ∷ es) ≡ None
      by Less e h = rw e h
      by Equal e h = absurd (let q : (is_lt Equal && below_all pair_cmp k es) ≡ true = rw e at t in grind (arith, q))
      by Greater e h = absurd (let q : (is_lt Greater && below_all pair_cmp k es) ≡ true = rw e at t in grind (arith, q))

  pub head_at : (e : Pair × List X) (es : List (Pair × List X)) → list_at pair_cmp e.0 (e ∷ es) ≡ e.1
  head_at e es = by (pair_cmp e.0 e.0) refl
    where
      by : (r : Ordering) → pair_cmp e.0 e.0 ≡ r → list_at pair_cmp e.0 (e ∷ es) ≡ e.1
      by Equal i = rw i refl
      by Less i = absurd (let t = tied_pair e.0 in let q : is_eq Less ≡ true = rw i at t in cc)
      by Greater i = absurd (let t = tied_pair e.0 in let q : is_eq Greater ≡ true = rw i at t in cc)

  pub tail_at : (j : Pair) (e : Pair × List X) (es : List (Pair × List X)) → j ≢ e.0 → list_at pair_cmp j (e ∷ es) ≡ list_at pair_cmp j es
  tail_at j e es d = by (pair_cmp j e.0) refl
    where
      by : (r : Ordering) → pair_cmp j e.0 ≡ r → list_at pair_cmp j (e ∷ es) ≡ list_at pair_cmp j es
      by Less i = rw i refl
      by Greater i = rw i refl
      by Equal i = absurd (d (one_pair j e.0 i))

  count_less : (ls bs : List (Pair × List X)) → IsTrue (is_sorted pair_cmp ls) → ((k : Pair) → k.0 ≡ n → length (list_at pair_cmp k ls) ≤ length (list_at pair_cmp k bs))
      → count ls ≤ count bs
  count_less [] bs s h = omega arith
  count_less (e ∷ ls) bs s h = by (e.0.0 == n) refl (count_less ls bs rest) (count_less ls (without pair_cmp e.0 bs) rest)
    where
      rest : IsTrue (is_sorted pair_cmp ls)
      rest = second (below_all pair_cmp e.0 ls) (is_sorted pair_cmp ls) s

      none : list_at pair_cmp e.0 ls ≡ []
      none = ap (λ z. unwrap_or z []) (none_at e.0 ls (first (below_all pair_cmp e.0 ls) (is_sorted pair_cmp ls) s))

      by : (b : Bool) → (e.0.0 == n) ≡ b → (((k : Pair) → k.0 ≡ n → length (list_at pair_cmp k ls) ≤ length (list_at pair_cmp k bs)) → count ls ≤ count bs)
          → (((k : Pair) → k.0 ≡ n → length (list_at pair_cmp k ls) ≤ length (list_at pair_cmp k (without pair_cmp e.0 bs))) → count ls ≤ count (without pair_cmp e.0 bs))
          → count (e ∷ ls) ≤ count bs
      by false i easy hard =
          let r = easy (λ k z. let d : k ≢ e.0 = λ q. absurd (let w : e.0.0 ≡ n = sym (ap (λ (p : Pair). p.0) q) ∙ z in let t : (e.0.0 == n) ≡ true = rw w (equals n) in let u : true ≡ false = sym t ∙ i in cc) in
          subst (λ zs. length zs ≤ length (list_at pair_cmp k bs)) (tail_at k e ls d) (h k z)) in
          rw i (omega (arith, r))
      by true i easy hard =
          let here : e.0.0 ≡ n = equal e.0.0 n i in
          let r = hard (λ k z. on k z (decide_link k e.0)) in
          let t : length e.1 ≤ length (list_at pair_cmp e.0 bs) = subst (λ zs. length zs ≤ length (list_at pair_cmp e.0 bs)) (head_at e ls) (h e.0 here) in
          let u : length (list_at pair_cmp e.0 bs) + count (without pair_cmp e.0 bs) ≤ count bs = let z = split e.0 bs in rw i at z in
          rw i (omega (arith, r, t, u))
        where
          on : (k : Pair) → k.0 ≡ n → (k ≡ e.0) ⊎ (k ≢ e.0) → length (list_at pair_cmp k ls) ≤ length (list_at pair_cmp k (without pair_cmp e.0 bs))
          on k z (inl q) = let m : list_at pair_cmp k ls ≡ [] = subst (λ j. list_at pair_cmp j ls ≡ []) (sym q) none in let l : length (list_at pair_cmp k ls) ≡ 0 = ap length m in omega (arith, l)
          on k z (inr d) =
              let a : length (list_at pair_cmp k ls) ≤ length (list_at pair_cmp k bs) = subst (λ zs. length zs ≤ length (list_at pair_cmp k bs)) (tail_at k e ls d) (h k z) in
              subst (λ xs. length (list_at pair_cmp k ls) ≤ length xs) (sym (listed_there bs k e.0 [] d)) a

  pub leaving_less : (ls bs : List (Pair × List X)) → IsTrue (is_sorted pair_cmp ls) → ((k : Pair) → k.0 ≡ n → length (list_at pair_cmp k ls) ≤ length (list_at pair_cmp k bs))
      → leaving ls n ≤ leaving bs n
  leaving_less ls bs s h = let a = count_less ls bs s h in let b = leaving_is ls in let c = leaving_is bs in omega (arith, a, b, c)
