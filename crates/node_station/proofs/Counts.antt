-- Counts by neighbour: a list of counts, and the map of those that are not 0.
use Rattle.std.proofs.Common.{◌≡◌, refl, sym, ap, subst, ◌∙◌, ℕ, zero, suc, ◌+◌, ◌<◌, ◌==◌, List, [], ◌∷◌, length, get_or, None, Bool, true, false, arith}
use Rattle.std.specs.Prelude.{nat_lt, slice_set}
use Rattle.std.specs.Option.{unwrap_or}
use Rattle.std.specs.Ordering.{eq_by_cmp, nat_cmp}
use Rattle.std.specs.declared.cmp.Ordering.TheVariants.{Less, Equal, Greater}
use Rattle.std.specs.FinMap.{find, put}
use Rattle.run_types.proofs.Laws.{differ, equal, equals, tied, untied}
use Rattle.station_semantics.specs.Station.{count_at}
use Rattle.node_station.specs.StationOf.{counts_from}

is_less : (a b : ℕ) → a < b → nat_cmp a b ≡ Less
is_less a b h = let t : nat_lt a b ≡ true = grind (arith, h) in rw t refl

is_equal : (a : ℕ) → nat_cmp a a ≡ Equal
is_equal a = let s : nat_lt a a ≡ false = grind arith in let t = equals a in rw (s, t) refl

is_greater : (a b : ℕ) → b < a → nat_cmp a b ≡ Greater
is_greater a b h = let s : nat_lt a b ≡ false = grind (arith, h) in let t : (a == b) ≡ false = grind (arith, h) in rw (s, t) refl

-- nothing is counted below the first neighbour
none_below : (b j : ℕ) (ks : List ℕ) → j < b → find nat_cmp j (counts_from b ks) ≡ None
none_below b j [] h = refl
none_below b j (k ∷ ks) h = by (k == 0) refl (none_below (b + 1) j ks (omega (arith, h)))
  where
    by : (t : Bool) → (k == 0) ≡ t → find nat_cmp j (counts_from (b + 1) ks) ≡ None → find nat_cmp j (counts_from b (k ∷ ks)) ≡ None
    by true e r = rw e r
    by false e r = let d = untied j b (λ q. omega (arith, h, q)) in rw (e, d) r

-- the count of a neighbour
pub count_is : (b a j : ℕ) (ks : List ℕ) → j ≡ b + a → count_at j (counts_from b ks) ≡ get_or ks a 0
count_is b a j [] e = refl
count_is b zero j (k ∷ ks) e = by (k == 0) refl
  where
    by : (t : Bool) → (k == 0) ≡ t → count_at j (counts_from b (k ∷ ks)) ≡ k
    by true z = let n = none_below (b + 1) j ks (omega (arith, e)) in let w : k ≡ 0 = equal k 0 z in rw z (ap (λ o. unwrap_or o 0) n ∙ sym w)
    by false z = let q : j ≡ b = omega (arith, e) in let d : eq_by_cmp nat_cmp j b ≡ true = subst (λ i. eq_by_cmp nat_cmp j i ≡ true) q (tied j) in rw (z, d) refl
count_is b (suc a) j (k ∷ ks) e = by (k == 0) refl (count_is (b + 1) a j ks (omega (arith, e)))
  where
    by : (t : Bool) → (k == 0) ≡ t → count_at j (counts_from (b + 1) ks) ≡ get_or ks a 0 → count_at j (counts_from b (k ∷ ks)) ≡ get_or ks a 0
    by true z r = rw z r
    by false z r = let d = untied j b (λ q. omega (arith, e, q)) in rw (z, d) r

-- a count of a neighbour before all others
put_front : (b j v : ℕ) (ks : List ℕ) → j < b → put nat_cmp j v (counts_from b ks) ≡ (j, v) ∷ counts_from b ks
put_front b j v [] h = refl
put_front b j v (k ∷ ks) h = by (k == 0) refl (put_front (b + 1) j v ks (omega (arith, h)))
  where
    by : (t : Bool) → (k == 0) ≡ t → put nat_cmp j v (counts_from (b + 1) ks) ≡ (j, v) ∷ counts_from (b + 1) ks → put nat_cmp j v (counts_from b (k ∷ ks)) ≡ (j, v) ∷ counts_from b (k ∷ ks)
    by true z r = rw z r
    by false z r = let d = is_less j b h in rw (z, d) refl

-- a new count of a neighbour, which is not 0
pub put_is : (b a j v : ℕ) (ks : List ℕ) → j ≡ b + a → a < length ks → 0 < v → put nat_cmp j v (counts_from b ks) ≡ counts_from b (slice_set ks a v)
put_is b a j v [] e h p = absurd (omega arith)
put_is b zero j v (k ∷ ks) e h p = by (k == 0) refl
  where
    here : j ≡ b
    here = omega (arith, e)

    some : (v == 0) ≡ false
    some = differ v 0 (λ q. omega (arith, p, q))

    by : (t : Bool) → (k == 0) ≡ t → put nat_cmp j v (counts_from b (k ∷ ks)) ≡ counts_from b (v ∷ ks)
    by true z = rw (z, some) (put_front (b + 1) j v ks (omega (arith, e)) ∙ ap (λ i. (i, v) ∷ counts_from (b + 1) ks) here)
    by false z = let d : nat_cmp j b ≡ Equal = subst (λ i. nat_cmp j i ≡ Equal) here (is_equal j) in rw (z, some, d) refl
put_is b (suc a) j v (k ∷ ks) e h p = by (k == 0) refl (put_is (b + 1) a j v ks (omega (arith, e)) (omega (arith, h)) p)
  where
    by : (t : Bool) → (k == 0) ≡ t → put nat_cmp j v (counts_from (b + 1) ks) ≡ counts_from (b + 1) (slice_set ks a v)
        → put nat_cmp j v (counts_from b (k ∷ ks)) ≡ counts_from b (k ∷ slice_set ks a v)
    by true z r = rw z r
    by false z r = let d = is_greater j b (omega (arith, e)) in rw (z, d) (ap (λ es. (b, k) ∷ es) r)
