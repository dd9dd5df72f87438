-- The pigeonhole principle: among more numbers than there are places, two are equal.
use Rattle.std.proofs.Common.{◌≡◌, ◌≢◌, ◌⊎◌, inl, inr, refl, sym, ap, ◌∙◌, ℕ, zero, suc, ◌+◌, ◌<◌, ◌==◌, Bool, true, false, arith}
use Rattle.std.specs.Prelude.{if◌then◌else◌}
use Rattle.run_types.proofs.Tests.{decide}

-- a value is found among the first, or is none of them
abbrev Found : (ℕ → ℕ) → ℕ → ℕ → Type 0
Found f v n = ((i : ℕ) × (i < n) × (f i ≡ v)) ⊎ ((i : ℕ) → i < n → f i ≢ v)

search_for : (f : ℕ → ℕ) (v n : ℕ) → Found f v n
search_for f v zero = inr (λ i h. absurd (omega (arith, h)))
search_for f v (suc n) = by (search_for f v n) (decide (f n) v)
  where
    here : ((i : ℕ) → i < n → f i ≢ v) → f n ≢ v → (i : ℕ) → i < suc n → (i ≡ n) ⊎ (i ≢ n) → f i ≢ v
    here none last i h (inl e) = λ q. last (ap f (sym e) ∙ q)
    here none last i h (inr e) = none i (omega (arith, h, e))

    by : Found f v n → (f n ≡ v) ⊎ (f n ≢ v) → Found f v (suc n)
    by (inl a) d = inl (a.0, omega (arith, a.1), a.2)
    by (inr none) (inl e) = inl (n, omega arith, e)
    by (inr none) (inr last) = inr (λ i h. here none last i h (decide i n))

-- two of the first n have the same value
pub record Meets (f : ℕ → ℕ) (n : ℕ) : Type 0 where
  pub first : ℕ
  pub between : ℕ
  pub within : suc (first + between) < n
  pub same : f first ≡ f (suc (first + between))

-- one value in another's place
abbrev other : ℕ → ℕ → ℕ → ℕ
other n v m = if m == n then v else m

other_less : (n v m : ℕ) → m < suc n → v < suc n → m ≢ v → other n v m < n
other_less n v m a b d = by (m == n) refl
  where
    by : (c : Bool) → (m == n) ≡ c → (if c then v else m) < n
    by true e = let q : m ≡ n = grind (arith, e) in omega (arith, a, b, d, q)
    by false e = let q : m ≢ n = λ s. absurd (grind (arith, e, s)) in omega (arith, a, b, d, q)

other_same : (n v l m : ℕ) → l ≢ v → m ≢ v → other n v l ≡ other n v m → l ≡ m
other_same n v l m a b h = by (l == n) (m == n) refl refl h
  where
    by : (c d : Bool) → (l == n) ≡ c → (m == n) ≡ d → (if c then v else l) ≡ (if d then v else m) → l ≡ m
    by true true p q e = let x : l ≡ n = grind (arith, p) in let y : m ≡ n = grind (arith, q) in omega (arith, x, y)
    by true false p q e = absurd (b (sym e))
    by false true p q e = absurd (a e)
    by false false p q e = e

pub pigeons : (n : ℕ) (f : ℕ → ℕ) → ((i : ℕ) → i < suc n → f i < n) → Meets f (suc n)
pigeons zero f h = let x = h 0 (omega arith) in absurd (omega (arith, x))
pigeons (suc n) f h = by (search_for f (f (suc n)) (suc n)) (λ none. pigeons n (λ i. other n (f (suc n)) (f i)) (λ i lt. other_less n (f (suc n)) (f i) (h i (omega (arith, lt))) (h (suc n) (omega arith)) (none i lt)))
  where
    last : ((i : ℕ) × (i < suc n) × (f i ≡ f (suc n))) → Meets f (suc (suc n))
    last a =
        let gap : (d : ℕ) × (suc (a.0 + d) ≡ suc n) = up a.0 n a.1 in
        record { first = a.0; between = gap.0; within = omega (arith, gap.1); same = a.2 ∙ ap f (sym gap.1) }
      where
        up : (i n : ℕ) → i < suc n → (d : ℕ) × (suc (i + d) ≡ suc n)
        up zero n lt = (n, omega arith)
        up (suc i) zero lt = absurd (omega (arith, lt))
        up (suc i) (suc n) lt = let r = up i n (omega (arith, lt)) in (r.0, omega (arith, r.1))

    by : Found f (f (suc n)) (suc n) → (((i : ℕ) → i < suc n → f i ≢ f (suc n)) → Meets (λ i. other n (f (suc n)) (f i)) (suc n)) → Meets f (suc (suc n))
    by (inl a) more = last a
    by (inr none) more =
        let m = more none in
        record {
          first = m.first;
          between = m.between;
          within = omega (arith, m.within);
          same = other_same n (f (suc n)) (f m.first) (f (suc (m.first + m.between))) (none m.first (omega (arith, m.within))) (none (suc (m.first + m.between)) m.within) m.same;
        }
