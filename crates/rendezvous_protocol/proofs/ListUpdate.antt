-- Look-ups in a list after one item was set, and tests of numbers.
use Rattle.std.proofs.Common.{◌≡◌, ◌≢◌, ◌⊎◌, inl, inr, refl, sym, ap, ℕ, zero, suc, ◌<◌, ◌==◌, ◌||◌, List, [], ◌∷◌, length, replicate, set, Option, Some, None, Bool, true, false, slice_get, arith}
use Rattle.std.specs.List.{list_any}
use Rattle.std.specs.Option.{unwrap_or}
use Rattle.std.proofs.lemmas.Bool.Decides.{eqb_tells}
use Rattle.rendezvous_protocol.specs.Numbers.{is_number}

pub same_some : {X : Type 0} {x y : X} → Some x ≡ Some y → x ≡ y
same_some {x = x} e = ap (λ o. unwrap_or o x) e

module _ {X : Type 0} where
  pub at_same : (xs : List X) (i : ℕ) (y : X) → i < length xs → slice_get (set xs i y) i ≡ Some y
  at_same [] i y h = absurd (omega arith)
  at_same (x ∷ xs) zero y h = refl
  at_same (x ∷ xs) (suc i) y h = at_same xs i y (omega arith)

  pub at_other : (xs : List X) (i j : ℕ) (y : X) → j ≢ i → slice_get (set xs i y) j ≡ slice_get xs j
  at_other [] i j y n = refl
  at_other (x ∷ xs) zero zero y n = absurd (n refl)
  at_other (x ∷ xs) zero (suc j) y n = refl
  at_other (x ∷ xs) (suc i) zero y n = refl
  at_other (x ∷ xs) (suc i) (suc j) y n = at_other xs i j y (λ e. n (ap suc e))

-- a place of a row of equal values has that value
pub in_row : {X : Type 0} (n k : ℕ) (x y : X) → slice_get (replicate n x) k ≡ Some y → y ≡ x
in_row zero k x y e = absurd (cc)
in_row (suc n) zero x y e = sym (same_some e)
in_row (suc n) (suc k) x y e = in_row n k x y e

-- a number that stands at a place is found
pub found : (n k : ℕ) (xs : List (Option ℕ)) → slice_get xs k ≡ Some (Some n) → list_any (is_number n) xs ≡ true
found n k [] e = absurd (cc)
found n zero (x ∷ xs) e = let at : x ≡ Some n = same_some e in rw at (elim (eqb_tells n n) [ inl p ↦ rw p.0 refl | inr p ↦ absurd (p.1 refl) ])
found n (suc k) (x ∷ xs) e = rw (found n k xs e) (by (is_number n x))
  where
    by : (b : Bool) → (b || true) ≡ true
    by true = refl
    by false = refl

-- and a number that is found stands at a place
pub place_of : (n : ℕ) (xs : List (Option ℕ)) → list_any (is_number n) xs ≡ true → (k : ℕ) × (slice_get xs k ≡ Some (Some n))
place_of n [] e = absurd (cc)
place_of n (None ∷ xs) e = let r = place_of n xs e in (suc r.0, r.1)
place_of n (Some m ∷ xs) e = by (eqb_tells m n) (place_of n xs)
  where
    by : ((m == n) ≡ true) × (m ≡ n) ⊎ ((m == n) ≡ false) × (m ≢ n) → (list_any (is_number n) xs ≡ true → (k : ℕ) × (slice_get xs k ≡ Some (Some n))) → (k : ℕ) × (slice_get (Some m ∷ xs) k ≡ Some (Some n))
    by (inl p) go = (zero, ap Some (ap Some p.1))
    by (inr p) go = let r = go (rw p.0 at e) in (suc r.0, r.1)
