-- Laws of tests: the parts of a conjunction, and the equality of numbers.
use Rattle.std.proofs.Common.{T, sym, subst, ℕ, ◌==◌, ◌≢◌, ◌⊎◌, inl, inr, IsTrue, Bool, true, false, not, ◌≡◌, refl, ◌&&◌, arith, ◌||◌}

pub first : (a b : Bool) → IsTrue (a && b) → IsTrue a
first true b h = refl
first false b h = h

pub second : (a b : Bool) → IsTrue (a && b) → IsTrue b
second true b h = h
second false b h = absurd (grind (arith, h))

pub both : (a b : Bool) → IsTrue a → IsTrue b → IsTrue (a && b)
both a b p q = rw (p, q) refl

pub equal : (a b : ℕ) → (a == b) ≡ true → a ≡ b
equal a b h = grind (arith, h)

pub equals : (a : ℕ) → (a == a) ≡ true
equals a = grind arith

pub not_true : (b : Bool) → not b ≡ true → b ≡ false
not_true b h = grind (arith, h)

pub true_not : (b : Bool) → not b ≡ false → b ≡ true
true_not b h = grind (arith, h)

-- two numbers are equal or not
pub decide : (a b : ℕ) → (a ≡ b) ⊎ (a ≢ b)
decide a b = by (a == b) refl
  where
    by : (c : Bool) → (a == b) ≡ c → (a ≡ b) ⊎ (a ≢ b)
    by true e = inl (equal a b e)
    by false e = inr (λ s. absurd (grind (arith, e, s)))

pub differ : (a b : ℕ) → a ≢ b → (a == b) ≡ false
differ a b n = by (a == b) refl
  where
    by : (c : Bool) → (a == b) ≡ c → (a == b) ≡ false
    by true e = absurd (n (equal a b e))
    by false e = e

pub T_true : (b : Bool) → T b → b ≡ true
T_true true t = refl
T_true false t = absurd t

pub true_T : (b : Bool) → b ≡ true → T b
true_T b e = subst T (sym e) tt

pub neither : (a b : Bool) → (a || b) ≡ false → (a ≡ false) × (b ≡ false)
neither false false h = (refl, refl)
neither true b h = absurd (grind (arith, h))
neither false true h = absurd (grind (arith, h))
