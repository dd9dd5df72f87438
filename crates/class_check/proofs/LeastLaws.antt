-- The fault that is kept at the end is the least of all faults.
use Rattle.std.proofs.Common.{◌≡◌, refl, sym, subst, zero, suc, ◌⊎◌, inl, inr, ⊎_elim, Bool, true, false, List, [], ◌∷◌, Some, None, Contains, if◌then◌else◌, arith}
use Rattle.std.proofs.lemmas.Bool.Decides.{nat_tests}
use Rattle.pool_syntax.specs.Typing.{FaultAt}
use Rattle.class_check.specs.Least.{IsBelow, IsLeastFault}
use Rattle.type_check.specs.NotedFaults.{is_below, lower, noted}

not_below_itself : (x : FaultAt) → IsBelow x x → ⊥
not_below_itself x (inl h) = omega arith
not_below_itself x (inr h) = omega arith

below_through : (x y z : FaultAt) → IsBelow x y → IsBelow y z → IsBelow x z
below_through x y z (inl h) (inl k) = inl (omega arith)
below_through x y z (inl h) (inr k) = inl (omega arith)
below_through x y z (inr h) (inl k) = inl (omega arith)
below_through x y z (inr h) (inr k) = inr (omega arith, omega arith)

below_test : (x y : FaultAt) → is_below x y ≡ true → IsBelow x y
below_test x y h = grind (arith, nat_tests)

-- what is not above the first is not above what is below it
below_first : (x y z : FaultAt) → is_below y x ≡ false → IsBelow y z → IsBelow x z
below_first x y z h (inl k) = grind (arith, nat_tests)
below_first x y z h (inr k) = grind (arith, nat_tests)

behind : (x y : FaultAt) (ys : List FaultAt) → Contains ys x → Contains (y ∷ ys) x
behind x y ys h = (suc h.0, omega arith, h.2)

front_or_behind : (x y : FaultAt) (ys : List FaultAt) → Contains (y ∷ ys) x → (x ≡ y) ⊎ Contains ys x
front_or_behind x y ys (zero, within, at) = inl (sym at)
front_or_behind x y ys (suc k, within, at) = inr (k, omega arith, at)

-- it is the first fault or one of those behind, and none of these is below it
pub IsLast : FaultAt → List FaultAt → FaultAt → Type 0
IsLast x ys z = ((z ≡ x) ⊎ Contains ys z) × (IsBelow x z → ⊥) × ((y : FaultAt) → Contains ys y → IsBelow y z → ⊥)

-- the lower one in front
last_lower : (x y : FaultAt) (ys : List FaultAt) (z : FaultAt) → is_below y x ≡ true → IsLast y ys z → IsLast x (y ∷ ys) z
unfolding IsLast
last_lower x y ys z lower h = (
  ⊎_elim (λ e. inr (0, omega arith, sym e)) (λ c. inr (behind z y ys c)) h.0,
  (λ b. h.1 (below_through y x z (below_test y x lower) b)),
  (λ u c b. ⊎_elim (λ e. h.1 (subst (λ w. IsBelow w z) e b)) (λ d. h.2 u d b) (front_or_behind u y ys c)),
)

-- the higher one in front
last_higher : (x y : FaultAt) (ys : List FaultAt) (z : FaultAt) → is_below y x ≡ false → IsLast x ys z → IsLast x (y ∷ ys) z
unfolding IsLast
last_higher x y ys z higher h = (
  ⊎_elim (λ e. inl e) (λ c. inr (behind z y ys c)) h.0,
  h.1,
  (λ u c b. ⊎_elim (λ e. h.1 (below_first x y z higher (subst (λ w. IsBelow w z) e b))) (λ d. h.2 u d b) (front_or_behind u y ys c)),
)

last_cases : (x y : FaultAt) (ys : List FaultAt) (z : FaultAt) (b : Bool) → is_below y x ≡ b → (noted (Some y) ys ≡ Some z → IsLast y ys z) → (noted (Some x) ys ≡ Some z → IsLast x ys z)
    → noted (Some (if b then y else x)) ys ≡ Some z → IsLast x (y ∷ ys) z
last_cases x y ys z true e low high h = last_lower x y ys z e (low h)
last_cases x y ys z false e low high h = last_higher x y ys z e (high h)

noted_last : (x : FaultAt) (ys : List FaultAt) (z : FaultAt) → noted (Some x) ys ≡ Some z → IsLast x ys z
unfolding IsLast
noted_last x [] z h =
    let e : z ≡ x = cc in
    (inl e, (λ b. not_below_itself x (subst (IsBelow x) e b)), (λ y c. absurd (omega (arith, c.1))))
noted_last x (y ∷ ys) z h = last_cases x y ys z (is_below y x) refl (λ k. noted_last y ys z k) (λ k. noted_last x ys z k) h

-- what was noted of all faults is the least of them
pub least_noted : (fs : List FaultAt) (z : FaultAt) → noted None fs ≡ Some z → IsLeastFault fs z
unfolding IsLast
least_noted [] z h = absurd (cc)
least_noted (x ∷ xs) z h =
    let l = noted_last x xs z h in (
      ⊎_elim (λ e. (0, omega arith, sym e)) (λ c. behind z x xs c) l.0,
      (λ u c b. ⊎_elim (λ e. l.1 (subst (λ w. IsBelow w z) e b)) (λ d. l.2 u d b) (front_or_behind u x xs c)),
    )

some_stays : (x : FaultAt) (ys : List FaultAt) → noted (Some x) ys ≡ None → ⊥
some_stays x [] h = absurd (cc)
some_stays x (y ∷ ys) h = some_stays (lower (Some x) y) ys h

-- where none was noted there is none
pub none_noted : (fs : List FaultAt) → noted None fs ≡ None → fs ≡ []
none_noted [] h = refl
none_noted (x ∷ xs) h = absurd (some_stays x xs h)
