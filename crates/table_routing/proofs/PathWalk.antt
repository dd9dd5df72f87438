-- Following a path by the table, a link at a time.
use Rattle.std.proofs.Common.{◌≡◌, ◌≢◌, refl, sym, ap, subst, ◌∙◌, ℕ, suc, ◌+◌, ◌-◌, ◌*◌, ◌<◌, ◌≤◌, List, Bool, true, false, get_or, arith}
use Rattle.run_types.specs.declared.types.Placement.{Placement}
use Rattle.run_types.specs.Paths.{is_cut, next}
use Rattle.run_types.specs.Routes.{is_broken}
use Rattle.run_types.specs.RoutedPlacements.{IsRouted}
use Rattle.run_types.proofs.Laws.{differ, equals, follow, followed, next_beside}
use Rattle.table_routing.specs.Tables.{AreNexts, size}
use Rattle.table_routing.proofs.Places.{next_at}

-- of what is left to follow: the goal, a cut link, a link that is there, and nothing
one_less : (s k : ℕ) → k < s → s - k ≡ suc (s - (k + 1))
one_less s k h = omega (arith, h)

module _ (l : Placement) (b : ℕ) where
  pub at_goal : (k a : ℕ) → k < size l → a ≡ b → follow l b (size l - k) a ≡ false
  at_goal k a h e = ap (λ n. follow l b n a) (one_less (size l) k h) ∙ rw e (rw (equals b) refl)

  pub at_cut : (k a : ℕ) → k < size l → a ≢ b → is_cut l.cuts a (next l a b) ≡ true → follow l b (size l - k) a ≡ true
  at_cut k a h apart e = ap (λ n. follow l b n a) (one_less (size l) k h) ∙ rw (differ a b apart, e) refl

  pub at_link : (k a : ℕ) → k < size l → a ≢ b → is_cut l.cuts a (next l a b) ≡ false → follow l b (size l - k) a ≡ follow l b (size l - (k + 1)) (next l a b)
  at_link k a h apart e = ap (λ n. follow l b n a) (one_less (size l) k h) ∙ rw (differ a b apart, e) refl

  pub at_end : (k a : ℕ) → size l ≤ k → follow l b (size l - k) a ≡ true
  at_end k a h = let none : size l - k ≡ 0 = omega (arith, h) in ap (λ n. follow l b n a) none

-- what is found on the way is so of the whole path
pub told : (l : Placement) (a b : ℕ) (t : Bool) (k at : ℕ) → IsRouted l → a < size l → b < size l → follow l b (size l - k) at ≡ follow l b (size l) a → follow l b (size l - k) at ≡ t
    → t ≡ is_broken l a b
told l a b t k at routed i j left found = sym found ∙ left ∙ followed l routed a b i j

pub next_inside : (l : Placement) (ns : List ℕ) (a b : ℕ) → IsRouted l → AreNexts l (size l * size l) ns → a < size l → b < size l → a ≢ b → get_or ns (a * size l + b) 0 < size l
next_inside l ns a b routed nexts i j apart = subst (λ n. n < size l) (sym (next_at l ns a b nexts i j apart)) (next_beside l routed a b i j apart).1
