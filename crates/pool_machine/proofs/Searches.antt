-- Searches through lists: one that found an item, and one that did not.
use Rattle.std.proofs.Common.{◌≡◌, refl, ap, ap₂, ◌∙◌, ℕ, zero, suc, ◌<◌, ◌≤◌, List, [], ◌∷◌, length, Some, None, Bool, true, false, ◌||◌, arith}
use Rattle.std.specs.Prelude.{slice_get}
use Rattle.std.specs.List.{list_any}
use Rattle.std.proofs.lemmas.Option.{slice_get_within}
use Rattle.run_types.proofs.Laws.{same_some}

module _ {X : Type 0} (t : X → Bool) where
  pub found_one : (xs : List X) (i : ℕ) (x : X) → slice_get xs i ≡ Some x → t x ≡ true → list_any t xs ≡ true
  found_one [] i x h e = absurd (cc)
  found_one (y ∷ xs) zero x h e = ap (λ b. b || list_any t xs) (ap t (same_some h) ∙ e)
  found_one (y ∷ xs) (suc i) x h e = by (t y) (found_one xs i x h e)
    where
      by : (b : Bool) → list_any t xs ≡ true → (b || list_any t xs) ≡ true
      by true r = refl
      by false r = r

  pub found_none : (xs : List X) → ((i : ℕ) (x : X) → slice_get xs i ≡ Some x → t x ≡ false) → list_any t xs ≡ false
  found_none [] h = refl
  found_none (y ∷ xs) h = ap₂ (λ a b. a || b) (h zero y refl) (found_none xs (λ i x e. h (suc i) x e))

  -- nothing was found before a place at which the list has ended
  pub none_before : (xs : List X) (n : ℕ) → length xs ≤ n → ((i : ℕ) → i < n → (x : X) → slice_get xs i ≡ Some x → t x ≡ false) → list_any t xs ≡ false
  none_before xs n h none = found_none xs (λ i x e. none i (let a = slice_get_within xs i x e in omega (arith, a, h)) x e)

-- a list ends where it has no element
pub ends_at : {X : Type 0} (xs : List X) (n : ℕ) → slice_get xs n ≡ None → length xs ≤ n
ends_at [] n h = omega arith
ends_at (x ∷ xs) zero h = absurd (cc)
ends_at (x ∷ xs) (suc n) h = let a = ends_at xs n h in omega (arith, a)

pub never_both : (b : Bool) → b ≡ true → b ≡ false → ⊥
never_both true t f = cc
never_both false t f = cc

pub below_end : (i n end : ℕ) → i < n → n ≤ end → i < end
below_end i n end within past = omega arith

pub at_end : (i end : ℕ) → i ≤ end → end ≤ i → i ≡ end
at_end i end within past = omega arith
