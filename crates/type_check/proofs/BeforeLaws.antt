-- The names before a place, and a list that is split at a place.
use Rattle.std.proofs.Common.{◌≡◌, refl, sym, ap, ◌∙◌, ℕ, ◌+◌, ◌<◌, Bool, ◌||◌, List, [], ◌∷◌, ◌++◌, length, take, get_or, arith}
use Rattle.std.specs.List.{list_any}
use Rattle.std.proofs.lemmas.List.{take_more}
use Rattle.type_check.specs.Before.{names_before}

module _ {A : Type 0} (key : A → ℕ) where
  last_before : (names : List ℕ) (xs : List A) (x : A) → names_before key names (xs ++ x ∷ []) ≡ key x ∷ names_before key names xs
  last_before names [] x = refl
  last_before names (y ∷ ys) x = last_before (key y ∷ names) ys x

  -- one more entry has passed
  pub before_more : (names : List ℕ) (xs : List A) (i : ℕ) (x : A) → i < length xs → x ≡ get_or xs i x → names_before key names (take (i + 1) xs) ≡ key x ∷ names_before key names (take i xs)
  before_more names xs i x within at = ap (names_before key names) (take_more xs i x within ∙ ap (λ y. take i xs ++ y ∷ []) (sym at)) ∙ last_before names (take i xs) x

  pub any_before : (test : ℕ → Bool) (names : List ℕ) (xs : List A) → list_any test (names_before key names xs) ≡ (list_any test names || list_any (λ x. test (key x)) xs)
  any_before test names [] = grind arith
  any_before test names (y ∷ ys) = any_before test (key y ∷ names) ys ∙ grind arith

  pub length-before : (names : List ℕ) (xs : List A) → length (names_before key names xs) ≡ length names + length xs
  length-before names [] = omega arith
  length-before names (y ∷ ys) = length-before (key y ∷ names) ys ∙ omega arith
