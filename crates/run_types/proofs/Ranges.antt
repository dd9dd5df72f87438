-- Ranges of numbers, built one number at a time.
use Rattle.std.proofs.Common.{◌≡◌, ℕ, suc, ◌+◌, ◌-◌, ◌<◌, List, ◌∷◌, ◌++◌, sym, ap, ◌∙◌, arith, append_assoc}
use Rattle.std.specs.List.{range_with_len}

-- numbers from i on, if there are any, are i and those behind it
pub range_step : (i n : ℕ) → i < n → range_with_len i (n - i) ≡ i ∷ range_with_len (i + 1) (n - (i + 1))
range_step i n h = let e : n - i ≡ suc (n - (i + 1)) = omega arith in ap (range_with_len i) e

-- what comes first and what is left are all
pub more : {A : Type 0} (f : List ℕ → List A) (first : ℕ → List A) → ((k : ℕ) (ks : List ℕ) → f (k ∷ ks) ≡ first k ++ f ks)
    → (i n : ℕ) → i < n → (xs all : List A) → xs ++ f (range_with_len i (n - i)) ≡ all → (xs ++ first i) ++ f (range_with_len (i + 1) (n - (i + 1))) ≡ all
more f first step i n h xs all e =
    append_assoc xs (first i) (f (range_with_len (i + 1) (n - (i + 1))))
    ∙ ap (λ ys. xs ++ ys) (sym (step i (range_with_len (i + 1) (n - (i + 1)))))
    ∙ ap (λ ks. xs ++ f ks) (sym (range_step i n h))
    ∙ e
