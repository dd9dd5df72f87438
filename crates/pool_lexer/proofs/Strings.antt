-- The end of the inside of a string.
use Rattle.std.proofs.Common.{◌≡◌, ℕ, zero, suc, ◌<◌, ◌≤◌, false, nat_eq, [], ◌∷◌, length, take, get_or, refl, arith}
use Rattle.std.specs.List.{prefix_len}
use Rattle.std.proofs.lemmas.Bool.Decides.{nat_tests}
use Rattle.text_scan.specs.Text.{Text, is_inner}
use Rattle.pool_syntax.specs.Tokens.{is_rest_of_string}

-- not before the end of the bytes that may stand inside
pub rest_short : (k : ℕ) (s : Text) → k ≤ prefix_len is_inner s → is_rest_of_string (take k s) ≡ false
rest_short zero s h = refl
rest_short (suc k) [] h = refl
rest_short (suc zero) (b ∷ bs) h = grind (arith, nat_tests)
rest_short (suc (suc k)) (b ∷ []) h = grind (arith, nat_tests)
rest_short (suc (suc k)) (b ∷ c ∷ cs) h = grind (arith, nat_tests, rest_short (suc k) (c ∷ cs))

-- at their end, where the byte there is a quote
pub rest_at : (n : ℕ) (s : Text) → prefix_len is_inner s ≡ n → n < length s → is_rest_of_string (take (suc n) s) ≡ nat_eq (get_or s n 0) 34
rest_at n [] e some = absurd (omega arith)
rest_at zero (b ∷ bs) e some = refl
rest_at (suc n) (b ∷ []) e some = absurd (omega arith)
rest_at (suc n) (b ∷ c ∷ cs) e some = grind (arith, rest_at n (c ∷ cs))

-- and not behind it
pub rest_long : (n k : ℕ) (s : Text) → prefix_len is_inner s ≡ n → suc n < k → k ≤ length s → is_rest_of_string (take k s) ≡ false
rest_long n zero s e past within = absurd (omega arith)
rest_long n (suc zero) s e past within = absurd (omega arith)
rest_long n (suc (suc k)) [] e past within = absurd (omega arith)
rest_long n (suc (suc k)) (b ∷ []) e past within = absurd (omega arith)
rest_long zero (suc (suc k)) (b ∷ c ∷ cs) e past within = grind arith
rest_long (suc n) (suc (suc k)) (b ∷ c ∷ cs) e past within = grind (arith, rest_long n (suc k) (c ∷ cs))
