-- Laws of the numbers that words of digits spell.
use Rattle.std.proofs.Common.{◌≡◌, ℕ, ◌+◌, ◌-◌, ◌*◌, ◌<◌, ◌≤◌, true, false, [], ◌∷◌, length, get_or, ◌⊎◌, inl, inr, nat_le, refl, arith}
use Rattle.std.specs.List.{prefix_len}
use Rattle.std.proofs.lemmas.Bool.Decides.{nat_tests}
use Rattle.std.proofs.lemmas.List.Sums.{prefix_len_passes}
use Rattle.text_scan.specs.Text.{Text, is_digit, is_integer, value_of_digits}
use Rattle.text_scan.specs.declared.spans.Decimal.TheVariants.{NotDigits, TooLarge, Value}
use Rattle.text_scan.specs.Lines.{decimal_of}
use Rattle.text_scan.proofs.ByteRuns.{every_all, every_not}

-- a digit is between these two
pub digit_bounds : (b : ℕ) → is_digit b ≡ true → (48 ≤ b) × (b ≤ 57)
digit_bounds b e = (grind (arith, nat_tests), grind (arith, nat_tests))

pub digit_at : (w : Text) (k : ℕ) → k < prefix_len is_digit w → (48 ≤ get_or w k 0) × (get_or w k 0 ≤ 57)
digit_at w k h = digit_bounds (get_or w k 0) (prefix_len_passes is_digit w k 0 h)

-- more digits make no smaller number
pub value_grows : (v : ℕ) (ds : Text) → v ≤ value_of_digits v ds
value_grows v [] = omega arith
value_grows v (d ∷ ds) = omega (arith, value_grows (v * 10 + (d - 48)) ds)

-- which words are of digits
pub integer : (w : Text) → 0 < length w → length w ≤ prefix_len is_digit w → is_integer w ≡ true
integer [] some h = absurd (omega arith)
integer (b ∷ bs) some h = every_all is_digit (b ∷ bs) h

pub no_integer : (w : Text) → (length w ≡ 0) ⊎ (prefix_len is_digit w < length w) → is_integer w ≡ false
no_integer [] h = refl
no_integer (b ∷ bs) (inl h) = absurd (omega arith)
no_integer (b ∷ bs) (inr h) = every_not is_digit (b ∷ bs) h

-- what they spell
pub decimal_not_digits : (w : Text) → is_integer w ≡ false → decimal_of w ≡ NotDigits
decimal_not_digits w e = rw (decimal_of, e)

pub decimal_too_large : (w : Text) → is_integer w ≡ true → 9223372036854775807 < value_of_digits 0 w → decimal_of w ≡ TooLarge
decimal_too_large w e large =
    let test : nat_le (value_of_digits 0 w) 9223372036854775807 ≡ false = grind (arith, nat_tests) in
    rw (decimal_of, e, test)

pub decimal_value : (w : Text) → is_integer w ≡ true → value_of_digits 0 w ≤ 9223372036854775807 → decimal_of w ≡ Value (value_of_digits 0 w)
decimal_value w e small =
    let test : nat_le (value_of_digits 0 w) 9223372036854775807 ≡ true = grind (arith, nat_tests) in
    rw (decimal_of, e, test)
