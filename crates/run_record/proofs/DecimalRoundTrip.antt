-- Decimals are read back as their numbers.
use Rattle.std.proofs.Common.{◌≡◌, refl, ap, ◌∙◌, ℕ, ◌^◌, ◌<◌, ◌≤◌, Bool, true, false, nat_le, nat_lt, bytes_eq, [], ◌∷◌, length, Some, decimal, arith, rules, le-leb}
use Rattle.std.proofs.lemmas.Bool.{and_from}
use Rattle.std.proofs.lemmas.Bool.Decides.{nat_tests}
use Rattle.std.proofs.lemmas.Fmt.{decimal_nonempty, digits_decimal, digits_value-decimal}
use Rattle.std.proofs.lemmas.Slice.Eq.{bytes_eq-Decides}
use Rattle.std.proofs.lemmas.Str.Parse.{IsNumeralModel, numerals_by_fold}
use Rattle.text_scan.specs.Text.{Text, every, is_digit, is_integer, value_of_digits}
use Rattle.text_scan.specs.declared.spans.Decimal.TheVariants.{Value as Spelled}
use Rattle.text_scan.specs.Lines.{decimal_of}
use Rattle.record_parser.specs.Fields.{count_of, number_of, positive_of, spelled_below}
use Rattle.run_types.specs.Partial.{only_if, ◌>>=◌}
use Rattle.run_record.proofs.WordSplit.{every_weaker, is_dark}

-- the tests and the number of digits are those of the standard library
own : IsNumeralModel (λ w. every is_digit w ≡ true) (value_of_digits 0)
own = numerals_by_fold (λ w. every is_digit w ≡ true) (search rules) value_of_digits (search rules)

-- a decimal is of digits
pub decimal_digits : (n : ℕ) → n < 2 ^ 64 → every is_digit (decimal n) ≡ true
decimal_digits n small = digits_decimal own n small

-- and they spell its number
pub decimal_number : (n : ℕ) → n < 2 ^ 64 → value_of_digits 0 (decimal n) ≡ n
decimal_number n small = digits_value-decimal own n small

-- digits, at least one, are an integer's text
integer_is : (w : Text) → 0 < length w → every is_digit w ≡ true → is_integer w ≡ true
integer_is [] some h = absurd (omega arith)
integer_is (b ∷ bs) some h = h

-- a digit is above the space
digit_dark : (b : ℕ) → is_digit b ≡ true → is_dark b ≡ true
digit_dark b h = grind (arith, nat_tests)

-- a decimal has no space
pub decimal_dark : (n : ℕ) → n < 2 ^ 64 → every is_dark (decimal n) ≡ true
decimal_dark n small = every_weaker is_digit is_dark digit_dark (decimal n) (decimal_digits n small)

-- a text that passes a test is none that does not
pub differs : (test : Text → Bool) (w x : Text) → test w ≡ true → test x ≡ false → bytes_eq w x ≡ false
differs test w x passes fails = by (bytes_eq w x) refl
  where
    by : (q : Bool) → bytes_eq w x ≡ q → q ≡ false
    by true e = absurd (let same = ap test ((bytes_eq-Decides w x).0 e) in cc)
    by false e = refl

-- a text is the same as itself
pub same_text : (w : Text) → bytes_eq w w ≡ true
same_text w = (bytes_eq-Decides w w).1 refl

-- a word of digits is its number, below 2 ^ 63
decimal_value : (w : Text) (n : ℕ) → is_integer w ≡ true → value_of_digits 0 w ≡ n → n ≤ 9223372036854775807 → decimal_of w ≡ Spelled n
decimal_value w n digits e small =
    let test : nat_le (value_of_digits 0 w) 9223372036854775807 ≡ true = le-leb (value_of_digits 0 w) 9223372036854775807 (omega arith) in
    rw (decimal_of, digits, test) (ap Spelled e)

-- a decimal below 2 ^ 63 is read as its number
decimal_read : (n : ℕ) → n < 9223372036854775808 → decimal_of (decimal n) ≡ Spelled n
decimal_read n small = decimal_value (decimal n) n (integer_is (decimal n) (decimal_nonempty n (omega arith)) (decimal_digits n (omega arith))) (decimal_number n (omega arith)) (omega arith)

-- a number below a limit of at most 2 ^ 63 is read
pub number_read : (limit n : ℕ) → n < limit → limit ≤ 9223372036854775808 → number_of limit (decimal n) ≡ Some n
number_read limit n small low =
    ap (spelled_below limit (decimal n)) (decimal_read n (omega arith))
    ∙ ap (λ b. only_if b (Some n)) (and_from (nat_lt n limit) (bytes_eq (decimal n) (decimal n)) (grind (arith, nat_tests)) (same_text (decimal n)))

-- a count is read
pub count_read : (n : ℕ) → n < 4294967296 → count_of (decimal n) ≡ Some n
count_read n small = number_read 4294967296 n small (omega arith)

-- and so is a count that is not 0
pub positive_read : (n : ℕ) → 0 < n → n < 4294967296 → positive_of (decimal n) ≡ Some n
positive_read n some small =
    ap (λ o. o >>= λ m. only_if (nat_lt 0 m) (Some m)) (count_read n small)
    ∙ ap (λ b. only_if b (Some n)) (let above : nat_lt 0 n ≡ true = grind (arith, nat_tests) in above)
