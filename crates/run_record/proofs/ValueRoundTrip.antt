-- Values and errors are read back.
use Rattle.std.proofs.Common.{◌≡◌, refl, sym, ap, ◌∙◌, ℕ, zero, suc, ◌-◌, ◌/◌, ◌%◌, ◌^◌, ◌<◌, ◌≤◌, ℤ, pos, negsuc, neg_ℤ, int_le, int_lt, Bool, true, false, ◌&&◌, nat_eq, nat_le, nat_lt, bytes_eq, codes, List, [], ◌∷◌, ◌++◌, map, length, take, append-nil, slice_range, Option, Some, None, decimal, arith, inl, inr}
use Rattle.std.specs.Fmt.{digits, signed_decimal}
use Rattle.std.proofs.Math.Seq.{take-length}
use Rattle.std.proofs.lemmas.Bool.{and_parts, cases_lt}
use Rattle.std.proofs.lemmas.Bool.Decides.{nat_tests}
use Rattle.std.proofs.lemmas.Fmt.{decimal_nonempty}
use Rattle.std.proofs.lemmas.Int.{ints}
use Rattle.std.proofs.lemmas.Slice.Eq.{bytes_eq-Decides}
use Rattle.text_scan.specs.Text.{Text, every, is_digit, value_of_digits}
use Rattle.run_types.specs.Values.{is_in_range}
use Rattle.run_types.specs.declared.types.Value.{Value}
use Rattle.run_types.specs.declared.types.Value.TheVariants as V
use Rattle.run_types.specs.declared.types.Error.{Error}
use Rattle.run_types.specs.declared.types.Error.TheVariants as error
use Rattle.record_writer.specs.RecordText.{error_text, object_text, value_text}
use Rattle.record_parser.specs.Fields.{begins_with, error_of, integer_of, name_or_integer, negative_of, number_of, object_of, halves_of, value_of, values_within}
use Rattle.run_types.specs.Partial.{only_if, ◌>>=◌}
use Rattle.run_record.specs.Readable.{AreReadableValues, IsReadableValue}
use Rattle.run_record.proofs.WordSplit.{AreDark, is_dark}
use Rattle.run_record.proofs.DecimalRoundTrip.{decimal_dark, decimal_digits, decimal_number, differs, number_read}
use Rattle.run_record.proofs.ObjectNameRoundTrip.{no_point, object_dark, object_read}

-- the first byte of a number or of an object's name
abbrev pub starts_number : Text → Bool
starts_number [] = false
starts_number (b ∷ bs) = nat_le 45 b && nat_le b 57

-- a digit may start a number
digit_starts : (b : ℕ) → is_digit b ≡ true → (nat_le 45 b && nat_le b 57) ≡ true
digit_starts b h = grind (arith, nat_tests)

-- a text that begins with digits starts as a number
first_digit : (w rest : Text) → 0 < length w → every is_digit w ≡ true → starts_number (w ++ rest) ≡ true
first_digit [] rest some h = absurd (omega arith)
first_digit (b ∷ bs) rest some h = digit_starts b (and_parts (is_digit b) (every is_digit bs) h).0

-- a digit is no minus
no_minus : (b : ℕ) → is_digit b ≡ true → nat_eq b 45 ≡ false
no_minus b h = grind (arith, nat_tests)

-- digits do not begin with a minus
digits_no_minus : (w : Text) → every is_digit w ≡ true → begins_with 45 w ≡ false
digits_no_minus [] h = refl
digits_no_minus (b ∷ bs) h = no_minus b (and_parts (is_digit b) (every is_digit bs) h).0

-- a decimal starts as a number
decimal_starts : (n : ℕ) → n < 2 ^ 64 → starts_number (decimal n) ≡ true
decimal_starts n small = ap starts_number (sym (append-nil (decimal n))) ∙ first_digit (decimal n) [] (decimal_nonempty n small) (decimal_digits n small)

-- integers

-- an integer from 0 on is below 2 ^ 63
range_pos : (n : ℕ) → is_in_range (pos n) ≡ true → n < 9223372036854775808
range_pos n h = let both = and_parts (int_le (negsuc (2 ^ 63 - 1)) (pos n)) (int_lt (pos n) (pos (2 ^ 63))) h in grind (arith, ints)

-- one below 0 is at least -2 ^ 63
range_negsuc : (n : ℕ) → is_in_range (negsuc n) ≡ true → n ≤ 9223372036854775807
range_negsuc n h = let both = and_parts (int_le (negsuc (2 ^ 63 - 1)) (negsuc n)) (int_lt (negsuc n) (pos (2 ^ 63))) h in grind (arith, ints)

-- the text of 2 ^ 63
largest : decimal 9223372036854775808 ≡ codes "9223372036854775808"
unfolding digits
largest = refl

-- an integer below 0

-- only 2 ^ 63 has this text
least_is : (n : ℕ) → n ≤ 9223372036854775807 → decimal (suc n) ≡ codes "9223372036854775808" → n ≡ 9223372036854775807
least_is n small e =
    let spelled : value_of_digits 0 (decimal (suc n)) ≡ suc n = decimal_number (suc n) (omega arith) in
    let same : value_of_digits 0 (decimal (suc n)) ≡ 9223372036854775808 = ap (value_of_digits 0) e in
    omega arith

-- 2 ^ 63 has it
least_text : (n : ℕ) → n ≡ 9223372036854775807 → bytes_eq (decimal (suc n)) (codes "9223372036854775808") ≡ true
least_text n e = (bytes_eq-Decides (decimal (suc n)) (codes "9223372036854775808")).1 (ap (λ k. decimal (suc k)) e ∙ largest)

-- what stands behind a minus is read
negative_read : (n : ℕ) → n ≤ 9223372036854775807 → negative_of (decimal (suc n)) ≡ Some (negsuc n)
negative_read n small = by (bytes_eq (decimal (suc n)) (codes "9223372036854775808")) refl
  where
    by : (q : Bool) → bytes_eq (decimal (suc n)) (codes "9223372036854775808") ≡ q
        → elim q as (λ x. Option ℤ) [
          | true ↦ Some (negsuc 9223372036854775807)
          | false ↦ number_of 9223372036854775808 (decimal (suc n)) >>= λ k. only_if (nat_lt 0 k) (Some (neg_ℤ (pos k)))
        ]
        ≡ Some (negsuc n)
    by true e = ap (λ k. Some (negsuc k)) (sym (least_is n small ((bytes_eq-Decides (decimal (suc n)) (codes "9223372036854775808")).0 e)))
    by false e =
        let less : suc n < 9223372036854775808 = elim (cases_lt (suc n) 9223372036854775808) [
          | inl h ↦ h
          | inr h ↦ absurd (let same = least_text n (omega arith) in cc)
        ] in
        ap (λ o. o >>= λ k. only_if (nat_lt 0 k) (Some (neg_ℤ (pos k)))) (number_read 9223372036854775808 (suc n) less (omega arith))
        ∙ ap (λ q. only_if q (Some (negsuc n))) (let above : nat_lt 0 (suc n) ≡ true = grind (arith, nat_tests) in above)

-- a text without its first byte
without_first : (b : ℕ) (w : Text) → slice_range (b ∷ w) 1 (length (b ∷ w)) ≡ w
without_first b w = ap (λ n. take n w) (let e : suc (length w) - 1 ≡ length w = omega arith in e) ∙ take-length w

-- an integer is read
integer_read : (z : ℤ) → is_in_range z ≡ true → integer_of (signed_decimal z) ≡ Some z
integer_read (pos n) h =
    let small = range_pos n h in
    ap (λ q. elim q as (λ x. Option ℤ) [ true ↦ negative_of (slice_range (decimal n) 1 (length (decimal n))) | false ↦ number_of 9223372036854775808 (decimal n) >>= λ k. Some (pos k) ]) (digits_no_minus (decimal n) (decimal_digits n (omega arith)))
    ∙ ap (λ o. o >>= λ k. Some (pos k)) (number_read 9223372036854775808 n small (omega arith))
integer_read (negsuc n) h = ap negative_of (without_first 45 (decimal (suc n))) ∙ negative_read n (range_negsuc n h)

-- an integer is no object's name
integer_no_object : (z : ℤ) → is_in_range z ≡ true → object_of (signed_decimal z) ≡ None
integer_no_object (pos n) h = let small = range_pos n h in ap (λ p. p >>= halves_of (decimal n)) (no_point 0 (decimal n) (decimal_digits n (omega arith)))
integer_no_object (negsuc n) h =
    let small = range_negsuc n h in
    ap (λ p. p >>= halves_of (45 ∷ decimal (suc n))) (no_point 1 (decimal (suc n)) (decimal_digits (suc n) (omega arith)))

-- an integer starts as a number
integer_starts : (z : ℤ) → is_in_range z ≡ true → starts_number (signed_decimal z) ≡ true
integer_starts (pos n) h = let small = range_pos n h in decimal_starts n (omega arith)
integer_starts (negsuc n) h = refl

-- values

-- a number is none of the words
value_of_number : (w : Text) → starts_number w ≡ true → value_of w ≡ name_or_integer w (object_of w)
value_of_number w h =
    let first = differs starts_number w (codes "true") h refl in
    let second = differs starts_number w (codes "false") h refl in
    let third = differs starts_number w (codes "nil") h refl in
    let last = name_or_integer w (object_of w) in
    let on_nil = λ (q : Bool). elim q as (λ x. Option Value) [ true ↦ Some V.Nil | false ↦ last ] in
    let on_false = λ (q : Bool). elim q as (λ x. Option Value) [ true ↦ Some (V.Bool false) | false ↦ on_nil (bytes_eq w (codes "nil")) ] in
    let on_true = λ (q : Bool). elim q as (λ x. Option Value) [ true ↦ Some (V.Bool true) | false ↦ on_false (bytes_eq w (codes "false")) ] in
    ap on_true first ∙ (ap on_false second ∙ ap on_nil third)

-- an integer is read as a value
value_int : (z : ℤ) → is_in_range z ≡ true → value_of (signed_decimal z) ≡ Some (V.Int z)
value_int z h =
    value_of_number (signed_decimal z) (integer_starts z h)
    ∙ (ap (name_or_integer (signed_decimal z)) (integer_no_object z h) ∙ ap (λ o. o >>= λ k. Some (V.Int k)) (integer_read z h))

-- an object's name starts as a number
object_starts : (o : ℕ) → o < 4294967296 → starts_number (object_text o) ≡ true
object_starts o h =
    first_digit (decimal (o / 65536)) (46 ∷ decimal (o % 65536)) (decimal_nonempty (o / 65536) (omega arith)) (decimal_digits (o / 65536) (omega arith))

-- an object's name is read as a value
value_object : (o : ℕ) → o < 4294967296 → value_of (object_text o) ≡ Some (V.Ref o)
value_object o h = value_of_number (object_text o) (object_starts o h) ∙ ap (name_or_integer (object_text o)) (object_read o h)

-- each value is read
pub value_read : (v : Value) → IsReadableValue v → value_of (value_text v) ≡ Some v
value_read (V.Int z) h = value_int z h
value_read (V.Bool true) h = refl
value_read (V.Bool false) h = refl
value_read (V.Ref o) h = value_object o h
value_read V.Nil h = refl

-- a value has no space, and is no string
pub value_dark : (v : Value) → IsReadableValue v → every is_dark (value_text v) ≡ true
value_dark (V.Int (pos n)) h = let small = range_pos n h in decimal_dark n (omega arith)
value_dark (V.Int (negsuc n)) h = let small = range_negsuc n h in decimal_dark (suc n) (omega arith)
value_dark (V.Bool true) h = refl
value_dark (V.Bool false) h = refl
value_dark (V.Ref o) h = object_dark o h
value_dark V.Nil h = refl

-- a number does not begin with a quote
no_quote : (w : Text) → starts_number w ≡ true → begins_with 34 w ≡ false
no_quote [] h = refl
no_quote (b ∷ bs) h = grind (arith, nat_tests)

-- no value begins with a quote
pub value_no_string : (v : Value) → IsReadableValue v → begins_with 34 (value_text v) ≡ false
value_no_string (V.Int z) h = no_quote (signed_decimal z) (integer_starts z h)
value_no_string (V.Bool true) h = refl
value_no_string (V.Bool false) h = refl
value_no_string (V.Ref o) h = no_quote (object_text o) (object_starts o h)
value_no_string V.Nil h = refl

-- values have no spaces
pub values_dark : (vs : List Value) → AreReadableValues vs → AreDark (map value_text vs)
values_dark [] h = tt
values_dark (v ∷ vs) h = (value_dark v h.0, values_dark vs h.1)

-- at most so many values are read
pub values_read : (n : ℕ) (vs : List Value) → length vs ≤ n → AreReadableValues vs → values_within n (map value_text vs) ≡ Some vs
values_read n [] low h = refl
values_read zero (v ∷ vs) low h = absurd (omega arith)
values_read (suc n) (v ∷ vs) low h =
    ap (λ o. o >>= λ x. values_within n (map value_text vs) >>= λ xs. Some (x ∷ xs)) (value_read v h.0)
    ∙ ap (λ o. o >>= λ xs. Some (v ∷ xs)) (values_read n vs (omega arith) h.1)

-- errors

-- the word for an error is read
pub error_read : (e : Error) → error_of (error_text e) ≡ Some e
error_read error.NilDestination = refl
error_read error.NilOperand = refl
error_read error.Overflow = refl
error_read error.ZeroDivisor = refl
error_read error.NoOpenGuard = refl

-- it has no space
pub error_dark : (e : Error) → every is_dark (error_text e) ≡ true
error_dark error.NilDestination = refl
error_dark error.NilOperand = refl
error_dark error.Overflow = refl
error_dark error.ZeroDivisor = refl
error_dark error.NoOpenGuard = refl
