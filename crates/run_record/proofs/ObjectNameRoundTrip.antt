-- The names of objects are read back, and the text of an integer is no such name.
use Rattle.std.proofs.Common.{◌≡◌, refl, ap, ◌∙◌, ℕ, ◌+◌, ◌-◌, ◌*◌, ◌/◌, ◌%◌, ◌<◌, true, false, nat_eq, [], ◌∷◌, ◌++◌, length, take, length-append, slice_range, Option, Some, None, decimal, arith}
use Rattle.std.proofs.Math.Seq.{take-append_seam, drop-append-add, take-length}
use Rattle.std.proofs.lemmas.Bool.{and_parts}
use Rattle.std.proofs.lemmas.Bool.Decides.{nat_tests}
use Rattle.text_scan.specs.Text.{Text, every, is_digit}
use Rattle.record_writer.specs.RecordText.{object_text}
use Rattle.record_parser.specs.Fields.{halves_of, number_of, object_of, point_from}
use Rattle.run_types.specs.Partial.{◌>>=◌}
use Rattle.run_record.proofs.WordSplit.{every_append, is_dark}
use Rattle.run_record.proofs.DecimalRoundTrip.{decimal_dark, decimal_digits, number_read}

-- a digit is no point
digit_no_point : (b : ℕ) → is_digit b ≡ true → nat_eq b 46 ≡ false
digit_no_point b h = grind (arith, nat_tests)

-- digits have no point
pub no_point : (at : ℕ) (w : Text) → every is_digit w ≡ true → point_from at w ≡ None
no_point at [] h = refl
no_point at (b ∷ bs) h =
    let both = and_parts (is_digit b) (every is_digit bs) h in
    ap (λ q. elim q as (λ x. Option ℕ) [ true ↦ Some at | false ↦ point_from (at + 1) bs ]) (digit_no_point b both.0) ∙ no_point (at + 1) bs both.1

-- the first point stands behind the digits
pub point_behind : (at place : ℕ) (w rest : Text) → every is_digit w ≡ true → place ≡ at + length w → point_from at (w ++ 46 ∷ rest) ≡ Some place
point_behind at place [] rest h e = ap Some (omega arith)
point_behind at place (b ∷ bs) rest h e =
    let both = and_parts (is_digit b) (every is_digit bs) h in
    ap (λ q. elim q as (λ x. Option ℕ) [ true ↦ Some at | false ↦ point_from (at + 1) (bs ++ 46 ∷ rest) ]) (digit_no_point b both.0)
    ∙ point_behind (at + 1) place bs rest both.1 (omega arith)

-- the texts before and behind it
front_half : (v w : Text) → slice_range (v ++ w) 0 (length v) ≡ v
front_half v w = ap (λ n. take n (v ++ w)) (let e : length v - 0 ≡ length v = omega arith in e) ∙ take-append_seam v w

-- the text behind the point
back_half : (v w : Text) → slice_range (v ++ 46 ∷ w) (length v + 1) (length (v ++ 46 ∷ w)) ≡ w
back_half v w =
    ap (take (length (v ++ 46 ∷ w) - (length v + 1))) (drop-append-add v (46 ∷ w) 1)
    ∙ (ap (λ n. take n w) (let e : length (v ++ 46 ∷ w) - (length v + 1) ≡ length w = omega (arith, length-append v (46 ∷ w)) in e) ∙ take-length w)

-- the two numbers beside the point make the name
halves_read : (v w : Text) (node slot : ℕ) → number_of 65536 v ≡ Some node → number_of 65536 w ≡ Some slot → halves_of (v ++ 46 ∷ w) (length v) ≡ Some (node * 65536 + slot)
halves_read v w node slot first second =
    ap (λ t. number_of 65536 t >>= λ n. number_of 65536 (slice_range (v ++ 46 ∷ w) (length v + 1) (length (v ++ 46 ∷ w))) >>= λ s. Some (n * 65536 + s)) (front_half v (46 ∷ w))
    ∙ (ap (λ o. o >>= λ n. number_of 65536 (slice_range (v ++ 46 ∷ w) (length v + 1) (length (v ++ 46 ∷ w))) >>= λ s. Some (n * 65536 + s)) first
    ∙ (ap (λ t. number_of 65536 t >>= λ s. Some (node * 65536 + s)) (back_half v w)
    ∙ ap (λ o. o >>= λ s. Some (node * 65536 + s)) second))

-- the name of an object is read
pub object_read : (o : ℕ) → o < 4294967296 → object_of (object_text o) ≡ Some o
object_read o small =
    let v = decimal (o / 65536) in
    let w = decimal (o % 65536) in
    let first : number_of 65536 v ≡ Some (o / 65536) = number_read 65536 (o / 65536) (omega arith) (omega arith) in
    let second : number_of 65536 w ≡ Some (o % 65536) = number_read 65536 (o % 65536) (omega arith) (omega arith) in
    let digits : every is_digit v ≡ true = decimal_digits (o / 65536) (omega arith) in
    ap (λ p. p >>= halves_of (v ++ 46 ∷ w)) (point_behind 0 (length v) v w digits (omega arith))
    ∙ (halves_read v w (o / 65536) (o % 65536) first second ∙ ap Some (let e : o / 65536 * 65536 + o % 65536 ≡ o = omega arith in e))

-- it has no space
pub object_dark : (o : ℕ) → o < 4294967296 → every is_dark (object_text o) ≡ true
object_dark o small =
    every_append is_dark (decimal (o / 65536)) (46 ∷ decimal (o % 65536)) (decimal_dark (o / 65536) (omega arith)) (decimal_dark (o % 65536) (omega arith))
