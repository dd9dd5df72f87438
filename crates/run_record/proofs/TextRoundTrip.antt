-- Names and strings are read back.
use Rattle.std.proofs.Common.{◌≡◌, refl, ap, ◌∙◌, ℕ, ◌+◌, ◌-◌, ◌≤◌, true, ◌&&◌, ◌||◌, nat_eq, nat_le, [], ◌∷◌, ◌++◌, length, take, length-append, get_or-append-add, slice_index, slice_range, Some, is_none, arith, le-leb, eq-eqb}
use Rattle.std.proofs.Math.Seq.{take-append_seam}
use Rattle.std.proofs.lemmas.Bool.{and_from, and_parts}
use Rattle.std.proofs.lemmas.Bool.Decides.{nat_tests}
use Rattle.text_scan.specs.Text.{Text, every, is_digit, is_inner, is_letter, is_word, lookup}
use Rattle.text_scan.specs.Keywords.{keywords}
use Rattle.record_parser.specs.Fields.{is_name, name_of_word, string_of}
use Rattle.run_types.specs.Partial.{only_if}
use Rattle.run_record.proofs.WordSplit.{every_append, every_weaker, is_dark, is_shown}

-- the text of a name is read
pub name_read : (w : Text) → is_name w ≡ true → name_of_word w ≡ Some w
name_read w h = ap (λ q. only_if q (Some w)) h

-- a letter is above the space
letter_dark : (b : ℕ) → is_letter b ≡ true → is_dark b ≡ true
letter_dark b h = grind (arith, nat_tests)

-- and so is each byte of a name
name_byte_dark : (b : ℕ) → (is_letter b || is_digit b) ≡ true → is_dark b ≡ true
name_byte_dark b h = grind (arith, nat_tests)

-- a word has no space
word_dark : (w : Text) → is_word w ≡ true → every is_dark w ≡ true
word_dark [] h = refl
word_dark (b ∷ bs) h =
    let both = and_parts (is_letter b) (every (λ c. is_letter c || is_digit c) bs) h in
    and_from (is_dark b) (every is_dark bs) (letter_dark b both.0) (every_weaker (λ c. is_letter c || is_digit c) is_dark name_byte_dark bs both.1)

-- a name is a word
pub name_dark : (w : Text) → is_name w ≡ true → every is_dark w ≡ true
name_dark w h =
    let both = and_parts (is_word w && nat_le (length w) 64) (is_none (lookup keywords w)) h in
    word_dark w (and_parts (is_word w) (nat_le (length w) 64) both.0).0

-- strings

-- a string in its quotes
abbrev pub quoted : Text → Text
quoted w = 34 ∷ (w ++ 34 ∷ [])

-- the quotes are two bytes more
quoted_length : (w : Text) → length (quoted w) ≡ length w + 2
quoted_length w = omega (arith, length-append w (34 ∷ []))

-- its last byte is a quote
last_quote : (w : Text) → slice_index (quoted w) (length (quoted w) - 1) ≡ 34
last_quote w =
    ap (slice_index (quoted w)) (let e : length (quoted w) - 1 ≡ length (34 ∷ w) + 0 = omega (arith, quoted_length w) in e)
    ∙ get_or-append-add (34 ∷ w) (34 ∷ []) 0 0

-- what stands between the quotes
inside_is : (w : Text) → slice_range (quoted w) 1 (length (quoted w) - 1) ≡ w
inside_is w =
    ap (λ n. take n (w ++ 34 ∷ [])) (let e : length (quoted w) - 1 - 1 ≡ length w = omega (arith, quoted_length w) in e) ∙ take-append_seam w (34 ∷ [])

-- a string of at most 256 bytes is read
pub string_read : (w : Text) → length w ≤ 256 → every is_inner w ≡ true → string_of (quoted w) ≡ Some w
string_read w short inner =
    let size = quoted_length w in
    let low : nat_le 2 (length (quoted w)) ≡ true = le-leb 2 (length (quoted w)) (omega arith) in
    let high : nat_le (length (quoted w)) 258 ≡ true = le-leb (length (quoted w)) 258 (omega arith) in
    let sizes = and_from (nat_le 2 (length (quoted w))) (nat_le (length (quoted w)) 258) low high in
    let last = eq-eqb (slice_index (quoted w) (length (quoted w) - 1)) 34 (last_quote w) in
    let inside = ap (every is_inner) (inside_is w) ∙ inner in
    let rest = and_from (nat_eq 34 34 && nat_eq (slice_index (quoted w) (length (quoted w) - 1)) 34) (every is_inner (slice_range (quoted w) 1 (length (quoted w) - 1))) last inside in
    let all = and_from (nat_le 2 (length (quoted w)) && nat_le (length (quoted w)) 258)
    ((nat_eq 34 34 && nat_eq (slice_index (quoted w) (length (quoted w) - 1)) 34) && every is_inner (slice_range (quoted w) 1 (length (quoted w) - 1))) sizes rest in
    ap (λ q. only_if q (Some (slice_range (quoted w) 1 (length (quoted w) - 1)))) all ∙ ap Some (inside_is w)

-- a byte of a string is not below the space
inner_shown : (b : ℕ) → is_inner b ≡ true → is_shown b ≡ true
inner_shown b h = grind (arith, nat_tests)

-- a string in its quotes has no byte below the space
pub string_shown : (w : Text) → every is_inner w ≡ true → every is_shown (quoted w) ≡ true
string_shown w h = every_append is_shown w (34 ∷ []) (every_weaker is_inner is_shown inner_shown w h) refl
