-- Texts that are the longest piece before a space or a line feed: words, integers and strings.
use Rattle.std.proofs.Common.{◌≡◌, refl, sym, ap, ◌∙◌, ℕ, ◌+◌, ◌-◌, ◌*◌, ◌/◌, ◌%◌, ◌^◌, ◌<◌, ◌≤◌, Bool, true, false, nat_le, List, [], ◌∷◌, ◌++◌, length, take, drop, Some, None, decimal, append_assoc, length-append, arith}
use Rattle.std.specs.List.{prefix_len}
use Rattle.std.proofs.lemmas.Bool.{and_from, and_left, and_parts, le-leb}
use Rattle.std.proofs.lemmas.Bool.Decides.{nat_tests}
use Rattle.std.proofs.lemmas.List.{take_at, get_or_at}
use Rattle.std.proofs.lemmas.Fmt.{decimal_by_steps}
use Rattle.text_scan.specs.Text.{Text, every, is_space, is_digit, is_letter, is_inner, is_word, is_integer, value_of_digits}
use Rattle.pool_syntax.specs.Tokens.{is_string, is_rest_of_string, longest, piece_fault}
use Rattle.pool_syntax.specs.declared.token.LexFault.TheVariants.{IntegerTooLarge, TooLong}
use Rattle.text_scan.specs.ByteSets.{is_in}
use Rattle.text_scan.specs.declared.scan.ByteSet.TheVariants.{NameByte, Digit}
use Rattle.pool_lexer.specs.declared.piece.Kind.TheVariants.{Word, Integer}
use Rattle.pool_lexer.proofs.Laws.{word_run, integer_run, longest_run, longest_string}

-- the byte between two tokens: a line feed or a space
abbrev pub gap_byte : Bool → ℕ
gap_byte true = 10
gap_byte false = 32

-- The text is a faultless piece, the longest where such a byte follows, and begins with no white space.
pub record Stands (w : Text) : Type 0 where
  pub some : 1 ≤ length w
  pub begins : (rest : Text) → prefix_len is_space (w ++ rest) ≡ 0
  pub longest_is : (k : Bool) (rest : Text) → longest (w ++ gap_byte k ∷ rest) ≡ length w
  pub faultless : piece_fault 0 w ≡ None

-- a run that a byte ends
run_ends : (p : ℕ → Bool) (w : Text) (b : ℕ) (rest : Text) → every p w ≡ true → p b ≡ false → prefix_len p (w ++ b ∷ rest) ≡ length w
run_ends p [] b rest h e = rw e refl
run_ends p (x ∷ xs) b rest h e = grind (arith, run_ends p xs b rest)

no_space : (b : ℕ) (rest : Text) → is_space b ≡ false → prefix_len is_space (b ∷ rest) ≡ 0
no_space b rest e = rw e refl

gap_no_name : (k : Bool) → is_in NameByte (gap_byte k) ≡ false
gap_no_name true = refl
gap_no_name false = refl

gap_no_digit : (k : Bool) → is_digit (gap_byte k) ≡ false
gap_no_digit true = refl
gap_no_digit false = refl

letter_no_space : (b : ℕ) → is_letter b ≡ true → is_space b ≡ false
letter_no_space b h = grind (arith, nat_tests)

digit_no_space : (b : ℕ) → is_digit b ≡ true → is_space b ≡ false
digit_no_space b h = grind (arith, nat_tests)

digit_no_letter : (b : ℕ) → is_digit b ≡ true → is_letter b ≡ false
digit_no_letter b h = grind (arith, nat_tests)

-- words

word_longest : (w : Text) → is_word w ≡ true → (k : Bool) (rest : Text) → longest (w ++ gap_byte k ∷ rest) ≡ length w
word_longest [] h k rest = absurd (cc)
word_longest (b ∷ bs) h k rest =
    let parts = and_parts (is_letter b) (every (is_in NameByte) bs) h in
    longest_run b (bs ++ gap_byte k ∷ rest) NameByte Word (word_run b parts.0) ∙ run_ends (is_in NameByte) (b ∷ bs) (gap_byte k) rest (rw parts.0 parts.1) (gap_no_name k)

word_begins : (w : Text) → is_word w ≡ true → (rest : Text) → prefix_len is_space (w ++ rest) ≡ 0
word_begins [] h rest = absurd (cc)
word_begins (b ∷ bs) h rest = no_space b (bs ++ rest) (letter_no_space b (and_parts (is_letter b) (every (is_in NameByte) bs) h).0)

word_some : (w : Text) → is_word w ≡ true → 1 ≤ length w
word_some [] h = absurd (cc)
word_some (b ∷ bs) h = omega arith

word_faultless : (w : Text) → is_word w ≡ true → length w ≤ 64 → piece_fault 0 w ≡ None
word_faultless w h short =
    let over : piece_fault 0 w ≡ elim (nat_le (length w) 64) [ true ↦ None | false ↦ Some (TooLong 0) ] = rw (piece_fault, h) in
    rw (le-leb _ _ short) at over

pub word_stands : (w : Text) → is_word w ≡ true → length w ≤ 64 → Stands w
word_stands w h short = record {
  some = word_some w h;
  begins = word_begins w h;
  longest_is = word_longest w h;
  faultless = word_faultless w h short;
}

-- integers

integer_longest : (w : Text) → is_integer w ≡ true → (k : Bool) (rest : Text) → longest (w ++ gap_byte k ∷ rest) ≡ length w
integer_longest [] h k rest = absurd (cc)
integer_longest (b ∷ bs) h k rest =
    let parts = and_parts (is_digit b) (every is_digit bs) h in
    longest_run b (bs ++ gap_byte k ∷ rest) Digit Integer (integer_run b parts.0) ∙ run_ends is_digit (b ∷ bs) (gap_byte k) rest h (gap_no_digit k)

integer_begins : (w : Text) → is_integer w ≡ true → (rest : Text) → prefix_len is_space (w ++ rest) ≡ 0
integer_begins [] h rest = absurd (cc)
integer_begins (b ∷ bs) h rest = no_space b (bs ++ rest) (digit_no_space b (and_parts (is_digit b) (every is_digit bs) h).0)

integer_some : (w : Text) → is_integer w ≡ true → 1 ≤ length w
integer_some [] h = absurd (cc)
integer_some (b ∷ bs) h = omega arith

pub integer_no_word : (w : Text) → is_integer w ≡ true → is_word w ≡ false
integer_no_word [] h = refl
integer_no_word (b ∷ bs) h = and_left _ _ (digit_no_letter b (and_parts (is_digit b) (every is_digit bs) h).0)

integer_faultless : (w : Text) → is_integer w ≡ true → value_of_digits 0 w ≤ 9223372036854775807 → piece_fault 0 w ≡ None
integer_faultless w h small =
    let over : piece_fault 0 w ≡ elim (nat_le (value_of_digits 0 w) 9223372036854775807) [ true ↦ None | false ↦ Some (IntegerTooLarge 0) ] = rw (piece_fault, integer_no_word w h, h) in
    rw (le-leb _ _ small) at over

pub integer_stands : (w : Text) → is_integer w ≡ true → value_of_digits 0 w ≤ 9223372036854775807 → Stands w
integer_stands w h small = record {
  some = integer_some w h;
  begins = integer_begins w h;
  longest_is = integer_longest w h;
  faultless = integer_faultless w h small;
}

-- what a decimal spells

every_push : (p : ℕ → Bool) (w : Text) (b : ℕ) → every p w ≡ true → p b ≡ true → every p (w ++ b ∷ []) ≡ true
every_push p [] b h e = rw e refl
every_push p (x ∷ xs) b h e = grind (arith, every_push p xs b)

value_push : (v : ℕ) (w : Text) (b : ℕ) → value_of_digits v (w ++ b ∷ []) ≡ value_of_digits v w * 10 + (b - 48)
value_push v [] b = refl
value_push v (x ∷ xs) b = value_push (v * 10 + (x - 48)) xs b

integer_push : (w : Text) (b : ℕ) → is_integer w ≡ true → is_digit b ≡ true → is_integer (w ++ b ∷ []) ≡ true
integer_push [] b h e = rw e refl
integer_push (x ∷ xs) b h e = every_push is_digit (x ∷ xs) b h e

digit_is : (n : ℕ) → n < 10 → is_digit (48 + n) ≡ true
digit_is n h = grind (arith, nat_tests)

pub decimal_spells : (n : ℕ) → n < 2 ^ 64 → (is_integer (decimal n) ≡ true) × (value_of_digits 0 (decimal n) ≡ n)
decimal_spells n small = decimal_by_steps (λ m ds. (is_integer ds ≡ true) × (value_of_digits 0 ds ≡ m)) one more n small
  where
    one : (m : ℕ) → m < 10 → (is_integer ((48 + m) ∷ []) ≡ true) × (value_of_digits 0 ((48 + m) ∷ []) ≡ m)
    one m h = (rw (digit_is m h) refl, omega arith)

    more : (m : ℕ) (ds : List ℕ) → 10 ≤ m → (is_integer ds ≡ true) × (value_of_digits 0 ds ≡ m / 10) → (is_integer (ds ++ ((48 + m % 10) ∷ [])) ≡ true) × (value_of_digits 0 (ds ++ ((48 + m % 10) ∷ [])) ≡ m)
    more m ds low h = (
      integer_push ds (48 + m % 10) h.0 (digit_is (m % 10) (omega arith)),
      value_push 0 ds (48 + m % 10) ∙ omega (arith, h.1),
    )

-- strings

abbrev pub quoted : Text → Text
quoted w = 34 ∷ (w ++ 34 ∷ [])

rest_closed : (w : Text) → every is_inner w ≡ true → is_rest_of_string (w ++ 34 ∷ []) ≡ true
rest_closed [] h = refl
rest_closed (b ∷ []) h = h
rest_closed (b ∷ c ∷ cs) h =
    let parts = and_parts (is_inner b) (every is_inner (c ∷ cs)) h in
    and_from _ _ parts.0 (rest_closed (c ∷ cs) parts.1)

pub string_is : (w : Text) → every is_inner w ≡ true → is_string (quoted w) ≡ true
string_is w h = rest_closed w h

pub inside_of : (w : Text) → take (length (quoted w) - 2) (drop 1 (quoted w)) ≡ w
inside_of w =
    let long = length-append w (34 ∷ []) in
    let size : length (quoted w) - 2 ≡ length w = omega arith in
    rw size (take_at w (34 ∷ []) (length w) refl)

string_longest : (w : Text) → every is_inner w ≡ true → (k : Bool) (rest : Text) → longest (quoted w ++ gap_byte k ∷ rest) ≡ length (quoted w)
string_longest w h k rest =
    let bs = w ++ 34 ∷ gap_byte k ∷ rest in
    let inside : prefix_len is_inner bs ≡ length w = run_ends is_inner w 34 (gap_byte k ∷ rest) h refl in
    let long = length-append w (34 ∷ gap_byte k ∷ rest) in
    let size = length-append w (34 ∷ []) in
    ap (λ s. longest (34 ∷ s)) (append_assoc w (34 ∷ []) (gap_byte k ∷ rest))
    ∙ longest_string 34 bs refl (omega arith) (get_or_at w 34 (gap_byte k ∷ rest) 0 _ (sym inside)) ∙ omega arith

string_faultless : (w : Text) → is_word w ≡ false → is_integer w ≡ false → is_string w ≡ true → length w ≤ 258 → piece_fault 0 w ≡ None
string_faultless w no_word no_integer h short =
    let over : piece_fault 0 w ≡ elim (nat_le (length w) 258) [ true ↦ None | false ↦ Some (TooLong 0) ] = rw (piece_fault, no_word, no_integer, h) in
    rw (le-leb _ _ short) at over

pub string_stands : (w : Text) → every is_inner w ≡ true → length w ≤ 256 → Stands (quoted w)
string_stands w h short = record {
  some = omega arith;
  begins = λ rest. refl;
  longest_is = string_longest w h;
  faultless = string_faultless (quoted w) refl refl (string_is w h) (omega (arith, length-append w (34 ∷ [])));
}
