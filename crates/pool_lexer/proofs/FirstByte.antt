-- The first byte of a text restricts the pieces at its front.
use Rattle.std.proofs.Common.{◌≡◌, ◌≢◌, ℕ, Bool, true, false, ◌&&◌, ◌||◌, nat_eq, List, [], ◌∷◌, Some, None, ◌∙◌, refl, arith}
use Rattle.std.proofs.lemmas.Bool.{and_left, and_from, ne_eqb}
use Rattle.std.proofs.lemmas.Bool.Decides.{nat_tests}
use Rattle.text_scan.specs.Text.{Text, every, is_space, is_letter, is_digit, is_listed, lookup}
use Rattle.pool_syntax.specs.Tokens.{is_rest_of_string, is_piece, signs}
use Rattle.pool_syntax.specs.declared.token.Sign.{Sign}
use Rattle.text_scan.specs.ByteSets.{is_in}
use Rattle.text_scan.specs.declared.scan.ByteSet.TheVariants.{Space, NotLineFeed, NameByte, Digit}
use Rattle.pool_lexer.specs.declared.piece.Kind.TheVariants.{Skipped, Word, Integer, Text as Quoted, Sign as OfSign}
use Rattle.pool_lexer.specs.Pieces.{IsKind, IsRun, IsNoRun}

-- whether a text of the table begins with the byte
abbrev begins : Text → ℕ → Bool
begins [] b = false
begins (c ∷ cs) b = nat_eq c b

abbrev begins_row : {A : Type 0} → List (Text × A) → ℕ → Bool
begins_row [] b = false
begins_row (row ∷ rows) b = begins row.0 b || begins_row rows b

or_false : (x : Bool) → (x || false) ≡ x
or_false true = refl
or_false false = refl

or_left : (x y : Bool) → (x || y) ≡ false → x ≡ false
or_left true y e = e
or_left false y e = refl

or_right : (x y : Bool) → (x || y) ≡ false → y ≡ false
or_right true y e = cc
or_right false y e = e

-- no row that begins with another byte has the text
no_row : {A : Type 0} (rows : List (Text × A)) (b : ℕ) (w : Text) → begins_row rows b ≡ false → (lookup rows (b ∷ w) ≡ None) × (is_listed rows (b ∷ w) ≡ false)
no_row [] b w e = (refl, refl)
no_row (([], meaning) ∷ rows) b w e = no_row rows b w e
no_row ((c ∷ cs, meaning) ∷ rows) b w e =
    let others = no_row rows b w (or_right (nat_eq c b) _ e) in
    let here : nat_eq c b ≡ false = or_left (nat_eq c b) _ e in
    (rw (lookup, here) others.0, rw here others.1)

-- which kind of piece begins with the byte, where it is no sign
record Front (b : ℕ) (white comment word integer string : Bool) : Type 0 where
  white_is : is_space b ≡ white
  comment_is : nat_eq b 35 ≡ comment
  word_is : is_letter b ≡ word
  integer_is : is_digit b ≡ integer
  string_is : nat_eq b 34 ≡ string
  sign_not : begins_row signs b ≡ false

white_front : (b : ℕ) → is_space b ≡ true → Front b true false false false false
white_front b e = record { white_is = e; comment_is = grind (arith, nat_tests); word_is = grind (arith, nat_tests); integer_is = grind (arith, nat_tests); string_is = grind (arith, nat_tests); sign_not = grind (arith, nat_tests) }

comment_front : (b : ℕ) → b ≡ 35 → Front b false true false false false
comment_front b e = rw e (record { white_is = refl; comment_is = refl; word_is = refl; integer_is = refl; string_is = refl; sign_not = refl })

word_front : (b : ℕ) → is_letter b ≡ true → Front b false false true false false
word_front b e = record { white_is = grind (arith, nat_tests); comment_is = grind (arith, nat_tests); word_is = e; integer_is = grind (arith, nat_tests); string_is = grind (arith, nat_tests); sign_not = grind (arith, nat_tests) }

integer_front : (b : ℕ) → is_digit b ≡ true → Front b false false false true false
integer_front b e = record { white_is = grind (arith, nat_tests); comment_is = grind (arith, nat_tests); word_is = grind (arith, nat_tests); integer_is = e; string_is = grind (arith, nat_tests); sign_not = grind (arith, nat_tests) }

string_front : (b : ℕ) → b ≡ 34 → Front b false false false false true
string_front b e = rw e (record { white_is = refl; comment_is = refl; word_is = refl; integer_is = refl; string_is = refl; sign_not = refl })

-- the pieces that begin with it
front_pieces : {b : ℕ} {white comment word integer string : Bool} → Front b white comment word integer string → (w : Text) →
    is_piece (b ∷ w) ≡ ((white && every is_space w) || ((comment && every (is_in NotLineFeed) w) || ((word && every (is_in NameByte) w) || ((integer && every is_digit w) || ((string && is_rest_of_string w) || false)))))
front_pieces {b} front w = rw (front.white_is, front.comment_is, front.word_is, front.integer_is, front.string_is, (no_row signs b w front.sign_not).1)

no_token : {b : ℕ} {white comment : Bool} → Front b white comment false false false → (w : Text) → IsKind Skipped (b ∷ w)
no_token {b} front w = (and_left _ _ front.word_is, and_left _ _ front.integer_is, and_left _ _ front.string_is, (no_row signs b w front.sign_not).0)

-- the runs that begin with it
pub white_run : (b : ℕ) → is_space b ≡ true → IsRun b Space Skipped
white_run b e = record {
  first = e;
  piece = λ w. front_pieces (white_front b e) w ∙ or_false (every is_space w);
  kind_is = λ w _. no_token (white_front b e) w;
}

pub comment_run : (b : ℕ) → b ≡ 35 → IsRun b NotLineFeed Skipped
comment_run b e = record {
  first = rw e;
  piece = λ w. front_pieces (comment_front b e) w ∙ or_false (every (is_in NotLineFeed) w);
  kind_is = λ w _. no_token (comment_front b e) w;
}

pub word_run : (b : ℕ) → is_letter b ≡ true → IsRun b NameByte Word
word_run b e = record {
  first = rw e;
  piece = λ w. front_pieces (word_front b e) w ∙ or_false (every (is_in NameByte) w);
  kind_is = λ w all. and_from _ _ e all;
}

pub integer_run : (b : ℕ) → is_digit b ≡ true → IsRun b Digit Integer
integer_run b e = record {
  first = e;
  piece = λ w. front_pieces (integer_front b e) w ∙ or_false (every is_digit w);
  kind_is = λ w all. (and_left _ _ (integer_front b e).word_is, and_from _ _ e all);
}

-- what begins with none
pub string_piece : (b : ℕ) (w : Text) → b ≡ 34 → is_piece (b ∷ w) ≡ is_rest_of_string w
string_piece b w e = front_pieces (string_front b e) w ∙ or_false (is_rest_of_string w)

pub string_kind : (b : ℕ) (w : Text) → b ≡ 34 → is_rest_of_string w ≡ true → IsKind Quoted (b ∷ w)
string_kind b w e closed =
    let front = string_front b e in
    (and_left _ _ front.word_is, and_left _ _ front.integer_is, and_from _ _ front.string_is closed)

pub sign_piece : (b : ℕ) (w : Text) → IsNoRun b → b ≢ 34 → is_piece (b ∷ w) ≡ is_listed signs (b ∷ w)
sign_piece b w no_run no_quote =
    let quote : nat_eq b 34 ≡ false = ne_eqb b 34 no_quote in
    rw (no_run.white_not, no_run.comment_not, no_run.word_not, no_run.integer_not, quote)

pub sign_kind : (b : ℕ) (w : Text) (s : Sign) → IsNoRun b → b ≢ 34 → lookup signs (b ∷ w) ≡ Some s → IsKind (OfSign s) (b ∷ w)
sign_kind b w s no_run no_quote e =
    (and_left _ _ no_run.word_not, and_left _ _ no_run.integer_not, and_left _ _ (ne_eqb b 34 no_quote), e)
