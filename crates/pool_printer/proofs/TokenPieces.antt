-- The text of each token of a writable program is a piece, and the token of this piece is the token again.
use Rattle.std.proofs.Common.{◌≡◌, refl, ap, ◌∙◌, ℕ, ◌-◌, ◌≤◌, Bool, true, false, ◌&&◌, nat_le, pos, negsuc, List, [], ◌∷◌, length, take, drop, slice_get, Option, Some, None, is_some, not, decimal, inl, inr, arith}
use Rattle.std.specs.List.{AllByRecursion}
use Rattle.std.proofs.lemmas.Bool.{and_parts, leb-true}
use Rattle.run_types.specs.Table.{name_of, text_or_none, text_at}
use Rattle.text_scan.specs.Text.{Text, every, is_inner, is_word, is_integer, is_listed, lookup, value_of_digits}
use Rattle.pool_syntax.specs.Tokens.{is_string, kept_text, token_of}
use Rattle.text_scan.specs.Keywords.{keywords, is_name, is_string_number, is_name_text, is_string_text, text_passes}
use Rattle.run_types.specs.declared.types.NameId.{NameId}
use Rattle.pool_syntax.specs.declared.token.Tok.{Tok}
use Rattle.pool_syntax.specs.declared.token.Tok.TheVariants as tok
use Rattle.pool_lexer.proofs.Laws.{cases_Option, name_kept}
use Rattle.run_types.proofs.Laws.{first as left_true, second}
use Rattle.text_scan.proofs.Laws.{listed_is}
use Rattle.pool_printer.specs.ReadBack.{number_in}
use Rattle.pool_printer.specs.Renumbered.{token_by}
use Rattle.pool_printer.specs.Spelling.{spelling}
use Rattle.pool_printer.proofs.SpelledTokens.{is_spelled_token, are_spelled_tokens}
use Rattle.pool_printer.proofs.LongestPieces.{Stands, quoted, word_stands, integer_stands, integer_no_word, decimal_spells, string_stands, string_is, inside_of}
use Rattle.pool_printer.proofs.SignPieces.{keyword_stands, keyword_again, sign_stands, sign_again}

-- the table has the text that is kept of a piece, at its place
abbrev pub HasKept : List Text → Text → Type 0
HasKept other w = (x : Text) → kept_text w ≡ Some x → slice_get other (name_of other x) ≡ Some x

-- The text of the token is a piece, and in each table that has its text it is this token with the text's number there.
pub record Lexes (names : List Text) (t : Tok) : Type 0 where
  pub stands : Stands (spelling names t)
  pub again : (other : List Text) → token_of other (spelling names t) ≡ Some (token_by (number_in other names) t)
  pub text : (other : List Text) → HasKept other (spelling names t) → spelling other (token_by (number_in other names) t) ≡ spelling names t

text_at_is : (names : List Text) (n : ℕ) (w : Text) → slice_get names n ≡ Some w → text_at names n ≡ w
text_at_is names n w e = rw e refl

passing : (test : Text → Bool) (names : List Text) (n : ℕ) → text_passes test (slice_get names n) ≡ true → test (text_at names n) ≡ true
passing test names n h = by (slice_get names n) h
  where
    by : (o : Option Text) → text_passes test o ≡ true → test (text_or_none o) ≡ true
    by None e = absurd (cc)
    by (Some w) e = e

-- which token a piece is

name_again : (other : List Text) (w : Text) → is_word w ≡ true → lookup keywords w ≡ None → token_of other w ≡ Some (tok.Name (record { 0 = name_of other w }))
name_again other w word none = rw (token_of, word, none)

string_again : (other : List Text) (w x : Text) → is_word w ≡ false → is_integer w ≡ false → kept_text w ≡ Some x → token_of other w ≡ Some (tok.Str (record { 0 = name_of other x }))
string_again other w x no_word no_integer kept = rw (token_of, no_word, no_integer, kept)

string_kept : (w x : Text) → is_word w ≡ false → is_string w ≡ true → take (length w - 2) (drop 1 w) ≡ x → kept_text w ≡ Some x
string_kept w x no_word quotes inside = rw (kept_text, no_word, quotes) (ap Some inside)

integer_again : (other : List Text) (w : Text) (z : ℕ) → is_integer w ≡ true → value_of_digits 0 w ≡ z → token_of other w ≡ Some (tok.Int (pos z))
integer_again other w z h e = rw (token_of, integer_no_word w h, h, e)

no_keyword : (w : Text) → not (is_listed keywords w) ≡ true → lookup keywords w ≡ None
no_keyword w h = elim (cases_Option (lookup keywords w)) [
  | inl none ↦ none
  | inr some ↦ absurd (let there : is_listed keywords w ≡ true = listed_is keywords w ∙ ap is_some some.1 in let no : not (is_listed keywords w) ≡ false = ap not there in cc)
]

-- names, strings and integers

name_lexes : (names : List Text) (n : NameId) → is_name names n.0 ≡ true → Lexes names (tok.Name n)
name_lexes names n h =
    let w = text_at names n.0 in
    let parts = and_parts (is_word w && not (is_listed keywords w)) (nat_le (length w) 64) (passing is_name_text names n.0 h) in
    let first = and_parts (is_word w) (not (is_listed keywords w)) parts.0 in
    let none = no_keyword w first.1 in
    record {
      stands = word_stands w first.0 (leb-true _ _ parts.1);
      again = λ other. name_again other w first.0 none;
      text = λ other kept. text_at_is other (name_of other w) w (kept w (name_kept w first.0 none));
    }

string_lexes : (names : List Text) (n : NameId) → is_string_number names n.0 ≡ true → Lexes names (tok.Str n)
string_lexes names n h =
    let w = text_at names n.0 in
    let parts = and_parts (every is_inner w) (nat_le (length w) 256) (passing is_string_text names n.0 h) in
    let inside = string_kept (quoted w) w refl (string_is w parts.0) (inside_of w) in
    record {
      stands = string_stands w parts.0 (leb-true _ _ parts.1);
      again = λ other. string_again other (quoted w) w refl refl inside;
      text = λ other kept. ap quoted (text_at_is other (name_of other w) w (kept w inside));
    }

integer_lexes : (names : List Text) (z : ℕ) → z ≤ 9223372036854775807 → Lexes names (tok.Int (pos z))
integer_lexes names z h =
    let spells = decimal_spells z (omega arith) in
    record {
      stands = integer_stands (decimal z) spells.0 (omega (arith, spells.1));
      again = λ other. integer_again other (decimal z) z spells.0 spells.1;
      text = λ other kept. refl;
    }

pub token_lexes : (names : List Text) (t : Tok) → is_spelled_token names t ≡ true → Lexes names t
token_lexes names (tok.Word k) h = record { stands = keyword_stands k; again = λ other. keyword_again other k; text = λ other kept. refl }
token_lexes names (tok.Name n) h = name_lexes names n h
token_lexes names (tok.Int (pos z)) h = integer_lexes names z (leb-true _ _ h)
token_lexes names (tok.Int (negsuc z)) h = absurd (cc)
token_lexes names (tok.Str n) h = string_lexes names n h
token_lexes names (tok.Sign s) h = record { stands = sign_stands s; again = λ other. sign_again other s; text = λ other kept. refl }
token_lexes names tok.End h = absurd (cc)

pub tokens_lex : (names : List Text) (ts : List Tok) → are_spelled_tokens names ts ≡ true → AllByRecursion (Lexes names) ts
tokens_lex names [] h = tt
tokens_lex names (t ∷ ts) h = (token_lexes names t (left_true _ _ h), tokens_lex names ts (second (is_spelled_token names t) _ h))
