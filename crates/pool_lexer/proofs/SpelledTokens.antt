-- The names, strings and integers of the tokens of a text can be written, over the table of the text.
use Rattle.std.proofs.Common.{◌≡◌, ℕ, zero, suc, ◌+◌, ◌-◌, ◌≤◌, true, false, List, [], ◌∷◌, length, take, drop, slice_get, Some, None, nat_le, pos, inl, inr, refl, sym, ap, subst, ◌∙◌, is_some, arith}
use Rattle.std.proofs.lemmas.Bool.{cases_Bool}
use Rattle.std.proofs.lemmas.Bool.Decides.{nat_tests}
use Rattle.std.proofs.lemmas.List.{length-take}
use Rattle.pool_syntax.specs.declared.token.Tok.{Tok}
use Rattle.pool_syntax.specs.declared.token.Tok.TheVariants as tok
use Rattle.pool_syntax.specs.declared.token.Token.{Token}
use Rattle.run_types.specs.Table.{name_of}
use Rattle.text_scan.specs.Text.{Text, lookup, is_listed, every, is_inner, is_word, is_integer, value_of_digits}
use Rattle.text_scan.specs.Keywords.{keywords, is_name, is_string_number, is_string_text}
use Rattle.pool_syntax.specs.Tokens.{signs, is_rest_of_string, is_string, piece_fault, kept_text, texts_after, token_of, tokens_from, IsFaultless, HasTokens, toks}
use Rattle.pool_syntax.specs.Spelled.{IsSpelledToken, AreSpelled}
use Rattle.run_types.proofs.Laws.{text_at_place}
use Rattle.text_scan.proofs.Laws.{listed_is}
use Rattle.pool_lexer.specs.Reading.{with_kept}
use Rattle.pool_lexer.proofs.TokenListInvariant.{all_more, all_none}
use Rattle.pool_lexer.proofs.TableGrowth.{cases_Option, some_same, kept_there, texts_after-cons}
use Rattle.pool_lexer.proofs.WordTokens.{name_kept}
use Rattle.pool_syntax.proofs.Laws.{piece_within}

-- the inside of a string of at most 258 bytes with its quotes
inner_front : (bs : Text) (n : ℕ) → is_rest_of_string bs ≡ true → n + 1 ≤ length bs → every is_inner (take n bs) ≡ true
inner_front bs zero h l = refl
inner_front [] (suc n) h l = absurd (cc)
inner_front (b ∷ []) (suc n) h l = absurd (omega arith)
inner_front (b ∷ c ∷ bs) (suc n) h l = grind (arith, inner_front (c ∷ bs) n)

inside : (w : Text) → is_string w ≡ true → length w ≤ 258 → is_string_text (take (length w - 2) (drop 1 w)) ≡ true
inside [] h l = absurd (cc)
inside (b ∷ []) h l = absurd (grind arith)
inside (b ∷ c ∷ bs) h l =
    let rest : is_rest_of_string (c ∷ bs) ≡ true = grind arith in
    let short : nat_le (length (take (length (b ∷ c ∷ bs) - 2) (c ∷ bs))) 256 ≡ true = grind (arith, nat_tests, length-take) in
    rw (inner_front (c ∷ bs) (length (b ∷ c ∷ bs) - 2) rest (omega arith), short)

-- the token of a piece without fault, over the table behind the pieces that follow
module _ (names : List Text) (w : Text) (ws : List Text) (faultless : piece_fault 0 w ≡ None) where
  abbrev final : List Text
  final = texts_after (with_kept names w) ws

  at_place : (x : Text) → kept_text w ≡ Some x → slice_get final (name_of final x) ≡ Some x
  at_place x kept = text_at_place final x (kept_there names w ws x kept).0

  name_spelled : is_word w ≡ true → lookup keywords w ≡ None → is_name final (name_of final w) ≡ true
  name_spelled word none =
      let free : is_listed keywords w ≡ false = listed_is keywords w ∙ ap is_some none in
      let short : nat_le (length w) 64 ≡ true = piece_within 64 (length w) _ (rw (piece_fault, word) at faultless) in
      rw (at_place w (name_kept w word none), word, free, short)

  string_spelled : (x : Text) → is_word w ≡ false → is_integer w ≡ false → kept_text w ≡ Some x → is_string_number final (name_of final x) ≡ true
  string_spelled x no_word no_integer kept = elim (cases_Bool (is_string w)) [
    | inl quotes ↦
        let short : nat_le (length w) 258 ≡ true = piece_within 258 (length w) _ (rw (piece_fault, no_word, no_integer, quotes) at faultless) in
        let same : take (length w - 2) (drop 1 w) ≡ x = some_same (sym (rw (kept_text, no_word, quotes)) ∙ kept) in
        rw (at_place x kept, ← same) (inside w quotes (grind (arith, nat_tests)))
    | inr none ↦ absurd (let nothing : kept_text w ≡ None = rw (kept_text, no_word, none) in cc)
  ]

  integer_spelled : is_word w ≡ false → is_integer w ≡ true → nat_le (value_of_digits 0 w) 9223372036854775807 ≡ true
  integer_spelled no_word integer = piece_within 9223372036854775807 (value_of_digits 0 w) _ (rw (piece_fault, no_word, integer) at faultless)

  is_spelled_as : (t u : Tok) → Some t ≡ token_of final w → token_of final w ≡ Some u → IsSpelledToken final t → IsSpelledToken final u
  is_spelled_as t u here e h = subst (λ v. IsSpelledToken final v) (some_same (here ∙ e)) h

  word_spelled : (t : Tok) → is_word w ≡ true → token_of final w ≡ Some t → IsSpelledToken final t
  word_spelled t word e = elim (cases_Option (lookup keywords w)) [
    | inl none ↦ is_spelled_as (tok.Name (record { 0 = name_of final w })) t (sym (rw (token_of, word, none))) e (name_spelled word none)
    | inr some ↦ is_spelled_as (tok.Word some.0) t (sym (rw (token_of, word, some.1))) e tt
  ]

  other_spelled : (t : Tok) → is_word w ≡ false → is_integer w ≡ false → token_of final w ≡ Some t → IsSpelledToken final t
  other_spelled t no_word no_integer e = elim (cases_Option (kept_text w)) [
    | inr some ↦ is_spelled_as (tok.Str (record { 0 = name_of final some.0 })) t (sym (rw (token_of, no_word, no_integer, some.1))) e (string_spelled some.0 no_word no_integer some.1)
    | inl none ↦ elim (cases_Option (lookup signs w)) [
      | inl no_sign ↦ absurd (let nothing : token_of final w ≡ None = rw (token_of, no_word, no_integer, none, no_sign) in cc)
      | inr sign ↦ is_spelled_as (tok.Sign sign.0) t (sym (rw (token_of, no_word, no_integer, none, sign.1))) e tt
    ]
  ]

  token_spelled : (t : Tok) → token_of final w ≡ Some t → IsSpelledToken final t
  token_spelled t e = elim (cases_Bool (is_word w)) [
    | inl word ↦ word_spelled t word e
    | inr no_word ↦ elim (cases_Bool (is_integer w)) [
      | inl integer ↦ is_spelled_as (tok.Int (pos (value_of_digits 0 w))) t (sym (rw (token_of, no_word, integer))) e (integer_spelled no_word integer)
      | inr no_integer ↦ other_spelled t no_word no_integer e
    ]
  ]

spelled_from : (seen : List Text) (at : ℕ) (ws : List Text) → IsFaultless ws → AreSpelled (texts_after seen ws) (toks (tokens_from (texts_after seen ws) at ws))
spelled_from seen at [] f = all_more (IsSpelledToken seen) tok.End [] tt (all_none (IsSpelledToken seen))
spelled_from seen at (w ∷ ws) f =
    let later = texts_after (with_kept seen w) ws in
    let others = spelled_from (with_kept seen w) (at + length w) ws f.1 in
    let all : AreSpelled later (toks (tokens_from later at (w ∷ ws))) = elim (cases_Option (token_of later w)) [
      | inl none ↦ rw (tokens_from, none) others
      | inr some ↦ rw (tokens_from, some.1) (all_more (IsSpelledToken later) some.0 _ (token_spelled seen w ws f.0 some.0 some.1) others)
    ] in
    subst (λ names. AreSpelled names (toks (tokens_from names at (w ∷ ws)))) (sym (texts_after-cons seen w ws)) all

pub spelled_of : (s : Text) (names : List Text) (ts : List Token) → HasTokens s names ts → AreSpelled names (toks ts)
spelled_of s names ts h =
    let here = spelled_from [] 0 h.0 h.2 in
    subst (λ us. AreSpelled names (toks us)) (sym h.4) (subst (λ table. AreSpelled table (toks (tokens_from table 0 h.0))) (sym h.3) here)
