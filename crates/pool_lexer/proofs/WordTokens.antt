-- The token of a word, and the text that it adds to the table.
use Rattle.std.proofs.Common.{◌≡◌, ℕ, ◌≤◌, true, false, length, List, Some, None, is_some, nat_le, ap, ◌∙◌}
use Rattle.std.proofs.lemmas.Bool.{le-leb}
use Rattle.run_types.specs.Table.{with_text, name_of}
use Rattle.text_scan.specs.Text.{Text, is_word, is_listed, lookup}
use Rattle.text_scan.specs.Keywords.{keywords}
use Rattle.pool_syntax.specs.Tokens.{kept_text, token_of, piece_fault}
use Rattle.run_types.specs.declared.types.NameId.{NameId}
use Rattle.text_scan.specs.declared.keywords.Keyword.{Keyword}
use Rattle.pool_syntax.specs.declared.token.Tok.TheVariants as tok
use Rattle.pool_syntax.specs.declared.token.LexFault.TheVariants.{TooLong}
use Rattle.pool_lexer.specs.Reading.{IsRead, with_kept}
use Rattle.text_scan.proofs.Laws.{listed_is}

module _ (w : Text) (word : is_word w ≡ true) where
  keyword_kept : (k : Keyword) → lookup keywords w ≡ Some k → kept_text w ≡ None
  keyword_kept k e =
      let listed : is_listed keywords w ≡ true = listed_is keywords w ∙ ap is_some e in
      rw (kept_text, word, listed)

  pub name_kept : lookup keywords w ≡ None → kept_text w ≡ Some w
  name_kept e =
      let listed : is_listed keywords w ≡ false = listed_is keywords w ∙ ap is_some e in
      rw (kept_text, word, listed)

  short_word : (at : ℕ) → length w ≤ 64 → piece_fault at w ≡ None
  short_word at short =
      let test : nat_le (length w) 64 ≡ true = le-leb _ _ short in
      let over : piece_fault at w ≡ elim (nat_le (length w) 64) [ true ↦ None | false ↦ Some (TooLong at) ] = rw (piece_fault, word) in
      rw test at over

  pub keyword_is : (at : ℕ) (names : List Text) (k : Keyword) → length w ≤ 64 → lookup keywords w ≡ Some k → IsRead at w names names (Some (tok.Word k))
  keyword_is at names k short e = record {
    faultless = short_word at short;
    names_are = rw (with_kept, keyword_kept k e);
    token_is = rw (token_of, word, e);
  }

  pub name_is : (at : ℕ) (old new : List Text) (id : NameId) → length w ≤ 64 → lookup keywords w ≡ None → id.0 ≡ name_of old w → new ≡ with_text old w → IsRead at w old new (Some (tok.Name id))
  name_is at old new id short e place added = record {
    faultless = short_word at short;
    names_are = rw (with_kept, name_kept e) added;
    token_is = rw (token_of, word, e, ← place);
  }
