-- The names and strings of a writable program are in the table.
use Rattle.std.proofs.Common.{◌≡◌, refl, Bool, true, List, [], ◌∷◌, Option, Some, None, slice_get, is_some}
use Rattle.std.proofs.lemmas.Bool.{and_from}
use Rattle.text_scan.specs.Text.{Text}
use Rattle.text_scan.specs.Keywords.{is_name_text, is_string_text, text_passes}
use Rattle.pool_syntax.specs.Spelled.{is_spelled}
use Rattle.pool_syntax.specs.Terms.{ProgramTree}
use Rattle.pool_syntax.specs.declared.token.Tok.{Tok}
use Rattle.pool_syntax.specs.declared.token.Tok.TheVariants.{Word, Name, Int, Str, Sign, End}
use Rattle.pool_printer.specs.Canonical.{program_tokens}
use Rattle.pool_printer.specs.Known.{are_known, is_known}
use Rattle.run_types.proofs.Laws.{second, first}
use Rattle.pool_printer.proofs.SpelledTokens.{is_spelled_token, are_spelled_tokens, spelled_tokens}

passing : (test : Text → Bool) (o : Option Text) → text_passes test o ≡ true → is_some o ≡ true
passing test None h = h
passing test (Some w) h = refl

known_token : (names : List Text) (t : Tok) → is_spelled_token names t ≡ true → is_known names t ≡ true
known_token names (Word k) h = refl
known_token names (Name n) h = passing is_name_text (slice_get names n.0) h
known_token names (Int z) h = refl
known_token names (Str n) h = passing is_string_text (slice_get names n.0) h
known_token names (Sign s) h = refl
known_token names End h = refl

known_tokens : (names : List Text) (ts : List Tok) → are_spelled_tokens names ts ≡ true → are_known names ts ≡ true
known_tokens names [] h = refl
known_tokens names (t ∷ ts) h = and_from _ _ (known_token names t (first _ _ h)) (known_tokens names ts (second (is_spelled_token names t) _ h))

-- the tokens of a spelled program have their texts in the table
pub spelled_known : (names : List Text) (p : ProgramTree) → is_spelled names p ≡ true → are_known names (program_tokens p) ≡ true
spelled_known names p h = known_tokens names (program_tokens p) (spelled_tokens names p h)
