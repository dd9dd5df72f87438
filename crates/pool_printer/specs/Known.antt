-- Tokens whose names and strings are in the table.
use Rattle.std.specs.Prelude.{List, [], ◌∷◌, Bool, true, ◌&&◌, is_some, slice_get}
use Rattle.text_scan.specs.Text.{Text}
use Rattle.pool_syntax.specs.declared.token.Tok.{Tok}
use Rattle.pool_syntax.specs.declared.token.Tok.TheVariants.{Word, Name, Int, Str, Sign, End}

-- whether the table has the text of the token
abbrev pub is_known : List Text → Tok → Bool
is_known names (Word k) = true
is_known names (Name n) = is_some (slice_get names n.0)
is_known names (Int z) = true
is_known names (Str n) = is_some (slice_get names n.0)
is_known names (Sign s) = true
is_known names End = true

-- whether the table has the texts of the tokens
abbrev pub are_known : List Text → List Tok → Bool
are_known names [] = true
are_known names (t ∷ ts) = is_known names t && are_known names ts
