-- The text of a token, over the table of the texts of names and strings.
use Rattle.std.specs.Prelude.{List, [], ◌∷◌, ◌++◌}
use Rattle.std.specs.Fmt.{signed_decimal}
use Rattle.run_types.specs.Table.{text_at}
use Rattle.text_scan.specs.Keywords.{keyword_text}
use Rattle.pool_syntax.specs.Spelling.{sign_text}
use Rattle.text_scan.specs.Text.{Text}
use Rattle.pool_syntax.specs.declared.token.Tok.{Tok}
use Rattle.pool_syntax.specs.declared.token.Tok.TheVariants as tok

-- the quote of a string
abbrev pub quote : Text
quote = 34 ∷ []

-- the text of a token: an integer has no leading zeros, a string has its quotes, and the end of a text is empty
abbrev pub spelling : List Text → Tok → Text
spelling names (tok.Word k) = keyword_text k
spelling names (tok.Name n) = text_at names n.0
spelling names (tok.Int z) = signed_decimal z
spelling names (tok.Str n) = quote ++ (text_at names n.0 ++ quote)
spelling names (tok.Sign s) = sign_text s
spelling names tok.End = []
