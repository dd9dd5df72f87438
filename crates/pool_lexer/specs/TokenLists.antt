-- The guarantees of a list of tokens for its reader: it ends in `End`, and its numbers are indexes of the table.
use Rattle.std.specs.Prelude.{◌≡◌, ℕ, ◌+◌, ◌<◌, ◌↔◌, List, length, slice_get, Some}
use Rattle.pool_syntax.specs.declared.token.Tok.{Tok}
use Rattle.pool_syntax.specs.declared.token.Tok.TheVariants as tok

-- there is a last token, and a token is `End` if and only if it is the last
abbrev pub EndsInEnd : List Tok → Type 0
EndsInEnd ts = (0 < length ts) × ((i : ℕ) (t : Tok) → slice_get ts i ≡ Some t → (t ≡ tok.End) ↔ (i + 1 ≡ length ts))

-- the number of a name or a string is an index of a table with this number of texts
abbrev pub IsPlaced : ℕ → Tok → Type 0
IsPlaced count (tok.Name id) = id.0 < count
IsPlaced count (tok.Str id) = id.0 < count
IsPlaced count (tok.Word k) = Unit {0}
IsPlaced count (tok.Int n) = Unit {0}
IsPlaced count (tok.Sign s) = Unit {0}
IsPlaced count tok.End = Unit {0}
