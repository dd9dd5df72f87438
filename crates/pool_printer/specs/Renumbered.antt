-- Tokens and names with other numbers for their texts.
use Rattle.std.specs.Prelude.{ℕ}
use Rattle.run_types.specs.declared.types.NameId.{NameId}
use Rattle.pool_syntax.specs.declared.token.Tok.{Tok}
use Rattle.pool_syntax.specs.declared.token.Tok.TheVariants.{Word, Name, Int, Str, Sign, End}

-- the name with another number
abbrev pub number_by : (ℕ → ℕ) → NameId → NameId
number_by f n = record { 0 = f n.0 }

-- the token with another number
abbrev pub token_by : (ℕ → ℕ) → Tok → Tok
token_by f (Word k) = Word k
token_by f (Name n) = Name (number_by f n)
token_by f (Int z) = Int z
token_by f (Str n) = Str (number_by f n)
token_by f (Sign s) = Sign s
token_by f End = End
