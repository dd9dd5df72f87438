-- The tokens of the canonical text of a program: those of the program, over a table of their own with the same texts.
use Rattle.std.specs.Prelude.{◌≡◌, ℕ, List, [], ◌∷◌, ◌++◌, map}
use Rattle.std.specs.List.{AllByRecursion}
use Rattle.run_types.specs.Table.{name_of, text_at}
use Rattle.text_scan.specs.Text.{Text}
use Rattle.pool_syntax.specs.Tokens.{HasTokens}
use Rattle.pool_syntax.specs.Terms.{ProgramTree}
use Rattle.pool_syntax.specs.declared.token.Tok.TheVariants.{End}
use Rattle.pool_syntax.specs.declared.token.Token.{Token}
use Rattle.pool_printer.specs.Canonical.{canonical, program_tokens}
use Rattle.pool_printer.specs.Renumbered.{token_by}
use Rattle.pool_printer.specs.Spelling.{spelling}

-- the number that the text with the number n has in another table
abbrev pub number_in : List Text → List Text → ℕ → ℕ
number_in other names n = name_of other (text_at names n)

-- the canonical text has this table and these tokens: those of the program, with each number replaced by that of the
-- same text in this table
pub record IsReadBack (names : List Text) (p : ProgramTree) (other : List Text) (ts : List Token) : Type 0 where
  pub tokens : HasTokens (canonical names p) other ts
  pub same : map (λ t. t.tok) ts ≡ map (token_by (number_in other names)) (program_tokens p) ++ End ∷ []
  pub texts : AllByRecursion (λ t. spelling other (token_by (number_in other names) t) ≡ spelling names t) (program_tokens p)
