-- The relation between a program and the program that its canonical text parses to.
use Rattle.std.specs.Prelude.{◌≡◌, List, map}
use Rattle.pool_grammar.specs.Derives.{IsProgram}
use Rattle.pool_syntax.specs.Terms.{ProgramTree}
use Rattle.text_scan.specs.Text.{Text}
use Rattle.pool_syntax.specs.declared.token.Token.{Token}
use Rattle.pool_printer.specs.ReadBack.{number_in, IsReadBack}
use Rattle.pool_printer.specs.Renamed.{renamed}

-- the canonical text of p has this table, these tokens and the program q; q is p up to positions, with each number of
-- a name or a string replaced by that of the same text
pub record IsSameProgram (names : List Text) (p : ProgramTree) (other : List Text) (ts : List Token) (q : ProgramTree) : Type 0 where
  pub read_back : IsReadBack names p other ts
  pub program : IsProgram (map (λ t. t.tok) ts) q
  pub same : renamed (number_in other names) p ≡ renamed (λ n. n) q
