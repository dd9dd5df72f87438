-- The programs that the grammar derives from a list of at most 67,108,865 tokens.
use Rattle.std.specs.Prelude.{◌≤◌, List, length}
use Rattle.pool_syntax.specs.declared.token.Tok.{Tok}
use Rattle.pool_syntax.specs.Terms.{ProgramTree}
use Rattle.pool_grammar.specs.Derives.{IsProgram}

-- the grammar derives the program from a list of at most 67,108,865 tokens
abbrev pub IsGrammatical : ProgramTree → Type 0
IsGrammatical p = (ts : List Tok) × (length ts ≤ 67108865) × IsProgram ts p
