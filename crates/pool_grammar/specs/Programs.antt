-- The program of a list of tokens and the program of a text, in the terms of the grammar and the nesting limit.
use Rattle.std.specs.Prelude.{◌≡◌, ℕ, ◌<◌, ◌≤◌, List, [], length}
use Rattle.pool_syntax.specs.declared.token.Tok.{Tok}
use Rattle.pool_syntax.specs.declared.token.Token.{Token}
use Rattle.text_scan.specs.Text.{Text}
use Rattle.pool_syntax.specs.Tokens.{HasTokens, toks}
use Rattle.pool_syntax.specs.Terms.{ProgramTree}
use Rattle.pool_grammar.specs.Derives.{IsProgram}
use Rattle.pool_grammar.specs.Nesting.{nesting}
use Rattle.pool_syntax.specs.Typing.{faults}

-- no token before this number has a depth over 200
abbrev pub IsShallowBelow : List Tok → ℕ → Type 0
IsShallowBelow ts n = (k : ℕ) → k < n → nesting ts k ≤ 200

-- the tokens are the program, and none has a depth over 200
abbrev pub HasProgram : List Tok → ProgramTree → Type 0
HasProgram ts p = IsProgram ts p × IsShallowBelow ts (length ts)

-- the text is the program, with this table of its names and strings
abbrev pub IsParsed : Text → List Text → ProgramTree → Type 0
IsParsed s names p = (ts : List Token) × HasTokens s names ts × HasProgram (toks ts) p

-- the text is the program
abbrev pub IsTextOf : Text → ProgramTree → Type 0
IsTextOf s p = (names : List Text) × IsParsed s names p

-- the text is the program, and the program has no class faults
abbrev pub IsTypedText : Text → ProgramTree → Type 0
IsTypedText s p = IsTextOf s p × (faults p ≡ [])
