-- The bound on the depth of the tokens that the parser looks at.
use Rattle.std.specs.Prelude.{ℕ, ◌<◌, ◌≤◌, List}
use Rattle.pool_syntax.specs.declared.token.Tok.{Tok}
use Rattle.pool_grammar.specs.Nesting.{nesting}

-- no token before this number is deeper than 201, the depth of the first one that is too deep
abbrev pub IsNestedBelow : List Tok → ℕ → Type 0
IsNestedBelow ts n = (k : ℕ) → k < n → nesting ts k ≤ 201
