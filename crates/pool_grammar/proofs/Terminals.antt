-- The parts of rules that are a single token.
use Rattle.pool_grammar.specs.Rules.{Part, phrase}

-- a part that is one token
abbrev pub IsTerminal : Part → Type 0
IsTerminal (phrase p) = ⊥
IsTerminal _ = Unit {0}
