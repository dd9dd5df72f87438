-- The nesting depth of a token as a fold from the first token. It counts open brackets, and operators whose expression
-- is not complete.
use Rattle.std.specs.Prelude.{ℕ, suc, ◌+◌, List, [], ◌∷◌}
use Rattle.pool_syntax.specs.declared.token.Tok.{Tok}
use Rattle.pool_grammar.specs.Nesting.{Role, opening, beginning, closing, operating, parting, plain, role}

-- An open bracket, with the number of operators that were under way around it when it was opened. It counts together
-- with them, or it hides them and does not count.
pub data Bracket : Type 0 where
  counts : (around : ℕ) → Bracket
  hides : (around : ℕ) → Bracket

-- The open parts at a place: the number of operators under way in the innermost bracket, and the brackets, the
-- innermost first.
pub record OpenParts : Type 0 where
  pub operators : ℕ
  pub brackets : List Bracket

abbrev pub nothing_open : OpenParts
nothing_open = record { operators = 0; brackets = [] }

-- the innermost bracket is closed, and the operators around it are under way again; if no bracket is open, nothing is
-- open
abbrev pub without_innermost : List Bracket → OpenParts
without_innermost [] = nothing_open
without_innermost (counts n ∷ bs) = record { operators = n; brackets = bs }
without_innermost (hides n ∷ bs) = record { operators = n; brackets = bs }

-- the open parts after a token of this role
abbrev pub step : OpenParts → Role → OpenParts
step s opening = record { operators = 0; brackets = counts s.operators ∷ s.brackets }
step s beginning = record { operators = 0; brackets = hides s.operators ∷ s.brackets }
step s closing = without_innermost s.brackets
step s operating = record s { operators = suc s.operators }
step s parting = record s { operators = 0 }
step s plain = s

-- the open parts after these tokens
abbrev pub behind : OpenParts → List Tok → OpenParts
behind s [] = s
behind s (t ∷ ts) = behind (step s (role t)) ts

-- the number of brackets that count, and of the operators around them
abbrev pub outside : List Bracket → ℕ
outside [] = 0
outside (counts n ∷ bs) = 1 + (n + outside bs)
outside (hides n ∷ bs) = outside bs

-- The depth of a token of this role at a place with these open parts. A bracket counts at its own token and at the one
-- that closes it, without the operators inside; an operator counts at its own token.
abbrev pub depth_at : OpenParts → Role → ℕ
depth_at s opening = 1 + (s.operators + outside s.brackets)
depth_at s operating = 1 + (s.operators + outside s.brackets)
depth_at s plain = s.operators + outside s.brackets
depth_at s beginning = outside s.brackets
depth_at s closing = outside s.brackets
depth_at s parting = outside s.brackets
