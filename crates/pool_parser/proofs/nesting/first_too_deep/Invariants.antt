use Rattle.pool_syntax.specs.Tokens.{toks}
use Rattle.std.proofs.Common.{◌-◌, ◌≤◌, ◌∷◌, length, take, reverse}
use Rattle.pool_parser.specs.Depths.{Counts}
use Rattle.pool_parser.proofs.Depths.{IsShallow}
use Rattle.pool_parser.proofs.nesting.first_too_deep.Given as goal

-- no token before this one stands too deep, and the levels are those of the tokens before it
abbrev pub invariant-tokens : goal.invariant-tokens
invariant-tokens l = let before = reverse (take l.at (toks l.tokens)) in
    (l.at ≤ length l.tokens) × IsShallow before × Counts before (l.level ∷ reverse l.outer.items)

abbrev pub decreases-tokens : goal.decreases-tokens
decreases-tokens l = length l.tokens - l.at
