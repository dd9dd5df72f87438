use Rattle.std.proofs.Common.{◌≤◌, ◌-◌, length}
use Rattle.pool_lexer.proofs.RestToWhole.{IsReadTo}
use Rattle.pool_lexer.proofs.lexer.tokens.Given as goal

abbrev pub invariant-loop-at : goal.invariant-loop-at
invariant-loop-at l = record {
  within : l.at ≤ length l.bytes;
  room : length l.tokens.names ≤ l.at;
  read : IsReadTo l.bytes l.at l.tokens.names l.tokens.list;
}

abbrev pub decreases-loop-at : goal.decreases-loop-at
decreases-loop-at l = length l.bytes - l.at
