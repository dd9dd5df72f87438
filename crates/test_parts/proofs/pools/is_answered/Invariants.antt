use Rattle.std.proofs.Common.{◌≤◌, length}
use Rattle.test_parts.proofs.pools.is_answered.Given as goal

abbrev pub invariant-loop-call : goal.invariant-loop-call
invariant-loop-call l = 2 ≤ length l.pool.lists
