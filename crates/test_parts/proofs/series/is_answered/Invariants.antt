use Rattle.std.proofs.Common.{◌≡◌, length}
use Rattle.test_parts.proofs.series.is_answered.Given as goal

abbrev pub invariant-loop : goal.invariant-loop
invariant-loop l = length l.pool.lists ≡ l.queues
