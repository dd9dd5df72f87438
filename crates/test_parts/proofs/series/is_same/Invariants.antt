use Rattle.std.proofs.Common.{◌≡◌, length}
use Rattle.test_parts.proofs.series.is_same.Given as goal

abbrev pub invariant-loop-place : goal.invariant-loop-place
invariant-loop-place l = length l.pool.lists ≡ l.queues

abbrev pub invariant-loop-queue : goal.invariant-loop-queue
invariant-loop-queue l = length l.pool.lists ≡ l.queues
