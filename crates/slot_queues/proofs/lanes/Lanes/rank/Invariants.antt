use Rattle.std.proofs.Common.{◌≡◌}
use Rattle.slot_queues.specs.Lanes.{rank_in, joined}
use Rattle.slot_queues.proofs.lanes.Lanes.rank.Given as goal

abbrev pub invariant-loop-queue : goal.invariant-loop-queue
invariant-loop-queue l = l.count ≡ rank_in l.to l.end (joined l.queue l.self.pool.lists)
