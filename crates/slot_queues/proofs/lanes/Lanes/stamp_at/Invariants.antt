use Rattle.std.proofs.Common.{◌-◌, ◌<◌, ◌≤◌}
use Rattle.slot_queues.specs.Lanes.{rank_in, joined, shared}
use Rattle.slot_queues.proofs.lanes.Lanes.stamp_at.Given as goal

abbrev pub decreases-loop-low : goal.decreases-loop-low
decreases-loop-low l = l.high - l.low

abbrev pub invariant-loop-low : goal.invariant-loop-low
invariant-loop-low l = (l.low < l.high) × (rank_in l.to l.low (joined (shared l.self.cells) l.self.pool.lists) ≤ l.place) × (l.place < rank_in l.to l.high (joined (shared l.self.cells) l.self.pool.lists))
