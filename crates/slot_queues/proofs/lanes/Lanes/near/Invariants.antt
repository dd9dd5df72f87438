use Rattle.slot_queues.specs.Lanes.{shared, IsFound}
use Rattle.slot_queues.proofs.Search.{Within}
use Rattle.slot_queues.proofs.lanes.Lanes.near.Given as goal

-- the earliest of the first k queues was found
abbrev pub invariant-loop-k : goal.invariant-loop-k
invariant-loop-k l = IsFound l.self.pool.lists (shared l.self.cells) (Within l.home l.to l.method l.k) l.best
