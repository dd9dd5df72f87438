use Rattle.std.proofs.Common.{take}
use Rattle.slot_queues.specs.Lanes.{shared, IsFound, Named}
use Rattle.slot_queues.proofs.lanes.Lanes.earliest_named.Given as goal

-- the earliest of the names so far was found
abbrev pub invariant-loop-name : goal.invariant-loop-name
invariant-loop-name l = IsFound l.self.pool.lists (shared l.self.cells) (Named l.to (take l.name-index l.names)) l.best
