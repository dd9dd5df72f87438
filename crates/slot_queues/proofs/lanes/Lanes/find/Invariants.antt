use Rattle.std.proofs.Common.{◌≡◌}
use Rattle.run_types.specs.Tables.{Each}
use Rattle.slot_queues.specs.declared.lanes.Stamped.{Stamped}
use Rattle.slot_queues.specs.Lanes.{joined}
use Rattle.slot_queues.proofs.lanes.Lanes.find.Given as goal

abbrev pub invariant-loop-queue : goal.invariant-loop-queue
invariant-loop-queue l = Each (λ (x : Stamped). x.stamp ≡ l.stamp → ⊥) (joined l.queue l.self.pool.lists)
