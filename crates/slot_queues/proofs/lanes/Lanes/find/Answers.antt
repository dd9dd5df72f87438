use Rattle.std.proofs.Common.{◌≡◌, ◌<◌, [], get_or, length, arith}
use Rattle.slot_queues.specs.declared.lanes.Stamped.{Stamped}
use Rattle.slot_queues.specs.Lanes.{shared}
use Rattle.slot_queues.proofs.Ranks.{each_more, stamp_found, stamp_absent}
use Rattle.slot_queues.proofs.lanes.Lanes.find.Goals as goal

pub returns-in-Some : goal.returns-in-Some
returns-in-Some c =
    let s = stamp_found c.args.stamp (get_or c.args.self.now.pool.lists c.loop-queue.queue []) c.in-Some.place c.in-Some.ensures in
    let below : c.loop-queue.queue < shared c.args.self.now.cells = omega arith in (s.0, below, s.1, s.2)

pub loop-queue-preserved : goal.loop-queue-preserved
loop-queue-preserved c =
    let l = c.args.self.now.pool.lists in let q = c.loop-queue.queue in let less : c.loop-queue.queue < length c.args.self.now.pool.lists = omega (arith, c.requires) in
    each_more (λ (x : Stamped). x.stamp ≡ c.args.stamp → ⊥) q l less c.loop-queue.invariant (stamp_absent c.args.stamp (get_or l q []) c.in-None.ensures)
