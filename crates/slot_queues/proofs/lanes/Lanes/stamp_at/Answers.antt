use Rattle.std.proofs.Common.{arith}
use Rattle.slot_queues.specs.Lanes.{shared, joined}
use Rattle.slot_queues.proofs.Ranks.{rank_zero, stamps_given}
use Rattle.slot_queues.proofs.lanes.Lanes.stamp_at.Goals as goal

pub loop-low-init : goal.loop-low-init
loop-low-init c =
    let l = c.args.self.now in let all = joined (shared l.cells) l.pool.lists in
    (stamps_given c.args.to l.next c.args.place all c.requires.place, omega (arith, rank_zero c.args.to all), c.requires.place)
