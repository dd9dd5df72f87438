use Rattle.std.proofs.Common.{◌+◌, ◌<◌, ◌^◌, length, arith}
use Rattle.slot_queues.proofs.Ranks.{rank_more, rank_sizes}
use Rattle.slot_queues.proofs.lanes.Lanes.rank.Goals as goal

pub overflow_add-count : goal.overflow_add-count
overflow_add-count c =
    let l = c.args.self.now.pool.lists in let q = c.loop-queue.queue in let less : c.loop-queue.queue < length c.args.self.now.pool.lists = omega (arith, c.requires.count) in
    let fits : c.loop-queue.count + c.below-count.result < 2 ^ 64 = omega (arith, rank_more c.args.to c.args.end q l less, rank_sizes c.args.to c.args.end (q + 1) l, c.requires.few) in record { fits = fits }

pub loop-queue-preserved : goal.loop-queue-preserved
loop-queue-preserved c =
    let l = c.args.self.now.pool.lists in let q = c.loop-queue.queue in let less : c.loop-queue.queue < length c.args.self.now.pool.lists = omega (arith, c.requires.count) in
    omega (arith, rank_more c.args.to c.args.end q l less)
