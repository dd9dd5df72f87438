use Rattle.std.proofs.Common.{arith}
use Rattle.message_queue.proofs.LeastStamps.{one_more}
use Rattle.message_queue.proofs.index.stamp_named.Goals as goal

pub loop-named-preserved : goal.loop-named-preserved
loop-named-preserved c = one_more c.args.names.now c.loop-named.named-index _ c.args.index.now c.lesser-least.result (omega arith) (c.lesser-least.ensures _ _ c.args.index.now c.loop-named.invariant c.stamp_of.ensures)
