use Rattle.std.proofs.Common.{arith}
use Rattle.stepper_text.proofs.UnderWay.{segment_put}
use Rattle.stepper_text.proofs.running.push_segments.Goals as goal

pub loop-i-preserved : goal.loop-i-preserved
loop-i-preserved c =
    segment_put c.args.names.now c.args.segments.now c.loop-i.i c.index-segments-i.result c.args.text.now.items c.loop-i.text.items c.push_segment.new.text.items
    (omega arith) (omega arith) c.index-segments-i.is c.loop-i.invariant c.in-Ok.ensures
