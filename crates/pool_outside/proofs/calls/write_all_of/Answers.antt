use Rattle.std.proofs.Common.{arith}
use Rattle.pool_outside.proofs.KnownBytes.{write_more}
use Rattle.pool_outside.proofs.calls.write_all_of.Goals as goal

pub loop-at-preserved : goal.loop-at-preserved
loop-at-preserved g c =
    let written = g.K.Sink.written in
    record {
      within = omega (arith, c.in-Ok.ensures.takes);
      so_far = write_more (written c.args.sink.now) (written c.loop-at.sink) (written c.write.new.self) c.args.piece.now c.loop-at.at c.in-Ok.taken c.loop-at.invariant.so_far c.in-Ok.ensures.appended;
      faults = omega (arith, c.in-Ok.ensures.no_fault, c.loop-at.invariant.faults);
    }
