use Rattle.pool_driver.proofs.ConvertLaws.{IsShowing}
use Rattle.pool_driver.proofs.converted.write_lines.Given as goal

abbrev pub invariant-loop-place : goal.invariant-loop-place
invariant-loop-place g l =
    IsShowing l.names l.lines l.asks l.place
    (record { before = g.K.Sink.written l.fn.out; after = g.K.Sink.written l.out; faults = g.K.Sink.faults l.fn.out; failed = g.K.Sink.faults l.out })
