use Rattle.std.proofs.Common.{drop}
use Rattle.object_code.specs.Listing.{lines_text}
use Rattle.object_code.specs.SinkState.{state}
use Rattle.object_code.proofs.SequentialWrites.{Rests}
use Rattle.object_code.proofs.listing.put_lines.Given as goal

abbrev pub invariant-loop-at : goal.invariant-loop-at
invariant-loop-at g l =
    let written = g.K.Sink.written in
    let faults = g.K.Sink.faults in
    Rests (lines_text l.names 0 l.code) (state l.initial.failed (written l.initial.sink) (faults l.initial.sink))
    (lines_text l.names l.at (drop l.at l.code)) (state l.failed (written l.sink) (faults l.sink))
