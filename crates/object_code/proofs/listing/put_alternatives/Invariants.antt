use Rattle.std.proofs.Common.{drop}
use Rattle.object_code.specs.Listing.{alternatives_text}
use Rattle.object_code.specs.SinkState.{state}
use Rattle.object_code.proofs.SequentialWrites.{Rests}
use Rattle.object_code.proofs.listing.put_alternatives.Given as goal

abbrev pub invariant-loop-alt : goal.invariant-loop-alt
invariant-loop-alt g l =
    let written = g.K.Sink.written in
    let faults = g.K.Sink.faults in
    Rests (alternatives_text l.names l.alts) (state l.initial.failed (written l.initial.sink) (faults l.initial.sink))
    (alternatives_text l.names (drop l.alt-index l.alts)) (state l.failed (written l.sink) (faults l.sink))
