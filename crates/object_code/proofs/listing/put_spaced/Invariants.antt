use Rattle.std.proofs.Common.{drop}
use Rattle.object_code.specs.Listing.{spaced_text}
use Rattle.object_code.specs.SinkState.{state}
use Rattle.object_code.proofs.SequentialWrites.{Rests}
use Rattle.object_code.proofs.listing.put_spaced.Given as goal

abbrev pub invariant-loop-id : goal.invariant-loop-id
invariant-loop-id g l =
    let written = g.K.Sink.written in
    let faults = g.K.Sink.faults in
    Rests (spaced_text l.names l.ids) (state l.initial.failed (written l.initial.sink) (faults l.initial.sink))
    (spaced_text l.names (drop l.id-index l.ids)) (state l.failed (written l.sink) (faults l.sink))
