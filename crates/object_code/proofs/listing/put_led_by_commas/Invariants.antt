use Rattle.std.proofs.Common.{drop}
use Rattle.object_code.specs.Listing.{led_by_commas}
use Rattle.object_code.specs.SinkState.{state}
use Rattle.object_code.proofs.SequentialWrites.{Rests}
use Rattle.object_code.proofs.listing.put_led_by_commas.Given as goal

abbrev pub invariant-loop-id : goal.invariant-loop-id
invariant-loop-id g l =
    let written = g.K.Sink.written in
    let faults = g.K.Sink.faults in
    Rests (led_by_commas l.names l.ids) (state l.initial.failed (written l.initial.sink) (faults l.initial.sink))
    (led_by_commas l.names (drop l.id-index l.ids)) (state l.failed (written l.sink) (faults l.sink))
