use Rattle.std.proofs.Common.{drop}
use Rattle.object_code.specs.Listing.{classes_text}
use Rattle.object_code.specs.SinkState.{state}
use Rattle.object_code.proofs.SequentialWrites.{Rests}
use Rattle.object_code.proofs.listing.put_classes.Given as goal

abbrev pub invariant-loop-class : goal.invariant-loop-class
invariant-loop-class g l =
    let written = g.K.Sink.written in
    let faults = g.K.Sink.faults in
    Rests (classes_text l.names l.classes) (state l.initial.failed (written l.initial.sink) (faults l.initial.sink))
    (classes_text l.names (drop l.class-index l.classes)) (state l.failed (written l.sink) (faults l.sink))
