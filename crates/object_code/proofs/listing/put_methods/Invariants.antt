use Rattle.std.proofs.Common.{drop}
use Rattle.object_code.specs.Listing.{methods_text}
use Rattle.object_code.specs.SinkState.{state}
use Rattle.object_code.proofs.SequentialWrites.{Rests}
use Rattle.object_code.proofs.listing.put_methods.Given as goal

abbrev pub invariant-loop-method : goal.invariant-loop-method
invariant-loop-method g l =
    let written = g.K.Sink.written in
    let faults = g.K.Sink.faults in
    Rests (methods_text l.names l.methods) (state l.initial.failed (written l.initial.sink) (faults l.initial.sink))
    (methods_text l.names (drop l.method-index l.methods)) (state l.failed (written l.sink) (faults l.sink))
