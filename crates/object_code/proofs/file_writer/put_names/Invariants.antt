use Rattle.std.proofs.Common.{drop}
use Rattle.object_code.specs.FileBytes.{items_bytes, text_bytes}
use Rattle.object_code.specs.SinkState.{state}
use Rattle.object_code.proofs.SequentialWrites.{Rests}
use Rattle.object_code.proofs.file_writer.put_names.Given as goal

abbrev pub invariant-loop-number : goal.invariant-loop-number
invariant-loop-number g l =
    let written = g.K.Sink.written in
    let faults = g.K.Sink.faults in
    Rests (items_bytes text_bytes l.names) (state l.initial.failed (written l.initial.sink) (faults l.initial.sink))
    (items_bytes text_bytes (drop l.number l.names)) (state l.failed (written l.sink) (faults l.sink))
