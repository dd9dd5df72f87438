use Rattle.std.proofs.Common.{drop}
use Rattle.object_code.specs.FileBytes.{items_bytes}
use Rattle.object_code.specs.SinkState.{state}
use Rattle.object_code.proofs.SequentialWrites.{Rests}
use Rattle.object_code.proofs.file_writer.put_list.Given as goal

abbrev pub invariant-loop-item : goal.invariant-loop-item
invariant-loop-item g l =
    let written = g.K.Sink.written in
    let faults = g.K.Sink.faults in
    Rests (items_bytes g.T.Item.bytes l.items) (state l.initial.failed (written l.initial.sink) (faults l.initial.sink))
    (items_bytes g.T.Item.bytes (drop l.item-index l.items)) (state l.failed (written l.sink) (faults l.sink))
