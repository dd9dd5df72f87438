use Rattle.std.proofs.Common.{drop}
use Rattle.object_code.specs.FileBytes.{items_bytes, class_bytes}
use Rattle.code_semantics.specs.Pairs.{pairs}
use Rattle.object_code.specs.SinkState.{state}
use Rattle.object_code.proofs.SequentialWrites.{Rests}
use Rattle.object_code.proofs.file_writer.put_classes.Given as goal

abbrev pub invariant-loop-place : goal.invariant-loop-place
invariant-loop-place g l =
    let written = g.K.Sink.written in
    let faults = g.K.Sink.faults in
    Rests (items_bytes class_bytes (pairs l.classes l.kinds)) (state l.initial.failed (written l.initial.sink) (faults l.initial.sink))
    (items_bytes class_bytes (pairs (drop l.place l.classes) (drop l.place l.kinds))) (state l.failed (written l.sink) (faults l.sink))
