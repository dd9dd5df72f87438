use Rattle.std.proofs.Common.{◌≡◌, ◌-◌, length}
use Rattle.object_code.specs.Read.{read_items, read_list}
use Rattle.code_semantics.specs.Pairs.{pairs}
use Rattle.object_code.specs.Decode.{read_class}
use Rattle.object_code.proofs.ReadLoops.{with_front}
use Rattle.object_code.proofs.file_reader.take_classes.Given as goal

abbrev pub invariant-loop : goal.invariant-loop
invariant-loop l =
    (with_front (pairs l.classes l.kinds) (read_items read_class (l.count - l.counter) l.rest) ≡ read_list read_class l.bytes) × (length l.classes ≡ length l.kinds)
