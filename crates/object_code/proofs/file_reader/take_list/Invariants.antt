use Rattle.std.proofs.Common.{◌≡◌, ◌-◌, ◌≤◌, length}
use Rattle.object_code.specs.Read.{read_items, read_list}
use Rattle.object_code.proofs.ReadLoops.{with_front}
use Rattle.object_code.proofs.file_reader.take_list.Given as goal

abbrev pub invariant-loop : goal.invariant-loop
invariant-loop g l =
    (with_front l.items (read_items g.T.Listed.reader (l.count - l.counter) l.rest) ≡ read_list g.T.Listed.reader l.bytes) × (length l.items ≡ l.counter) × (length l.items ≤ l.count)
