use Rattle.std.proofs.Common.{◌≡◌, drop}
use Rattle.object_code.specs.Decode.{read_exactly}
use Rattle.object_code.proofs.file_reader.take_exactly.Given as goal

abbrev pub invariant-loop-byte : goal.invariant-loop-byte
invariant-loop-byte l = read_exactly l.expected l.bytes ≡ read_exactly (drop l.byte-index l.expected) l.rest
