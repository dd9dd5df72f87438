use Rattle.object_code.proofs.ReadLoops.{HasTaken}
use Rattle.object_code.proofs.file_reader.take_names.Given as goal

abbrev pub invariant-loop : goal.invariant-loop
invariant-loop l = HasTaken l.bytes l.rest l.count l.counter l.names l.twice
