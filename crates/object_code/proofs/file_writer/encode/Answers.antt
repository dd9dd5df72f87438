use Rattle.std.proofs.Common.{refl}
use Rattle.object_code.proofs.SequentialWrites.{front}
use Rattle.object_code.proofs.file_writer.encode.Goals as goal

pub returns-then-failed-clause-front : goal.returns-then-failed-clause-front
returns-then-failed-clause-front g c = front _ _ _ c.put_file.ensures refl c.if-failed.true
