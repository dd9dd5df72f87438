use Rattle.object_code.proofs.SequentialWrites.{then}
use Rattle.object_code.proofs.file_writer.put_listed.Goals as goal

pub returns : goal.returns
returns g c = then _ _ _ _ _ c.put_byte.ensures c.put_list.ensures
