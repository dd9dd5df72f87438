use Rattle.object_code.proofs.SequentialWrites.{then}
use Rattle.object_code.proofs.file_writer.AltCodeItem.put_item.Goals as goal

pub returns : goal.returns
returns g c = then _ _ _ _ _ c.put_answered.ensures c.put_four.ensures
