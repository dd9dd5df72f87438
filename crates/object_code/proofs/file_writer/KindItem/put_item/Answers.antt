use Rattle.std.proofs.Common.{sym, ap}
use Rattle.object_code.specs.FileBytes.{kind_bytes}
use Rattle.object_code.proofs.SequentialWrites.{same}
use Rattle.object_code.proofs.file_writer.KindItem.put_item.Goals as goal

pub returns-in-Int : goal.returns-in-Int
returns-in-Int g c = same _ _ _ _ (ap kind_bytes (sym c.in-Int.is)) c.put_byte.ensures

pub returns-in-Bool : goal.returns-in-Bool
returns-in-Bool g c = same _ _ _ _ (ap kind_bytes (sym c.in-Bool.is)) c.put_byte-in-Bool.ensures

pub returns-in-Class : goal.returns-in-Class
returns-in-Class g c = same _ _ _ _ (ap kind_bytes (sym c.in-Class.is)) c.put_numbered.ensures
