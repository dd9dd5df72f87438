use Rattle.std.proofs.Common.{sym, ap}
use Rattle.object_code.specs.FileBytes.{kind_bytes, option_bytes}
use Rattle.object_code.proofs.SequentialWrites.{same, then}
use Rattle.object_code.proofs.file_writer.put_result.Goals as goal

pub returns-in-None : goal.returns-in-None
returns-in-None g c = same _ _ _ _ (ap (option_bytes kind_bytes) (sym c.in-None.is)) c.put_byte.ensures

pub returns-in-Some : goal.returns-in-Some
returns-in-Some g c = same _ _ _ _ (ap (option_bytes kind_bytes) (sym c.in-Some.is)) (then _ _ _ _ _ c.put_byte-in-Some.ensures c.put_item.ensures)
