use Rattle.std.proofs.Common.{ap}
use Rattle.object_code.specs.FileBytes.{code_bytes, kind_bytes, list_bytes}
use Rattle.object_code.proofs.SequentialWrites.{same, then}
use Rattle.object_code.proofs.file_writer.put_method.Goals as goal

pub returns : goal.returns
returns g c =
    then _ _ _ _ _ c.put_four.ensures
    (then _ _ _ _ _ c.put_four-2.ensures
    (then _ _ _ _ _ (same _ _ _ _ (ap (list_bytes kind_bytes) c.items.ensures) c.put_list.ensures)
    (then _ _ _ _ _ c.put_result.ensures (same _ _ _ _ (ap (code_bytes c.args.method.now.frame_words) c.items-2.ensures) c.put_code.ensures))))
