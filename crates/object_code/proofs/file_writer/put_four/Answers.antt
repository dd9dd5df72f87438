use Rattle.std.proofs.Common.{◌≡◌, rules}
use Rattle.object_code.specs.FileBytes.{number_bytes}
use Rattle.object_code.proofs.SequentialWrites.{same}
use Rattle.object_code.proofs.file_writer.put_four.Goals as goal

pub returns : goal.returns
returns g c = let e : c.to_be_bytes.result ≡ number_bytes c.args.number = search rules in same _ _ _ _ e c.put.ensures
