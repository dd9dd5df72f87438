use Rattle.object_code.proofs.WholeFile.{decode_encode}
use Rattle.object_code.proofs.theorems.files_are_their_bytes.Goals as goal

pub returns : goal.returns
returns c = λ f w. decode_encode f w
