use Rattle.object_code.proofs.WholeFile.{encode_decode, writable_is_shaped}
use Rattle.object_code.proofs.theorems.bytes_are_their_file.Goals as goal

pub returns : goal.returns
returns c = λ bs f h e. let w = encode_decode bs f h e in (w.0, w.1, writable_is_shaped f w.1, w.2)
