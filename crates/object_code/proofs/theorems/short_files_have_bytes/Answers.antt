use Rattle.object_code.proofs.Shorts.{short_is_writable, writable_is_short}
use Rattle.object_code.proofs.WholeFile.{writable_is_shaped}
use Rattle.object_code.proofs.theorems.short_files_have_bytes.Goals as goal

pub returns-clause-have : goal.returns-clause-have
returns-clause-have c = λ f shaped short numbers. short_is_writable f shaped short numbers

pub returns-clause-are : goal.returns-clause-are
returns-clause-are c = λ f w. (writable_is_shaped f w, writable_is_short f w)
