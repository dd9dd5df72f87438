use Rattle.pool_printer.proofs.SameProgram.{same_program}
use Rattle.pool_printer.proofs.theorems.canonical_text_is_the_program.Goals as goal

pub returns : goal.returns
returns c = λ names p h g. same_program names p h g
