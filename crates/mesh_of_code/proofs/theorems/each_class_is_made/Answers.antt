use Rattle.mesh_of_code.proofs.StartOfCode.{code_makes}
use Rattle.mesh_of_code.proofs.theorems.each_class_is_made.Goals as goal

pub returns : goal.returns
returns c = λ u k h. code_makes u k h
