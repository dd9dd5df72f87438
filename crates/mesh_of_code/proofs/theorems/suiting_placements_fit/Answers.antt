use Rattle.mesh_of_code.proofs.StartOfCode.{code_fits}
use Rattle.mesh_of_code.proofs.theorems.suiting_placements_fit.Goals as goal

pub returns : goal.returns
returns c = λ u l s. code_fits u l s
