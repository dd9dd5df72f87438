use Rattle.mesh_of_code.proofs.StartOfCode.{code_start_sound}
use Rattle.mesh_of_code.proofs.theorems.the_start_is_sound.Goals as goal

pub returns : goal.returns
returns c = λ u l d proper fit e. code_start_sound u proper l fit d e
