use Rattle.mesh_of_code.proofs.StartOfCode.{start_of_code, start_there, root_rests}
use Rattle.mesh_of_code.proofs.theorems.code_starts.Goals as goal

pub returns-clause-there : goal.returns-clause-there
returns-clause-there c = λ u l proper. start_there u proper l

pub returns-clause-of_unit : goal.returns-clause-of_unit
returns-clause-of_unit c = λ u l d proper e. start_of_code u proper l d e

pub returns-clause-root : goal.returns-clause-root
returns-clause-root c = λ u x e. root_rests u x e
