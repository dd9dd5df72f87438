use Rattle.mesh_semantics.proofs.Cycles.{every_cycle, is_cycle}
use Rattle.mesh_semantics.proofs.theorems.cycles_are_all_and_no_other.Goals as goal

pub returns-clause-all : goal.returns-clause-all
returns-clause-all g c = λ h k d ns z. every_cycle h k d ns z

pub returns-clause-no_other : goal.returns-clause-no_other
returns-clause-no_other g c = λ h k d ns i. is_cycle h k d ns i
