use Rattle.mesh_of_code.proofs.TransitionInvariant.{code_lawful}
use Rattle.mesh_of_code.proofs.theorems.code_is_lawful.Goals as goal

pub returns : goal.returns
returns c = λ u proper. code_lawful u proper
