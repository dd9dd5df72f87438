use Rattle.mesh_of_terms.proofs.RootClass.{root_place}
use Rattle.mesh_of_terms.proofs.theorems.root_is_placed_by_its_class.Goals as goal

pub returns : goal.returns
returns c = root_place
