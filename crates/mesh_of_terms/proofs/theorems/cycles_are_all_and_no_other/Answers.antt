use Rattle.mesh_of_terms.specs.Terms.{terms}
use Rattle.mesh_semantics.proofs.Laws.{every_cycle, is_cycle}
use Rattle.mesh_of_terms.proofs.theorems.cycles_are_all_and_no_other.Goals as goal

pub returns-clause-all : goal.returns-clause-all
returns-clause-all c = λ p k d ns z. every_cycle (terms p) k d ns z

pub returns-clause-no_other : goal.returns-clause-no_other
returns-clause-no_other c = λ p k d ns i. is_cycle (terms p) k d ns i
