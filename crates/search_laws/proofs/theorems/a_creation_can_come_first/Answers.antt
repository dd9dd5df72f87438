use Rattle.search_laws.proofs.Births.{brought_first}
use Rattle.search_laws.proofs.theorems.a_creation_can_come_first.Goals as goal

pub returns : goal.returns
returns c = λ p n o k s d e ls less reached step orders leads. brought_first p less n o k s d e ls reached step orders leads
