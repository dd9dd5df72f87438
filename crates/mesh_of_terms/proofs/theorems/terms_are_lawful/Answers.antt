use Rattle.mesh_of_terms.proofs.LawfulTerms.{lawful}
use Rattle.mesh_of_terms.proofs.theorems.terms_are_lawful.Goals as goal

pub returns : goal.returns
returns c = λ p none written. lawful p none written
