use Rattle.mesh_of_terms.specs.Terms.{terms}
use Rattle.mesh_of_terms.specs.RunOf.{TypedTerms}
use Rattle.mesh_semantics.proofs.Laws.{act_answers, fit_of}
use Rattle.mesh_of_terms.proofs.LawfulTerms.{lawful}
use Rattle.mesh_of_terms.proofs.theorems.each_event_answers.Goals as goal

pub returns : goal.returns
returns c = λ p l q k d e none written fit s. act_answers (terms p) (TypedTerms p) (lawful p none written) l (fit_of (terms p) l fit) k d q e s
