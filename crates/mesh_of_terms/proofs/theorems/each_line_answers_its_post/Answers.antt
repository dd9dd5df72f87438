use Rattle.mesh_of_terms.proofs.WaitingTerms.{answers, answers_on_wires}
use Rattle.mesh_of_terms.proofs.theorems.each_line_answers_its_post.Goals as goal

pub returns-clause-answers : goal.returns-clause-answers
returns-clause-answers c = λ p l q es none written fit. answers p none written l fit q es

pub returns-clause-on_wires : goal.returns-clause-on_wires
returns-clause-on_wires c = λ p l q es none written fit. answers_on_wires p none written l fit q es
