use Rattle.mesh_of_terms.proofs.Instance.{move_is}
use Rattle.mesh_of_terms.proofs.StartAndEvents.{moves_are_run, starts_plain}
use Rattle.mesh_of_terms.proofs.theorems.terms_move_by_the_relation.Goals as goal

pub returns-clause-transition : goal.returns-clause-transition
returns-clause-transition c = λ p k lab. move_is p k lab

pub returns-clause-run : goal.returns-clause-run
returns-clause-run c = λ p k labs. moves_are_run p k labs

pub returns-clause-start : goal.returns-clause-start
returns-clause-start c = λ p l. starts_plain p l
