use Rattle.search_laws.proofs.CaughtWalk.{caught_tells, is_told_caught}
use Rattle.search_laws.proofs.theorems.a_walk_tells_the_caught.Goals as goal

pub returns-clause-told : goal.returns-clause-told
returns-clause-told c = λ p c o caught. caught_tells p c o caught

pub returns-clause-true_of : goal.returns-clause-true_of
returns-clause-true_of c = λ p c o h. is_told_caught p c o h
