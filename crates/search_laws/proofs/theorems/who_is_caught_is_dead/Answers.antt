use Rattle.search_laws.proofs.Caught.{caught_is_dead}
use Rattle.search_laws.proofs.Dead.{stuck_is_dead}
use Rattle.search_laws.proofs.theorems.who_is_caught_is_dead.Goals as goal

pub returns-clause-caught : goal.returns-clause-caught
returns-clause-caught c = λ p c o caught. caught_is_dead p c o caught

pub returns-clause-stuck : goal.returns-clause-stuck
returns-clause-stuck c = λ p c stuck. stuck_is_dead p c stuck
