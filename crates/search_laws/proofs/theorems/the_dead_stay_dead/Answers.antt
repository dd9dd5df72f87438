use Rattle.search_laws.proofs.Dead.{dead_for_good}
use Rattle.search_laws.proofs.theorems.the_dead_stay_dead.Goals as goal

pub returns : goal.returns
returns c = λ p c d ls o dead leads. dead_for_good p c d ls o dead leads
