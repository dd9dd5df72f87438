use Rattle.search_laws.proofs.DeadByList.{nobody_dead, dead_by_list}
use Rattle.search_laws.proofs.GoesOn.{all_go_on}
use Rattle.search_laws.proofs.Known.{known_reached}
use Rattle.search_laws.proofs.theorems.a_list_tells_the_dead.Goals as goal

pub returns-clause-nobody : goal.returns-clause-nobody
returns-clause-nobody c = λ p es d less whole on reached. nobody_dead p es less whole on d reached

pub returns-clause-dead : goal.returns-clause-dead
returns-clause-dead c = λ p o n es c less closed i reached waits. dead_by_list p less o n es c closed i (known_reached p less n c reached) waits

pub returns-clause-each_goes_on : goal.returns-clause-each_goes_on
returns-clause-each_goes_on c = λ p es d o less whole on reached waits. all_go_on p es less whole on d o reached waits
