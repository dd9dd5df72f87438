use Rattle.search_laws.proofs.ByChoices.{for_ends, never_faulty_by_choices, nobody_dead_by_choices, dead_by_choices}
use Rattle.search_laws.proofs.GoesOn.{all_go_on_by_choices}
use Rattle.search_laws.proofs.Known.{known_reached}
use Rattle.search_laws.proofs.theorems.choices_that_lead_on_show_what_stays.Goals as goal

pub returns-clause-ends : goal.returns-clause-ends
returns-clause-ends c = for_ends

pub returns-clause-faulty : goal.returns-clause-faulty
returns-clause-faulty c = λ p es d less whole none reached. never_faulty_by_choices p es less whole none d reached

pub returns-clause-nobody : goal.returns-clause-nobody
returns-clause-nobody c = λ p es d less whole on reached. nobody_dead_by_choices p es less whole on d reached

pub returns-clause-dead : goal.returns-clause-dead
returns-clause-dead c = λ p o n es c less closed i reached waits. dead_by_choices p o less n es c closed i (known_reached p less n c reached) waits

pub returns-clause-each_goes_on : goal.returns-clause-each_goes_on
returns-clause-each_goes_on c = λ p es d o less whole on reached waits. all_go_on_by_choices p es less whole on d o reached waits
