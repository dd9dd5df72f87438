use Rattle.search_laws.proofs.AllLabelsTried.{whole_by_trying, whole_with_writes}
use Rattle.search_laws.proofs.theorems.a_tried_list_is_whole.Goals as goal

pub returns-clause-states : goal.returns-clause-states
returns-clause-states c = λ p es less all. whole_by_trying p es less all

pub returns-clause-outcomes : goal.returns-clause-outcomes
returns-clause-outcomes c = λ p es less all. whole_with_writes p es less all
