use Rattle.search_laws.proofs.Choices.{never_stuck_by_choices, never_unfinished_by_choices}
use Rattle.search_laws.proofs.theorems.a_choice_of_labels_shows_every_end.Goals as goal

pub returns-clause-stuck : goal.returns-clause-stuck
returns-clause-stuck c = λ p es d less whole none reached. never_stuck_by_choices p es less whole none d reached

pub returns-clause-unfinished : goal.returns-clause-unfinished
returns-clause-unfinished c = λ p es d less whole none reached. never_unfinished_by_choices p es less whole none d reached
