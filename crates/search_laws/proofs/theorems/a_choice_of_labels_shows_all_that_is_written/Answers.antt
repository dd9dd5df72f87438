use Rattle.search_laws.proofs.ChosenOutcomes.{every_end_is_kept_by_choices, nothing_else_by_choices, whatever_the_names_by_choices}
use Rattle.search_laws.proofs.theorems.a_choice_of_labels_shows_all_that_is_written.Goals as goal

pub returns-clause-kept : goal.returns-clause-kept
returns-clause-kept c = every_end_is_kept_by_choices

pub returns-clause-nothing_else : goal.returns-clause-nothing_else
returns-clause-nothing_else c = nothing_else_by_choices

pub returns-clause-whatever_the_names : goal.returns-clause-whatever_the_names
returns-clause-whatever_the_names c = whatever_the_names_by_choices
