use Rattle.adequacy.proofs.ContextAssignment.{sets_temp, sets_variable, is_stuck}
use Rattle.adequacy.proofs.contexts.an_assignment_sets_the_nearest_variable.Goals as goal

pub returns-clause-temp : goal.returns-clause-temp
returns-clause-temp c = sets_temp

pub returns-clause-variable : goal.returns-clause-variable
returns-clause-variable c = sets_variable

pub returns-clause-neither : goal.returns-clause-neither
returns-clause-neither c = is_stuck
