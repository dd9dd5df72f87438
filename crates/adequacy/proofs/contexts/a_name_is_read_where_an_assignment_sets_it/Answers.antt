use Rattle.adequacy.proofs.ContextAssignment.{reads_temp, reads_variable}
use Rattle.adequacy.proofs.contexts.a_name_is_read_where_an_assignment_sets_it.Goals as goal

pub returns-clause-temp : goal.returns-clause-temp
returns-clause-temp c = reads_temp

pub returns-clause-variable : goal.returns-clause-variable
returns-clause-variable c = reads_variable
