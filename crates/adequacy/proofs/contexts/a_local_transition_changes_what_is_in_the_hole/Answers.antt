use Rattle.adequacy.proofs.ContextSteps.{changes_expression, changes_statement}
use Rattle.adequacy.proofs.contexts.a_local_transition_changes_what_is_in_the_hole.Goals as goal

pub returns-clause-expression : goal.returns-clause-expression
returns-clause-expression c = changes_expression

pub returns-clause-statement : goal.returns-clause-statement
returns-clause-statement c = changes_statement
