use Rattle.adequacy.proofs.RedexInHole.{redex_of_expression, redex_of_statement}
use Rattle.adequacy.proofs.contexts.the_redex_in_the_hole_is_found.Goals as goal

pub returns-clause-expression : goal.returns-clause-expression
returns-clause-expression c = redex_of_expression

pub returns-clause-statement : goal.returns-clause-statement
returns-clause-statement c = redex_of_statement
