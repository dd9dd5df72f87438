use Rattle.adequacy.proofs.HoleReplacement.{expression_replaced, statement_replaced}
use Rattle.adequacy.proofs.contexts.another_part_stands_in_the_same_context.Goals as goal

pub returns-clause-expression : goal.returns-clause-expression
returns-clause-expression c = expression_replaced

pub returns-clause-statement : goal.returns-clause-statement
returns-clause-statement c = statement_replaced
