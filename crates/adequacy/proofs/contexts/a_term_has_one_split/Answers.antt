use Rattle.adequacy.proofs.UniqueDecomposition.{expressions_same, statements_same, never_both}
use Rattle.adequacy.proofs.contexts.a_term_has_one_split.Goals as goal

pub returns-clause-expression : goal.returns-clause-expression
returns-clause-expression c = expressions_same

pub returns-clause-statement : goal.returns-clause-statement
returns-clause-statement c = statements_same

pub returns-clause-never_both : goal.returns-clause-never_both
returns-clause-never_both c = never_both
