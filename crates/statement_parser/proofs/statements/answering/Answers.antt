use Rattle.expression_parser.specs.Reads.{read, refused}
use Rattle.expression_parser.proofs.Laws.{passed_on}
use Rattle.statement_parser.proofs.SimpleStatements.{answer_read}
use Rattle.statement_parser.proofs.statements.answering.Goals as goal

pub returns-in-Err-clause-parses : goal.returns-in-Err-clause-parses
returns-in-Err-clause-parses c = passed_on (λ u. answer_read (refused u) c.requires.word) _ c.in-Err.ensures.parses

pub returns-clause-parses : goal.returns-clause-parses
returns-clause-parses c = answer_read (read _ _) c.requires.word c.in-Ok.ensures.parses
