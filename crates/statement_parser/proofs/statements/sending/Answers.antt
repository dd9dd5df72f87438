use Rattle.std.proofs.Common.{rules}
use Rattle.expression_parser.specs.Reads.{read, refused}
use Rattle.expression_parser.proofs.Laws.{passed_on, unexpected}
use Rattle.statement_parser.proofs.SimpleStatements.{sending_refused, sending_alone, sending_none, sending_missing, sending_read}
use Rattle.statement_parser.proofs.statements.sending.Goals as goal

pub returns-in-Err-clause-parses : goal.returns-in-Err-clause-parses
returns-in-Err-clause-parses c = passed_on (λ u. sending_refused) _ c.in-Err.ensures.parses

pub returns-in-Err-expect_name-clause-parses : goal.returns-in-Err-expect_name-clause-parses
returns-in-Err-expect_name-clause-parses c = unexpected _ _ _ _ _ _ c.in-Err-expect_name.ensures.err.0 (sending_missing c.in-Ok.ensures.parses (c.is_at.ensures.yes (search rules)) c.in-Err-expect_name.ensures.err.1)

pub returns-in-Err-arguments-clause-parses : goal.returns-in-Err-arguments-clause-parses
returns-in-Err-arguments-clause-parses c = passed_on (λ u. sending_read c.in-Ok-expect_name.read (refused u) c.in-Ok.ensures.parses (c.is_at.ensures.yes (search rules)) c.in-Ok-expect_name.ensures.ok) _ c.in-Err-arguments.ensures.parses

pub returns-in-Ok-arguments-clause-parses : goal.returns-in-Ok-arguments-clause-parses
returns-in-Ok-arguments-clause-parses c =
    sending_read c.in-Ok-expect_name.read (read _ _) c.in-Ok.ensures.parses (c.is_at.ensures.yes (search rules)) c.in-Ok-expect_name.ensures.ok c.in-Ok-arguments.ensures.parses

pub returns-then-to-clause-parses : goal.returns-then-to-clause-parses
returns-then-to-clause-parses c = sending_alone c.in-Ok.ensures.parses (c.is_at.ensures.no (search rules)) (rw c.if-to.true at c.in-Ok.ensures.invokes)

pub returns-else-to-clause-parses : goal.returns-else-to-clause-parses
returns-else-to-clause-parses c = sending_none c.in-Ok.ensures.parses (c.is_at.ensures.no (search rules)) (rw c.if-to.false at c.in-Ok.ensures.invokes)
