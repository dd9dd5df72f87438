use Rattle.std.proofs.Common.{rules}
use Rattle.pool_syntax.specs.TreeOf.{statement_of}
use Rattle.expression_parser.specs.Reads.{read, refused}
use Rattle.expression_parser.proofs.Laws.{passed_on, relay}
use Rattle.statement_parser.proofs.SimpleStatements.{named_read, assign_read}
use Rattle.statement_parser.proofs.statements.named_statement.Goals as goal

pub returns-in-Err-clause-parses : goal.returns-in-Err-clause-parses
returns-in-Err-clause-parses c = passed_on (λ u. assign_read c.args.target (refused u) (c.requires.name, c.requires.place) (c.is_at.ensures.yes (search rules))) _ c.in-Err.ensures.parses

pub returns-in-Ok-clause-parses : goal.returns-in-Ok-clause-parses
returns-in-Ok-clause-parses c = assign_read c.args.target (read _ _) (c.requires.name, c.requires.place) (c.is_at.ensures.yes (search rules)) c.in-Ok.ensures.parses

pub returns-else-is_at-clause-parses : goal.returns-else-is_at-clause-parses
returns-else-is_at-clause-parses c = relay _ _ _ _ _ _ _ statement_of statement_of
    (λ x k. named_read _ c.requires.name (c.is_at.ensures.no (search rules))) (λ u. named_read _ c.requires.name (c.is_at.ensures.no (search rules))) _ c.sending.ensures.parses
