use Rattle.std.proofs.Common.{refl}
use Rattle.expression_parser.proofs.Laws.{passed_on, unexpected, reads_inner, reads_refused, word_read, word_there, word_missing}
use Rattle.statement_parser.proofs.Laws.{ends_statements}
use Rattle.pool_parser.proofs.declarations.class_body.Goals as goal

pub returns-in-Err-clause-parses : goal.returns-in-Err-clause-parses
returns-in-Err-clause-parses c = unexpected _ _ _ _ _ _ c.in-Err.ensures.err.0 (word_missing c.in-Err.ensures.err.1)

pub returns-in-Err-statements-clause-parses : goal.returns-in-Err-statements-clause-parses
returns-in-Err-statements-clause-parses c = passed_on (λ u R. word_read c.in-Ok.ensures.ok (reads_refused R (λ z. ends_statements refl refl))) _ c.in-Err-statements.ensures.parses

pub returns-in-Err-expect-clause-parses : goal.returns-in-Err-expect-clause-parses
returns-in-Err-expect-clause-parses c = unexpected _ _ _ _ _ _ c.in-Err-expect.ensures.err.0 (word_read c.in-Ok.ensures.ok (reads_inner c.in-Ok-statements.ensures.parses (λ z. ends_statements refl refl) (word_missing c.in-Err-expect.ensures.err.1)))

pub returns-clause-parses : goal.returns-clause-parses
returns-clause-parses c = word_read c.in-Ok.ensures.ok (reads_inner c.in-Ok-statements.ensures.parses (λ z. ends_statements refl refl) (word_there c.in-Ok-expect.ensures.ok))
