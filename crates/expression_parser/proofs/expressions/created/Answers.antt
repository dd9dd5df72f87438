use Rattle.expression_parser.proofs.Exits.{unexpected}
use Rattle.expression_parser.proofs.Primaries.{word_begins_none, primary_refused, new_read, new_refused, new_invokes}
use Rattle.expression_parser.proofs.expressions.created.Goals as goal

pub returns-in-Err-clause-parses : goal.returns-in-Err-clause-parses
returns-in-Err-clause-parses c = unexpected _ _ _ _ _ _ c.in-Err.ensures.err.0 (primary_refused c.requires.word (word_begins_none _ _ c.requires.no_literal (λ e. c.in-Err.ensures.err.1 (rw e at c.requires.word))))

pub returns-in-Err-expect_name-clause-parses : goal.returns-in-Err-expect_name-clause-parses
returns-in-Err-expect_name-clause-parses c = unexpected _ _ _ _ _ _ c.in-Err-expect_name.ensures.err.0 (new_refused c.in-Ok.ensures.ok c.in-Err-expect_name.ensures.err.1)

pub returns-clause-parses : goal.returns-clause-parses
returns-clause-parses c = new_read _ c.in-Ok.ensures.ok c.in-Ok-expect_name.ensures.ok

pub returns-clause-invokes : goal.returns-clause-invokes
returns-clause-invokes c = new_invokes _ c.in-Ok.ensures.ok c.in-Ok-expect_name.ensures.ok
