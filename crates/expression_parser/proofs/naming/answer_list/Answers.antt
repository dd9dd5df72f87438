use Rattle.expression_parser.proofs.Exits.{passed_on, unexpected}
use Rattle.expression_parser.proofs.SingleTokens.{sign_there, sign_missing}
use Rattle.expression_parser.proofs.NameLists.{list_missing, list_refused, list_read}
use Rattle.expression_parser.proofs.naming.answer_list.Goals as goal

pub returns-in-Err-clause-parses : goal.returns-in-Err-clause-parses
returns-in-Err-clause-parses c = unexpected _ _ _ _ _ _ c.in-Err.ensures.err.0 (list_missing c.in-Err.ensures.err.1)

pub returns-in-Err-names-clause-parses : goal.returns-in-Err-names-clause-parses
returns-in-Err-names-clause-parses c = passed_on (λ u. list_refused c.in-Ok.ensures.ok) _ c.in-Err-names.ensures.parses

pub returns-in-Err-expect-clause-parses : goal.returns-in-Err-expect-clause-parses
returns-in-Err-expect-clause-parses c = unexpected _ _ _ _ _ _ c.in-Err-expect.ensures.err.0 (list_read c.in-Ok.ensures.ok c.in-Ok-names.ensures.parses (sign_missing c.in-Err-expect.ensures.err.1))

pub returns-clause-parses : goal.returns-clause-parses
returns-clause-parses c = list_read c.in-Ok.ensures.ok c.in-Ok-names.ensures.parses (sign_there c.in-Ok-expect.ensures.ok)
