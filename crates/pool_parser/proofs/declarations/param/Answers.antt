use Rattle.expression_parser.proofs.Laws.{passed_on, unexpected}
use Rattle.pool_parser.proofs.DeclarationRules.{param_missing, param_colon, param_refused, param_read}
use Rattle.pool_parser.proofs.declarations.param.Goals as goal

pub returns-in-Err-clause-parses : goal.returns-in-Err-clause-parses
returns-in-Err-clause-parses c = unexpected _ _ _ _ _ _ c.in-Err.ensures.err.0 (param_missing c.in-Err.ensures.err.1)

pub returns-in-Err-expect-clause-parses : goal.returns-in-Err-expect-clause-parses
returns-in-Err-expect-clause-parses c = unexpected _ _ _ _ _ _ c.in-Err-expect.ensures.err.0 (param_colon c.in-Ok.read c.in-Ok.ensures.ok c.in-Err-expect.ensures.err.1)

pub returns-in-Err-kind-clause-parses : goal.returns-in-Err-kind-clause-parses
returns-in-Err-kind-clause-parses c = passed_on (λ u. param_refused c.in-Ok.read c.in-Ok.ensures.ok c.in-Ok-expect.ensures.ok) _ c.in-Err-kind.ensures.parses

pub returns-clause-parses : goal.returns-clause-parses
returns-clause-parses c = param_read c.in-Ok.read c.in-Ok-kind.read.0 c.in-Ok.ensures.ok c.in-Ok-expect.ensures.ok c.in-Ok-kind.ensures.parses
