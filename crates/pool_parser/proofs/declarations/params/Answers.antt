use Rattle.std.proofs.Common.{rules}
use Rattle.expression_parser.proofs.Laws.{passed_on, unexpected, sign_there, sign_missing}
use Rattle.pool_parser.proofs.DeclarationRules.{params_missing, params_empty, params_refused, params_refused_later, params_read}
use Rattle.pool_parser.proofs.declarations.params.Goals as goal

pub returns-in-Err-clause-parses : goal.returns-in-Err-clause-parses
returns-in-Err-clause-parses c = unexpected _ _ _ _ _ _ c.in-Err.ensures.err.0 (params_missing c.in-Err.ensures.err.1)

pub returns-then-is_at-clause-parses : goal.returns-then-is_at-clause-parses
returns-then-is_at-clause-parses c = rw c.make.ensures (params_empty c.in-Ok.ensures.ok (c.is_at.ensures.yes (search rules)))

pub returns-in-Err-param-clause-parses : goal.returns-in-Err-param-clause-parses
returns-in-Err-param-clause-parses c = passed_on (λ u. params_refused c.in-Ok.ensures.ok (c.is_at.ensures.no (search rules))) _ c.in-Err-param.ensures.parses

pub returns-in-Err-further_params-clause-parses : goal.returns-in-Err-further_params-clause-parses
returns-in-Err-further_params-clause-parses c = passed_on (λ u R. params_refused_later c.in-Ok.ensures.ok (c.is_at.ensures.no (search rules)) c.in-Ok-param.ensures.parses (rw (c.in-Ok-pushed.ensures.ok, c.make-params.ensures) at R)) _ c.in-Err-further_params.ensures.parses

pub returns-in-Err-expect-clause-parses : goal.returns-in-Err-expect-clause-parses
returns-in-Err-expect-clause-parses c = unexpected _ _ _ _ _ _ c.in-Err-expect.ensures.err.0 (params_read c.in-Ok.ensures.ok (c.is_at.ensures.no (search rules)) c.in-Ok-param.ensures.parses
    (rw (c.in-Ok-pushed.ensures.ok, c.make-params.ensures) at c.in-Ok-further_params.ensures.parses) (sign_missing c.in-Err-expect.ensures.err.1))

pub returns-clause-parses : goal.returns-clause-parses
returns-clause-parses c = params_read c.in-Ok.ensures.ok (c.is_at.ensures.no (search rules)) c.in-Ok-param.ensures.parses
    (rw (c.in-Ok-pushed.ensures.ok, c.make-params.ensures) at c.in-Ok-further_params.ensures.parses) (sign_there c.in-Ok-expect.ensures.ok)
