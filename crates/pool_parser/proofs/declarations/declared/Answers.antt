use Rattle.pool_parser.proofs.DeclarationExits.{declared_on, declared_unexpected}
use Rattle.pool_parser.proofs.DeclarationRules.{declared_refused, colon_missing, kind_wrong, declared_read}
use Rattle.pool_parser.proofs.declarations.declared.Goals as goal

pub returns-in-Err-clause-parses : goal.returns-in-Err-clause-parses
returns-in-Err-clause-parses c = declared_on _ (λ u. declared_refused c.args.vars) _ c.in-Err.ensures.parses

pub returns-in-Err-expect-clause-parses : goal.returns-in-Err-expect-clause-parses
returns-in-Err-expect-clause-parses c = declared_unexpected _ _ _ _ _ c.in-Err-expect.ensures.err.0 (colon_missing c.args.vars c.in-Ok.ensures.parses c.in-Err-expect.ensures.err.1)

pub returns-in-Err-kind-clause-parses : goal.returns-in-Err-kind-clause-parses
returns-in-Err-kind-clause-parses c = declared_on _ (λ u. kind_wrong c.args.vars c.in-Ok.ensures.parses c.in-Ok-expect.ensures.ok) _ c.in-Err-kind.ensures.parses

pub returns-clause-parses : goal.returns-clause-parses
returns-clause-parses c = λ p rest o R. declared_read c.args.vars c.in-Ok.ensures.parses c.in-Ok-expect.ensures.ok c.in-Ok-kind.ensures.parses p rest o
    (rw (c.in-Ok-declare.ensures.ok, c.items.ensures) at R)
