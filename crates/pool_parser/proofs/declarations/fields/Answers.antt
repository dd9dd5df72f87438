use Rattle.std.proofs.Common.{arith, rules}
use Rattle.pool_parser.proofs.DeclarationExits.{declared_off}
use Rattle.pool_parser.proofs.DeclarationRules.{vars_read, vars_refused, vars_end}
use Rattle.pool_parser.proofs.declarations.fields.Goals as goal

pub returns-in-Err-clause-parses : goal.returns-in-Err-clause-parses
returns-in-Err-clause-parses c = declared_off _ (λ u R. c.fields.invariant.2 _ (vars_refused _ (c.fields-test.ensures.yes (search rules)) R)) _ c.in-Err.ensures.parses

pub fields-preserved : goal.fields-preserved
fields-preserved c = (
  omega (arith, c.in-Ok.ensures.next),
  omega (arith, c.in-Ok.ensures.next),
  λ o R. c.fields.invariant.2 _ (vars_read _ _ o (c.fields-test.ensures.yes (search rules)) c.in-Ok.ensures.parses R),
)

pub returns-clause-parses : goal.returns-clause-parses
returns-clause-parses c = c.fields.invariant.2 _ (vars_end _ (c.fields-test.ensures.no (search rules)))
