use Rattle.std.proofs.Common.{arith, rules}
use Rattle.pool_parser.proofs.DeclarationExits.{declared_off}
use Rattle.pool_parser.proofs.DeclarationRules.{locals_read, locals_refused, locals_end}
use Rattle.pool_parser.proofs.declarations.locals.Goals as goal

pub returns-in-Err-clause-parses : goal.returns-in-Err-clause-parses
returns-in-Err-clause-parses c = declared_off _ (λ u R. c.locals.invariant.2 _ (locals_refused _ (c.locals-test.ensures.yes (search rules)) R)) _ c.in-Err.ensures.parses

pub locals-preserved : goal.locals-preserved
locals-preserved c = (
  omega (arith, c.in-Ok.ensures.next),
  omega (arith, c.in-Ok.ensures.next),
  λ o R. c.locals.invariant.2 _ (locals_read _ _ o (c.locals-test.ensures.yes (search rules)) c.in-Ok.ensures.parses R),
)

pub returns-clause-parses : goal.returns-clause-parses
returns-clause-parses c = c.locals.invariant.2 _ (locals_end _ (c.locals-test.ensures.no (search rules)))
