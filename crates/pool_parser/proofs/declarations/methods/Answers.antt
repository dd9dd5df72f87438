use Rattle.std.proofs.Common.{arith, rules}
use Rattle.expression_parser.proofs.Laws.{passed_on}
use Rattle.pool_parser.proofs.Lists.{map-last}
use Rattle.pool_parser.proofs.DeclarationRules.{method_read, methods_refused, methods_end}
use Rattle.pool_parser.proofs.declarations.methods.Goals as goal

pub returns-in-Err-clause-parses : goal.returns-in-Err-clause-parses
returns-in-Err-clause-parses c = passed_on (λ u R. c.methods.invariant.2 _ (methods_refused _ (c.methods-test.ensures.yes (search rules)) R)) _ c.in-Err.ensures.parses

pub methods-preserved : goal.methods-preserved
methods-preserved c = (
  omega (arith, c.in-Ok.ensures.next),
  omega (arith, c.in-Ok.ensures.next),
  λ o R. c.methods.invariant.2 _ (method_read _ _ o (c.methods-test.ensures.yes (search rules)) c.in-Ok.ensures.parses (rw (c.in-Ok-pushed.ensures.ok, map-last) at R)),
)

pub returns-clause-parses : goal.returns-clause-parses
returns-clause-parses c = c.methods.invariant.2 _ (methods_end _ (c.methods-test.ensures.no (search rules)))
