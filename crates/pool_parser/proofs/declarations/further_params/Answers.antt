use Rattle.std.proofs.Common.{arith, rules}
use Rattle.expression_parser.proofs.Laws.{passed_on}
use Rattle.pool_parser.proofs.DeclarationRules.{next_read, next_refused, params_end}
use Rattle.pool_parser.proofs.declarations.further_params.Goals as goal

pub returns-in-Err-clause-parses : goal.returns-in-Err-clause-parses
returns-in-Err-clause-parses c = passed_on (λ u R. c.params.invariant.2 _ (next_refused _ (c.params-test.ensures.yes (search rules)) R)) _ c.in-Err.ensures.parses

pub params-preserved : goal.params-preserved
params-preserved c = (
  omega (arith, c.in-Ok.ensures.next),
  omega (arith, c.in-Ok.ensures.next),
  λ o R. c.params.invariant.2 _ (next_read _ _ o (c.params-test.ensures.yes (search rules)) c.in-Ok.ensures.parses (rw c.in-Ok-pushed.ensures.ok at R)),
)

pub returns-clause-parses : goal.returns-clause-parses
returns-clause-parses c = c.params.invariant.2 _ (params_end _ (c.params-test.ensures.no (search rules)))
