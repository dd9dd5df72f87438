use Rattle.std.proofs.Common.{arith, rules}
use Rattle.expression_parser.proofs.Laws.{passed_on}
use Rattle.pool_parser.proofs.Lists.{map-last}
use Rattle.pool_parser.proofs.DeclarationRules.{next_class_read, next_class_refused, classes_end}
use Rattle.pool_parser.proofs.declarations.further_classes.Goals as goal

pub returns-in-Err-clause-parses : goal.returns-in-Err-clause-parses
returns-in-Err-clause-parses c = passed_on (λ u R. c.classes.invariant.2 _ (next_class_refused _ (c.classes-test.ensures.yes (search rules)) R)) _ c.in-Err.ensures.parses

pub classes-preserved : goal.classes-preserved
classes-preserved c = (
  omega (arith, c.in-Ok.ensures.next),
  omega (arith, c.in-Ok.ensures.next),
  λ o R. c.classes.invariant.2 _ (next_class_read _ _ o (c.classes-test.ensures.yes (search rules)) c.in-Ok.ensures.parses (rw (c.in-Ok-pushed.ensures.ok, map-last) at R)),
)

pub returns-clause-parses : goal.returns-clause-parses
returns-clause-parses c = c.classes.invariant.2 _ (classes_end _ (c.classes-test.ensures.no (search rules)))
