use Rattle.std.proofs.Common.{ap}
use Rattle.pool_syntax.specs.TreeOf.{expression_of}
use Rattle.expression_parser.proofs.Lists.{send-tree}
use Rattle.expression_parser.proofs.expressions.send.Goals as goal

pub returns-clause-ok : goal.returns-clause-ok
returns-clause-ok c = send-tree _ _ _ _ _ (ap expression_of c.in-Ok.ensures.ok)
