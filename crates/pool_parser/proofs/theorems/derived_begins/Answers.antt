use Rattle.expression_parser.proofs.Laws.{begun_of}
use Rattle.pool_parser.proofs.theorems.derived_begins.Goals as goal

pub returns : goal.returns
returns c = λ ts p i j x d. begun_of d
