use Rattle.expression_parser.proofs.Laws.{shorter}
use Rattle.pool_parser.proofs.theorems.front_begins.Goals as goal

pub returns : goal.returns
returns c = λ ts p i j k b l m. shorter k b l m
