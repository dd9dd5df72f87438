use Rattle.pool_parser.proofs.Unambiguity as unique
use Rattle.pool_parser.proofs.theorems.one_program.Goals as goal

pub returns : goal.returns
returns c = λ ts p q d e. unique.one_program ts p q d e
