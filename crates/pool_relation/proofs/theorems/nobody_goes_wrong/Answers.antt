use Rattle.pool_relation.proofs.Progress.{not_wrong}
use Rattle.pool_relation.proofs.theorems.nobody_goes_wrong.Goals as goal

pub returns : goal.returns
returns c = λ p d o x none written w e. not_wrong p none written d o x w e
