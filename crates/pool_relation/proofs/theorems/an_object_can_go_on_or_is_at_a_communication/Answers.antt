use Rattle.pool_relation.proofs.Progress.{goes_on_or_meets}
use Rattle.pool_relation.proofs.theorems.an_object_can_go_on_or_is_at_a_communication.Goals as goal

pub returns : goal.returns
returns c = λ p d o x none written w e n more. goes_on_or_meets p none written d o x w e n more
