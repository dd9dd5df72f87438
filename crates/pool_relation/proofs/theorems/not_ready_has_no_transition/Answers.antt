use Rattle.pool_relation.proofs.UnreadyHasNoStep.{no_transition}
use Rattle.pool_relation.proofs.theorems.not_ready_has_no_transition.Goals as goal

pub returns : goal.returns
returns c p root x l h = no_transition p root x h l
