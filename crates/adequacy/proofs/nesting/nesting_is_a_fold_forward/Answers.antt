use Rattle.adequacy.proofs.BackwardNesting.{nesting_is}
use Rattle.adequacy.proofs.nesting.nesting_is_a_fold_forward.Goals as goal

pub returns : goal.returns
returns c = nesting_is
