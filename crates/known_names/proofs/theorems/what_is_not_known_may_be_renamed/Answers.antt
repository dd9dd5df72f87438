use Rattle.known_names.proofs.SameUnderNames.{object_same}
use Rattle.known_names.proofs.theorems.what_is_not_known_may_be_renamed.Goals as goal

pub returns : goal.returns
returns c = λ n b t g other keeps. object_same g n b keeps t other
