use Rattle.run_types.specs.GivenProperties.{IsGiven, AreGiven}
use Rattle.mesh_semantics.proofs.SameActs.{act_same, quiet_same}
use Rattle.mesh_semantics.proofs.theorems.acts_agree.Goals as goal

pub returns-clause-acts : goal.returns-clause-acts
returns-clause-acts r c = λ g h kept same l q k e d ev law sim w z. act_same g h (IsGiven kept) (AreGiven same) sim law.kept k e w z l q d ev

pub returns-clause-quiet : goal.returns-clause-quiet
returns-clause-quiet r c = λ g h kept same k e d law sim z. quiet_same g h (IsGiven kept) (AreGiven same) sim law.kept k e d z
