use Rattle.run_types.specs.GivenProperties.{IsGiven}
use Rattle.mesh_semantics.proofs.QuietIsFinal.{no_transition}
use Rattle.mesh_semantics.proofs.theorems.quiet_has_no_transition.Goals as goal

pub returns : goal.returns
returns g c = λ h kept l k d lab s quiet. no_transition h (IsGiven kept) l k d s quiet lab
