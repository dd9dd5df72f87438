use Rattle.run_types.specs.GivenProperties.{IsGiven}
use Rattle.mesh_semantics.proofs.PlacementFit.{fit_of}
use Rattle.mesh_semantics.proofs.EventSoundness.{act_kept}
use Rattle.mesh_semantics.proofs.theorems.each_event_keeps_sound.Goals as goal

pub returns : goal.returns
returns g c = λ h kept l q k d e law fit s. act_kept h (IsGiven kept) law l (fit_of h l fit) k d q e s
