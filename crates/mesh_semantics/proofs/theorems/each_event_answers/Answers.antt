use Rattle.run_types.specs.GivenProperties.{IsGiven}
use Rattle.mesh_semantics.proofs.PlacementFit.{fit_of}
use Rattle.mesh_semantics.proofs.EventSoundness.{act_answers}
use Rattle.mesh_semantics.proofs.theorems.each_event_answers.Goals as goal

pub returns : goal.returns
returns g c = λ h kept l q k d e law fit s. act_answers h (IsGiven kept) law l (fit_of h l fit) k d q e s
