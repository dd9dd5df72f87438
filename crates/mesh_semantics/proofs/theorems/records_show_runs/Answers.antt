use Rattle.run_types.specs.GivenProperties.{IsGiven}
use Rattle.mesh_semantics.proofs.PlacementFit.{fit_of}
use Rattle.mesh_semantics.proofs.EventSoundness.{record_shows}
use Rattle.mesh_semantics.proofs.theorems.records_show_runs.Goals as goal

pub returns : goal.returns
returns g c = λ h kept l q k d done es law fit s. record_shows h (IsGiven kept) law l (fit_of h l fit) q es k d done s
