use Rattle.run_types.specs.GivenProperties.{IsGiven, AreGiven}
use Rattle.mesh_semantics.proofs.PlacementFit.{fit_of}
use Rattle.mesh_semantics.proofs.SameRecords.{records_agree}
use Rattle.mesh_semantics.proofs.theorems.records_agree.Goals as goal

pub returns : goal.returns
returns r c = λ g h kept same l q k e d done es law sim fit s z. records_agree g h (IsGiven kept) (AreGiven same) law sim l (fit_of g l fit) q es k e d done s z
