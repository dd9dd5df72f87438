use Rattle.run_types.specs.GivenProperties.{IsGiven}
use Rattle.mesh_semantics.proofs.PlacementFit.{fit_of}
use Rattle.mesh_semantics.proofs.MadeLines.{lines_made}
use Rattle.mesh_semantics.proofs.theorems.each_line_is_made_where_the_lines_before_lead.Goals as goal

pub returns : goal.returns
returns g c = λ h kept l q k d done es law fit s wired. lines_made h (IsGiven kept) law l (fit_of h l fit) q es k d done s wired
