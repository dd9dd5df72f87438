-- A placement that fits a program has the paths that the proofs use.
use Rattle.run_types.specs.declared.types.Placement.{Placement}
use Rattle.mesh_semantics.specs.Language.{Language}
use Rattle.mesh_semantics.proofs.Fit.{Fit}
use Rattle.mesh_semantics.specs.FitFor.{FitFor}

pub fit_of : {S : Type 0} (g : Language S) (l : Placement) → FitFor g l → Fit l
fit_of g l f = record { ways = f.ways; objects = f.objects.1; nodes = f.nodes; places = f.places }
