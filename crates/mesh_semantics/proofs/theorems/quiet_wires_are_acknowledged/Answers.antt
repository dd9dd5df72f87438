use Rattle.mesh_semantics.proofs.EventWireInvariant.{quiet_acknowledged}
use Rattle.mesh_semantics.proofs.theorems.quiet_wires_are_acknowledged.Goals as goal

pub returns : goal.returns
returns g c = λ h k d ws p i q. quiet_acknowledged h k d ws p i q
