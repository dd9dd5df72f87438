-- An event of a machine whose act agrees with the act of the configuration.
use Rattle.std.specs.Prelude.{◌≡◌}
use Rattle.run_types.specs.declared.types.Placement.{Placement}
use Rattle.mesh_semantics.specs.Language.{Language}
use Rattle.mesh_semantics.specs.Act as A
use Rattle.mesh_semantics.specs.Act.{Acted}
use Rattle.node_semantics.specs.Machine as M
use Rattle.node_semantics.specs.Machine.{MachineActed}
use Rattle.node_semantics.specs.StandsFor.{MachineStandsFor}

-- the same line, and the machine then stands for what is after it; or the same limit
abbrev pub Agrees : {S : Type 0} → Language S → Placement → MachineActed S → Acted S → Type 0
Agrees g l (M.Acts w m) (A.Acts v c d) = (w ≡ v) × MachineStandsFor g l m c d
Agrees g l (M.Acts w m) (A.Full k n) = ⊥
Agrees g l (M.Acts w m) A.Nothing = ⊥
Agrees g l (M.Full j b) (A.Acts v c d) = ⊥
Agrees g l (M.Full j b) (A.Full k n) = (j ≡ k) × (b ≡ n)
Agrees g l (M.Full j b) A.Nothing = ⊥
Agrees g l M.Nothing a = ⊥
