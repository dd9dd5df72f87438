use Rattle.std.specs.Prelude.{[]}
use Rattle.run_types.specs.GivenProperties.{IsGiven}
use Rattle.mesh_semantics.specs.Delay.{no_delay}
use Rattle.mesh_semantics.proofs.SoundStart.{placed_start_sound, with_wires}
use Rattle.mesh_semantics.proofs.theorems.the_start_is_sound.Goals as goal

pub returns-clause-start : goal.returns-clause-start
returns-clause-start g c = λ h kept l x k fit root idle s w. placed_start_sound h (IsGiven kept) l fit x k root idle s w

pub returns-clause-on_wires : goal.returns-clause-on_wires
returns-clause-on_wires g c = λ h kept l x k fit root idle s w. with_wires h (IsGiven kept) l k no_delay [] (placed_start_sound h (IsGiven kept) l fit x k root idle s w)
