use Rattle.run_types.specs.GivenProperties.{IsGiven, AreGiven}
use Rattle.mesh_semantics.specs.Simulates.{Corresponds}
use Rattle.mesh_semantics.proofs.LawfulnessTransfer.{lawful_across}
use Rattle.mesh_semantics.proofs.SoundnessTransfer.{sound_across}
use Rattle.mesh_semantics.proofs.theorems.laws_go_across.Goals as goal

pub returns-clause-lawful : goal.returns-clause-lawful
returns-clause-lawful r c = λ g h kept same law sim. lawful_across g h (IsGiven kept) (AreGiven same) law sim

pub returns-clause-sound : goal.returns-clause-sound
returns-clause-sound r c = λ g h kept same l k e d law sim s z.
    sound_across g h (IsGiven kept) (AreGiven same) sim law.kept k e z (Corresponds (IsGiven kept) (AreGiven same)) l d (k, s.state.typed, z) s
