use Rattle.std.proofs.Math.Logic.{∥∥₁_map}
use Rattle.pool_semantics.proofs.plain.Plain.state.Goals as goal

pub returns-clause-sound : goal.returns-clause-sound
returns-clause-sound c = λ h. ∥∥₁_map c.args.self.now.typed (λ f. f h)
