use Rattle.std.proofs.Math.Logic.{∥∥₁_map}
use Rattle.pool_semantics.proofs.plain.Plain.of.Goals as goal

pub invariant_of-result : goal.invariant_of-result
invariant_of-result c = record { typed = ∥∥₁_map c.requires (λ s _. s) }
