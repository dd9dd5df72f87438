use Rattle.run_types.specs.GivenProperties.{IsGiven}
use Rattle.node_semantics.proofs.OutstandingNumbers.{outstanding}
use Rattle.node_semantics.proofs.theorems.numbers_that_are_out_name_waiting_objects.Goals as goal

pub returns : goal.returns
returns g z = λ h kept l m c d n req served is st. outstanding h (IsGiven kept) req served l m c d is st n
