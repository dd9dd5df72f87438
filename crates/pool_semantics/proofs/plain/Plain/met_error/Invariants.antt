use Rattle.std.proofs.Common.{None}
use Rattle.std.specs.Ordering.{nat_cmp}
use Rattle.pool_semantics.specs.Plains.{configuration}
use Rattle.pool_semantics.proofs.WaitingObjects.{FailedBy}
use Rattle.pool_semantics.proofs.Least.{Searched}
use Rattle.pool_semantics.proofs.plain.Plain.met_error.Given as goal

abbrev pub invariant-loop-object : goal.invariant-loop-object
invariant-loop-object l = Searched nat_cmp (FailedBy (configuration l.self.state)) None l.object-iterator
