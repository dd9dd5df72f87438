use Rattle.std.proofs.Common.{None}
use Rattle.std.specs.Ordering.{nat_cmp}
use Rattle.pool_syntax.specs.TreeOf.{program_of}
use Rattle.pool_semantics.specs.Plains.{configuration}
use Rattle.pool_semantics.proofs.WaitingObjects.{StaysBy}
use Rattle.pool_semantics.proofs.Least.{Searched}
use Rattle.pool_semantics.proofs.plain.state.State.any_stays.Given as goal

abbrev pub invariant-loop-object : goal.invariant-loop-object
invariant-loop-object l = Searched nat_cmp (StaysBy (program_of l.self.program.now) (configuration l.self)) None l.object-iterator
