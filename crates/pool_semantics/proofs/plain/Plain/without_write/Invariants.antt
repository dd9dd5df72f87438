use Rattle.std.proofs.Common.{None}
use Rattle.std.specs.Ordering.{nat_cmp}
use Rattle.pool_syntax.specs.TreeOf.{program_of}
use Rattle.pool_semantics.specs.Plains.{configuration}
use Rattle.pool_semantics.proofs.Least.{Searched}
use Rattle.pool_semantics.proofs.SilentSteps.{GoesSilent}
use Rattle.pool_semantics.proofs.plain.Plain.without_write.Given as goal

abbrev pub invariant-loop-object : goal.invariant-loop-object
invariant-loop-object l = Searched nat_cmp (GoesSilent (program_of l.self.state.program.now) (configuration l.self.state)) None l.object-iterator
