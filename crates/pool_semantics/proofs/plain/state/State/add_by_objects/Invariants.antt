use Rattle.std.specs.Ordering.{nat_cmp}
use Rattle.pool_syntax.specs.TreeOf.{program_of}
use Rattle.pool_semantics.specs.Moving.{MovesBy}
use Rattle.pool_semantics.specs.Plains.{configuration}
use Rattle.pool_semantics.proofs.MoverSets.{Collected}
use Rattle.pool_semantics.proofs.plain.state.State.add_by_objects.Given as goal

abbrev pub invariant-loop-object : goal.invariant-loop-object
invariant-loop-object l = Collected nat_cmp (MovesBy (program_of l.self.program.now) (configuration l.self)) l.fn.movers l.movers l.object-iterator
