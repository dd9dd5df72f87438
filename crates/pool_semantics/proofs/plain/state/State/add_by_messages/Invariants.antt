use Rattle.run_types.specs.Tables.{pair_cmp}
use Rattle.pool_syntax.specs.TreeOf.{program_of}
use Rattle.pool_semantics.specs.Plains.{configuration}
use Rattle.pool_semantics.proofs.MoverSearch.{TakesOf}
use Rattle.pool_semantics.proofs.MoverSets.{Collected}
use Rattle.pool_semantics.proofs.plain.state.State.add_by_messages.Given as goal

abbrev pub invariant-loop-pair : goal.invariant-loop-pair
invariant-loop-pair l = Collected pair_cmp (TakesOf (program_of l.self.program.now) (configuration l.self)) l.fn.movers l.movers l.pair-iterator
