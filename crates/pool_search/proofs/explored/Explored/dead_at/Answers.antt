use Rattle.std.proofs.Common.{subst, sym}
use Rattle.pool_search.specs.Progress.{AllInOrder}
use Rattle.pool_search.proofs.explored.Explored.dead_at.Goals as goal

pub is_dead-requires : goal.is_dead-requires
is_dead-requires c = subst AllInOrder (sym c.loop-waiting.invariant.same) c.requires.in_order
