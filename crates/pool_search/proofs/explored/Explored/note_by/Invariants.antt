use Rattle.pool_search.specs.Entries.{entries, searched}
use Rattle.pool_search.specs.KnownWaiters.{AreKnown}
use Rattle.pool_search.proofs.explored.Explored.note_by.Given as goal

-- what is noted is so
abbrev pub invariant-loop-index : goal.invariant-loop-index
invariant-loop-index l = AreKnown (searched l.fn.self) (entries l.fn.self) l.waiters.list.items
