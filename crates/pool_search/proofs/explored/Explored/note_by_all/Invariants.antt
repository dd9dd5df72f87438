use Rattle.std.proofs.Common.{◌≡◌}
use Rattle.pool_search.specs.Entries.{entries, searched}
use Rattle.pool_search.specs.KnownWaiters.{AreKnown}
use Rattle.pool_search.proofs.explored.Explored.note_by_all.Given as goal

-- what is noted is so
abbrev pub invariant-loop-label : goal.invariant-loop-label
invariant-loop-label l =
    record {
      same : entries l.self ≡ entries l.initial.self;
      program : searched l.self ≡ searched l.initial.self;
      known : AreKnown (searched l.initial.self) (entries l.initial.self) l.waiters.list.items;
    }
