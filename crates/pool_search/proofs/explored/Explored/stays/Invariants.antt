use Rattle.std.proofs.Common.{◌≡◌, drop}
use Rattle.run_types.specs.Tables.{Each}
use Rattle.pool_search.specs.Entries.{entries, searched}
use Rattle.pool_search.specs.Leads.{StaysAt}
use Rattle.pool_search.proofs.explored.Explored.stays.Given as goal

-- if the waiters that are left are so, all are
abbrev pub invariant-loop-waiter : goal.invariant-loop-waiter
invariant-loop-waiter l =
    record {
      same : entries l.self ≡ entries l.initial.self;
      program : searched l.self ≡ searched l.initial.self;
      so_far : Each (StaysAt (searched l.initial.self) (entries l.initial.self) l.suspect.waiters.now.list.items l.suspect.object) (drop l.waiter-index l.waiter-items)
          → Each (StaysAt (searched l.initial.self) (entries l.initial.self) l.suspect.waiters.now.list.items l.suspect.object) l.waiter-items;
    }
