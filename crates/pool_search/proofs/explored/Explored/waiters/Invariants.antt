use Rattle.std.proofs.Common.{◌≡◌, ◌<◌, ℕ, Some, false, slice_get}
use Rattle.run_types.specs.Tables.{Each}
use Rattle.reachability.specs.Search.{WaitsAt}
use Rattle.search_laws.specs.Outcomes.{Passed}
use Rattle.pool_search.specs.Entries.{entries, searched}
use Rattle.visited_set.specs.WaiterLists.{HasWaiter, IsOpen}
use Rattle.pool_search.proofs.explored.Explored.waiters.Given as goal

-- the objects that wait in the entries before this one are waiters
abbrev pub invariant-loop-at : goal.invariant-loop-at
invariant-loop-at l =
    record {
      none_noted : Each IsOpen l.waiters.list.items;
      all : (i : ℕ) (e : Passed) (o : ℕ) → i < l.at → slice_get (entries l.self) i ≡ Some e → WaitsAt (searched l.self) e.configuration o → HasWaiter false i o l.waiters.list.items;
    }
