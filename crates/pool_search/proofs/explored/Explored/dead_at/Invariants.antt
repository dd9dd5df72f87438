use Rattle.std.proofs.Common.{◌≡◌, ◌-◌, ◌^◌, Some, slice_get}
use Rattle.run_types.specs.Tables.{Each}
use Rattle.search_laws.specs.Outcomes.{Passed}
use Rattle.search_laws.specs.Dead.{IsDead}
use Rattle.search_laws.specs.ClosedBeside.{IsReachedInOrder}
use Rattle.pool_search.specs.Entries.{entries, searched}
use Rattle.pool_search.proofs.explored.Explored.dead_at.Given as goal

-- each name so far is dead
abbrev pub invariant-loop-waiting : goal.invariant-loop-waiting
invariant-loop-waiting l =
    record {
      same : entries l.self ≡ entries l.initial.self;
      program : searched l.self ≡ searched l.initial.self;
      dead : (e : Passed) → slice_get (entries l.initial.self) l.at ≡ Some e → IsReachedInOrder (searched l.initial.self) e.next e.configuration
          → Each (IsDead (searched l.initial.self) e.configuration) l.names.items;
    }

abbrev pub decreases-loop-waiting : goal.decreases-loop-waiting
decreases-loop-waiting l = 2 ^ 32 - l.from
