use Rattle.std.proofs.Common.{◌≡◌}
use Rattle.pool_search.specs.Entries.{entries, searched}
use Rattle.pool_search.proofs.explored.Explored.stays_by_choice.Given as goal

-- the list is the same
abbrev pub invariant-loop-served : goal.invariant-loop-served
invariant-loop-served l =
    record {
      same : entries l.self ≡ entries l.initial.self;
      program : searched l.self ≡ searched l.initial.self;
    }
