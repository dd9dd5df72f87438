use Rattle.std.proofs.Common.{◌≡◌, ◌≤◌, ◌-◌, length}
use Rattle.search_laws.specs.Tried.{states_only}
use Rattle.pool_search.specs.Entries.{IsPassedOver, entries, searched}
use Rattle.pool_search.specs.Progress.{IsSearchedTo}
use Rattle.pool_search.proofs.explored.Explored.look.Given as goal

-- the entries before the place were looked at
abbrev pub invariant-loop-at : goal.invariant-loop-at
invariant-loop-at g l =
    record {
      program : searched l.self ≡ searched l.initial.self;
      inside : l.at ≤ length (entries l.self);
      within : length (entries l.self) ≤ l.question.most;
      so_far : IsSearchedTo (searched l.initial.self) states_only (IsPassedOver (searched l.initial.self) l.question) (entries l.self) l.at;
    }

abbrev pub decreases-loop-at : goal.decreases-loop-at
decreases-loop-at g l = l.question.most - l.at
