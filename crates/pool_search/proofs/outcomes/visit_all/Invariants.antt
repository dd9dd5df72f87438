use Rattle.std.proofs.Common.{◌≡◌, ◌≤◌, ◌-◌, length}
use Rattle.run_types.specs.Tables.{Each}
use Rattle.search_laws.specs.Tried.{with_writes}
use Rattle.pool_search.specs.Entries.{entries, searched}
use Rattle.pool_search.specs.FoundOutcomes.{IsNoted}
use Rattle.pool_search.specs.OutcomeTargets.{IsShown}
use Rattle.pool_search.specs.Progress.{IsSearchedTo}
use Rattle.pool_search.proofs.outcomes.visit_all.Given as goal

-- the entries before the place were visited, and the outcomes of those that are ends were noted
abbrev pub invariant-loop-at : goal.invariant-loop-at
invariant-loop-at g l =
    record {
      program : searched l.explored ≡ searched l.initial.explored;
      inside : l.at ≤ length (entries l.explored);
      within : length (entries l.explored) ≤ l.most;
      shown : Each (IsShown (searched l.initial.explored)) l.ends.list.items;
      so_far : IsSearchedTo (searched l.initial.explored) with_writes (IsNoted (searched l.initial.explored) l.ends.list.items) (entries l.explored) l.at;
    }

abbrev pub decreases-loop-at : goal.decreases-loop-at
decreases-loop-at g l = l.most - l.at
