use Rattle.std.proofs.Common.{◌≡◌, ℕ, Some, drop, true, slice_get}
use Rattle.std.specs.List.{filter}
use Rattle.run_types.specs.Tables.{Each}
use Rattle.search_laws.specs.Outcomes.{Passed}
use Rattle.pool_search.specs.declared.choices.Trial.TheVariants as T
use Rattle.pool_search.specs.Entries.{entries, searched}
use Rattle.pool_search.specs.Leads.{IsBeside, OneStaysOn}
use Rattle.pool_search.specs.Trials.{is_asked, is_tried}
use Rattle.pool_search.proofs.explored.Explored.are_beside.Given as goal

-- if the labels that are left and asked for are so, all are that are asked for
abbrev pub invariant-loop-label : goal.invariant-loop-label
invariant-loop-label l =
    record {
      same : entries l.self ≡ entries l.initial.self;
      program : searched l.self ≡ searched l.initial.self;
      in_bounds : is_tried l.trial ≡ true;
      led : (i : ℕ) → l.trial ≡ T.Led i → (e : Passed) → slice_get (entries l.initial.self) l.at ≡ Some e
          → OneStaysOn (searched l.initial.self) (entries l.initial.self) l.suspect.waiters.now.list.items l.suspect.object l.at e.next e.configuration l.served i;
      so_far : (e : Passed) → slice_get (entries l.initial.self) l.at ≡ Some e
          → Each (IsBeside (searched l.initial.self) (entries l.initial.self) l.suspect.waiters.now.list.items l.suspect.object e.next e.configuration) (filter (is_asked l.served) (drop l.label-index l.labels))
          → Each (IsBeside (searched l.initial.self) (entries l.initial.self) l.suspect.waiters.now.list.items l.suspect.object e.next e.configuration) (filter (is_asked l.served) l.labels);
    }
