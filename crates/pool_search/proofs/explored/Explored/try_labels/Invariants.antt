use Rattle.std.proofs.Common.{◌≡◌, ℕ, Some, true, slice_get, take}
use Rattle.std.specs.List.{filter}
use Rattle.search_laws.specs.Outcomes.{Passed}
use Rattle.search_laws.specs.Tried.{AllLeadInto}
use Rattle.pool_search.specs.declared.choices.Trial.TheVariants as T
use Rattle.visited_set.specs.Courses.{course_of}
use Rattle.pool_search.specs.Entries.{entries, searched}
use Rattle.pool_search.specs.Progress.{Grows}
use Rattle.pool_search.specs.Trials.{is_asked, is_tried, OneLeadsOn}
use Rattle.pool_search.proofs.explored.Explored.try_labels.Given as goal

-- those of the labels before the place that are asked for were tried
abbrev pub invariant-loop-place : goal.invariant-loop-place
invariant-loop-place l =
    record {
      program : searched l.self ≡ searched l.initial.self;
      in_bounds : is_tried l.trial ≡ true;
      led : (i : ℕ) → l.trial ≡ T.Led i → (e : Passed) → slice_get (entries l.initial.self) l.at ≡ Some e
          → OneLeadsOn (searched l.initial.self) (course_of l.scope.keeps) (entries l.self) l.at e l.served i;
      grows : Grows (searched l.initial.self) (course_of l.scope.keeps) l.scope.most (entries l.initial.self) (entries l.self);
      tried : (e : Passed) → slice_get (entries l.initial.self) l.at ≡ Some e
          → AllLeadInto (searched l.initial.self) (course_of l.scope.keeps) (entries l.self) e.next e.items e.configuration (filter (is_asked l.served) (take l.place l.labels));
    }
