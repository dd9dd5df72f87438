use Rattle.std.proofs.Common.{◌≡◌}
use Rattle.visited_set.specs.Courses.{course_of}
use Rattle.pool_search.specs.Entries.{entries, searched}
use Rattle.pool_search.specs.Progress.{Grows}
use Rattle.pool_search.proofs.explored.Explored.try_awaited.Given as goal

-- the list has grown
abbrev pub invariant-loop-object : goal.invariant-loop-object
invariant-loop-object l =
    record {
      program : searched l.self ≡ searched l.initial.self;
      grows : Grows (searched l.initial.self) (course_of l.scope.keeps) l.scope.most (entries l.initial.self) (entries l.self);
    }
