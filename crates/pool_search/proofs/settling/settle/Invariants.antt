use Rattle.visited_set.specs.Courses.{course_of}
use Rattle.pool_search.specs.Steps.{HasFollowed}
use Rattle.pool_search.proofs.settling.settle.Given as goal

-- so far only such transitions were made
abbrev pub invariant-loop-made : goal.invariant-loop-made
invariant-loop-made l = HasFollowed (course_of l.keeps) l.initial.plain l.plain
