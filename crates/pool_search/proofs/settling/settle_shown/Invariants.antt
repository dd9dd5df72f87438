use Rattle.visited_set.specs.Courses.{course_of}
use Rattle.pool_search.specs.Steps.{HasSettled}
use Rattle.pool_search.proofs.settling.settle_shown.Given as goal

-- so far only such transitions were made, and their labels are shown
abbrev pub invariant-loop-made : goal.invariant-loop-made
invariant-loop-made l = HasSettled (course_of l.keeps) l.initial.plain l.plain l.initial.shown l.shown
