use Rattle.code_verifier.specs.Silent.{IsMarked}
use Rattle.code_verifier.proofs.circles.has_no_circle.Given as goal

-- after the walks so far
abbrev pub invariant-loop-start : goal.invariant-loop-start
invariant-loop-start l = IsMarked l.code l.start l.marks.items
