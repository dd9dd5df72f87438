use Rattle.std.proofs.Common.{List}
use Rattle.code_semantics.specs.declared.unit.Instr.{Instr}
use Rattle.code_verifier.specs.Silent.{IsMarked}
use Rattle.code_verifier.proofs.SilentLaws.{AreOnWay, steps_left}
use Rattle.code_verifier.proofs.circles.walk.Given as goal

-- the walk has come to the place
abbrev pub invariant-loop-next : goal.invariant-loop-next
invariant-loop-next l = (c : List Instr) → IsMarked c l.start l.fn.marks → AreOnWay c l.start l.place l.marks

abbrev pub decreases-loop-next : goal.decreases-loop-next
decreases-loop-next l = steps_left l.marks
