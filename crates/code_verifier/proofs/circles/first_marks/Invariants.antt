use Rattle.std.proofs.Common.{◌≡◌, ℕ, Some, length}
use Rattle.std.specs.Prelude.{slice_get}
use Rattle.code_verifier.specs.Silent.{MarkSays}
use Rattle.code_verifier.specs.declared.circles.Mark.{Mark}
use Rattle.code_verifier.proofs.circles.first_marks.Given as goal

-- the places so far
abbrev pub invariant-loop-place : goal.invariant-loop-place
invariant-loop-place l = (length l.marks.items ≡ l.place) × ((at : ℕ) (m : Mark) → slice_get l.marks.items at ≡ Some m → MarkSays l.code 0 at m)
