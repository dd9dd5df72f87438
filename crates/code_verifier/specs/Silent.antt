-- The marks of walks along chains of silent instructions, and what each mark implies.
use Rattle.std.specs.Prelude.{◌≡◌, ℕ, suc, ◌≤◌, ◌<◌, List, Option, Some, None, Bool, true, false, length, slice_get}
use Rattle.code_semantics.specs.declared.unit.Instr.{Instr}
use Rattle.code_semantics.specs.ReachedPlaces.{Chain, silent_to}
use Rattle.code_typing.specs.Verdict.{silence_ends}
use Rattle.code_verifier.specs.declared.circles.Mark.{Mark}
use Rattle.code_verifier.specs.declared.circles.Mark.TheVariants as M

-- the mark of a place, by the place after it
abbrev pub first_mark : Option ℕ → Mark
first_mark None = M.Ends
first_mark (Some n) = M.Next n

-- the chain from this place ends
abbrev pub ChainEnds : List Instr → ℕ → Type 0
ChainEnds c at = (n : ℕ) × (silence_ends n c (Some at) ≡ true)

-- the meaning of a mark after the walks from all places below `start`
abbrev pub MarkSays : List Instr → ℕ → ℕ → Mark → Type 0
MarkSays c start at M.Ends = silent_to at (slice_get c at) ≡ None
MarkSays c start at (M.Next n) = (start ≤ at) × (silent_to at (slice_get c at) ≡ Some n)
MarkSays c start at (M.Walked w) = (w < start) × ChainEnds c at

abbrev pub IsMarked : List Instr → ℕ → List Mark → Type 0
IsMarked c start marks = (length marks ≡ length c) × ((at : ℕ) (m : Mark) → slice_get marks at ≡ Some m → MarkSays c start at m)

-- the result of the walk from `start`: either the marks are right for the next start, or there is a cycle
abbrev pub IsWalked : List Instr → ℕ → Bool → List Mark → Type 0
IsWalked c start true marks = IsMarked c (suc start) marks
IsWalked c start false marks = (at n : ℕ) × Chain c (suc n) at at
