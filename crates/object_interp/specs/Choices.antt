-- The open alternatives of a select, and the effect of choosing one.
use Rattle.std.specs.Prelude.{ℕ, zero, suc, ◌<◌, ◌≤◌, ◌^◌, List, length, Option, None, if◌then◌else◌, slice_get}
use Rattle.run_types.specs.declared.types.Value.{Value}
use Rattle.run_types.specs.Values.{is_true}
use Rattle.code_semantics.specs.declared.unit.Instr.{Instr}
use Rattle.code_semantics.specs.declared.unit.Instr.TheVariants as I
use Rattle.code_semantics.specs.declared.unit.AltCode.{AltCode}
use Rattle.run_types.specs.declared.frames.Frame.{Frame}
use Rattle.run_types.specs.Operands.{nth}

-- the alternative of this number, counted from 1, if its guard is true
abbrev pub offered_alt : List AltCode → List Value → ℕ → Option AltCode
offered_alt alts guards zero = None
offered_alt alts guards (suc j) = if is_true (nth guards j) then slice_get alts j else None

-- the next place fits 32 bits, unless the instruction is a select
abbrev pub NextIs : Frame → Instr → Type 0
NextIs f (I.Select alts) = Unit {0}
NextIs f _ = suc f.at < 2 ^ 32

-- a select has an alternative of this number, counted from 1, and its guards are on the stack
abbrev pub Chooses : Frame → Instr → ℕ → Type 0
Chooses f (I.Select alts) alt = (0 < alt) × (alt ≤ length alts) × (length alts ≤ length f.operands) × (length alts ≤ 64)
Chooses f _ alt = Unit {0}
