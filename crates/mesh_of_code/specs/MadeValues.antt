-- The instructions in the code of a unit, and the strings that they write.
use Rattle.std.specs.Prelude.{◌≡◌, ℕ, Option, Some, slice_get}
use Rattle.code_semantics.specs.declared.unit.Instr.{Instr}
use Rattle.code_semantics.specs.declared.unit.Instr.TheVariants as I
use Rattle.code_semantics.specs.declared.unit.ClassCode.{ClassCode}
use Rattle.code_semantics.specs.declared.unit.Unit.{Unit as Code}
use Rattle.code_semantics.specs.Frames.{code_of}
use Rattle.mesh_semantics.specs.Act.{id}

-- a method or a body of the unit has the instruction
abbrev pub HasInstr : Code → Instr → Type 0
HasInstr u i = (j : ℕ) × (k : ClassCode) × (m : Option ℕ) × (at : ℕ) × (slice_get u.classes j ≡ Some k) × (slice_get (code_of (Some k) m) at ≡ Some i)

abbrev pub IsTextIn : Code → ℕ → Type 0
IsTextIn u n = HasInstr u (I.WriteText (id n))
