-- The integers that the code of a unit can make, and properties that hold of the values that name no object.
use Rattle.std.specs.Prelude.{◌≡◌, ℕ, ℤ, Option, Some, Bool, true, slice_get, ◌⊎◌}
use Rattle.run_types.specs.declared.types.Value.{Value}
use Rattle.run_types.specs.declared.types.Value.TheVariants as V
use Rattle.run_types.specs.Values.{is_in_range}
use Rattle.code_semantics.specs.declared.unit.Instr.TheVariants as I
use Rattle.code_semantics.specs.declared.unit.ClassCode.{ClassCode}
use Rattle.code_semantics.specs.declared.unit.Unit.{Unit as Code}
use Rattle.code_semantics.specs.Frames.{code_of}

-- the property P holds of nil, of truth values, and of the integers with the property N
abbrev pub HoldsOfPlain : (ℤ → Type 0) → (Value → Type 0) → Type 0
HoldsOfPlain N P = ((z : ℤ) → N z → P (V.Int z)) × ((b : Bool) → P (V.Bool b)) × P V.Nil

-- an integer of 64 bits; operators give only these
abbrev pub IsInRange : ℤ → Type 0
IsInRange z = is_in_range z ≡ true

-- an integer that an instruction of the class pushes
abbrev pub IsPushed : ClassCode → ℤ → Type 0
IsPushed k z = (m : Option ℕ) × (at : ℕ) × (slice_get (code_of (Some k) m) at ≡ Some (I.PushInt z))

-- an integer that the code of the unit can make
abbrev pub IsMadeIn : Code → ℤ → Type 0
IsMadeIn u z = IsInRange z ⊎ ((j : ℕ) × (k : ClassCode) × (slice_get u.classes j ≡ Some k) × IsPushed k z)
