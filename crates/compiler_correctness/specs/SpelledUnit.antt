-- Units whose class names, strings and integers the record format allows, and units in which the method of each send is such a name.
use Rattle.std.specs.Prelude.{◌≡◌, ◌⊎◌, ℕ, ℤ, true}
use Rattle.run_types.specs.Values.{is_in_range}
use Rattle.code_semantics.specs.declared.unit.Instr.TheVariants as I
use Rattle.code_semantics.specs.declared.unit.Unit.{Unit as Code}
use Rattle.mesh_semantics.specs.Act.{id}
use Rattle.mesh_of_code.specs.MadeValues.{HasInstr, IsTextIn}
use Rattle.run_record.specs.Readable.{IsNamed, IsString}

pub record IsSpelledUnit (u : Code) : Type 0 where
  pub classes : (n : ℕ) → HasInstr u (I.New (id n)) → IsNamed u.names (id n)
  pub strings : (n : ℕ) → IsTextIn u n → IsString u.names (id n)
  pub numbers : (z : ℤ) → HasInstr u (I.PushInt z) → is_in_range z ≡ true

-- the method of each send is a name, also if no run reaches the send
abbrev pub SendsNames : Code → Type 0
SendsNames u = (n a : ℕ) → HasInstr u (I.Send (id n) a) ⊎ HasInstr u (I.Async (id n) a) → IsNamed u.names (id n)
