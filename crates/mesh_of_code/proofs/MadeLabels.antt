-- Configurations and labels whose values the unit's code can make, whose names are those of its instructions, and that have at most 8 arguments.
use Rattle.std.specs.Prelude.{◌≡◌, ◌⊎◌, ℕ, ◌≤◌, List, length, Some}
use Rattle.run_types.specs.declared.types.Value.{Value}
use Rattle.run_types.specs.declared.types.Value.TheVariants as V
use Rattle.run_types.specs.declared.types.Item.{Item}
use Rattle.run_types.specs.declared.types.Item.TheVariants as It
use Rattle.run_types.specs.declared.types.Label.{Label}
use Rattle.run_types.specs.declared.types.Label.TheVariants as L
use Rattle.code_semantics.specs.declared.unit.Instr.TheVariants as I
use Rattle.code_semantics.specs.declared.unit.Unit.{Unit as Code}
use Rattle.mesh_semantics.specs.Act.{id}
use Rattle.run_types.specs.Message.{Message}
use Rattle.mesh_semantics.specs.Config.{Config, object_of, messages_of}
use Rattle.run_types.specs.Tables.{Each}
use Rattle.code_semantics.specs.OfUnit.{IsObjectOf}
use Rattle.code_semantics.specs.MadeNumbers.{IsMadeIn}
use Rattle.mesh_of_code.specs.Coded.{Placed}
use Rattle.mesh_of_code.specs.CodeInvariant.{IsOfCode}
use Rattle.mesh_of_code.specs.MadeValues.{HasInstr, IsTextIn}

-- an instruction names this class or method, or this string
abbrev pub IsNamedIn : Code → ℕ → Type 0
IsNamedIn u n = HasInstr u (I.New (id n)) ⊎ (((a : ℕ) × HasInstr u (I.Send (id n) a)) ⊎ ((a : ℕ) × HasInstr u (I.Async (id n) a)))

abbrev pub IsMadeValue : Code → Value → Type 0
IsMadeValue u (V.Int z) = IsMadeIn u z
IsMadeValue u (V.Bool b) = Unit {0}
IsMadeValue u (V.Ref o) = Unit {0}
IsMadeValue u V.Nil = Unit {0}

abbrev pub AreMadeArgs : Code → List Value → Type 0
AreMadeArgs u vs = (length vs ≤ 8) × Each (IsMadeValue u) vs

abbrev pub IsMadeMessage : Code → Message → Type 0
IsMadeMessage u m = IsNamedIn u m.method × AreMadeArgs u m.args

abbrev pub IsMadeItem : Code → Item → Type 0
IsMadeItem u (It.Value v) = IsMadeValue u v
IsMadeItem u (It.Text s) = IsTextIn u s.0

-- a configuration of the unit, in which each value was made so, and each message has at most 8 and a method that is named
pub record HasMade (u : Code) (c : Config Placed) : Type 0 where
  pub of_code : IsOfCode u c
  pub objects : (o : ℕ) (x : Placed) → object_of c o ≡ Some x → IsObjectOf u (IsMadeValue u) x.object
  pub messages : (s r : ℕ) → Each (IsMadeMessage u) (messages_of c s r)

-- the values of a label were made so, what it names is named, and it has at most 8 arguments
abbrev pub IsMadeLabel : Code → Label → Type 0
IsMadeLabel u (L.Local o) = Unit {0}
IsMadeLabel u (L.New o n c) = IsNamedIn u c.0
IsMadeLabel u (L.Answer b o m args) = IsNamedIn u m.0 × AreMadeArgs u args
IsMadeLabel u (L.Return b o v) = IsMadeValue u v
IsMadeLabel u (L.Send o b m args) = IsNamedIn u m.0 × AreMadeArgs u args
IsMadeLabel u (L.Take b s m args) = IsNamedIn u m.0 × AreMadeArgs u args
IsMadeLabel u (L.Write o item) = IsMadeItem u item
IsMadeLabel u (L.Pick o i) = Unit {0}
IsMadeLabel u (L.Fault o e) = Unit {0}
