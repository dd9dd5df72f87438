-- Proper units: every name and place exists, each reached place has one sufficient number of operands, and no silent instructions form a cycle.
use Rattle.std.specs.Prelude.{◌≡◌, ◌≢◌, ℕ, suc, ◌≤◌, ◌<◌, ◌^◌, List, length, Option, Some, slice_get}
use Rattle.code_semantics.specs.declared.unit.Instr.{Instr}
use Rattle.code_semantics.specs.declared.unit.Instr.TheVariants as I
use Rattle.code_semantics.specs.declared.unit.MethodCode.{MethodCode}
use Rattle.code_semantics.specs.declared.unit.ClassCode.{ClassCode}
use Rattle.code_semantics.specs.declared.unit.Unit.{Unit as Code}
use Rattle.code_semantics.specs.ReachedPlaces.{takes, Reached, Chain, Exists}

-- the code of a method or body with this number of temps
pub record IsProperCode (u : Code) (k : Option ClassCode) (temps : ℕ) (c : List Instr) : Type 0 where
  pub exists : (at : ℕ) (i : Instr) → slice_get c at ≡ Some i → Exists u k temps c i
  pub one_count : (at m n : ℕ) → Reached k c at m → Reached k c at n → m ≡ n
  pub suffices : (at held : ℕ) → Reached k c at held → (held ≤ 64) × (at < 2 ^ 32) × ((i : Instr) × (slice_get c at ≡ Some i) × (takes k i ≤ held))
  pub front : 0 < length c
  pub no_circle : (at n : ℕ) → ¬ (Chain c (suc n) at at)

pub record IsProperClass (u : Code) (k : ClassCode) : Type 0 where
  pub name : k.name.0 < length u.names
  pub limits : (k.vars ≤ 64) × (length k.methods ≤ 64)
  pub body : IsProperCode u (Some k) 0 k.body.code
  pub no_ret : (at : ℕ) → slice_get k.body.code at ≢ Some I.Ret
  pub methods : (j : ℕ) (m : MethodCode) → slice_get k.methods j ≡ Some m
      → (m.name.0 < length u.names) × (m.params ≤ 8) × (m.temps ≤ 32) × (m.params ≤ m.temps) × IsProperCode u (Some k) m.temps m.code

pub record IsProper (u : Code) : Type 0 where
  pub classes : (0 < length u.classes) × (length u.classes ≤ 256)
  pub each : (j : ℕ) (k : ClassCode) → slice_get u.classes j ≡ Some k → IsProperClass u k
