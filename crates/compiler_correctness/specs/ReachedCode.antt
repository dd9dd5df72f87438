-- Code of which each place is reached from its start.
use Rattle.std.specs.Prelude.{◌≡◌, ◌<◌, ℕ, List, length, Some, None, slice_get}
use Rattle.code_semantics.specs.declared.unit.Instr.{Instr}
use Rattle.code_semantics.specs.declared.unit.MethodCode.{MethodCode}
use Rattle.code_semantics.specs.declared.file.UnitFile.{UnitFile}
use Rattle.code_semantics.specs.declared.file.MethodKinds.{MethodKinds}
use Rattle.code_typing.specs.Sorts.{CodeScope, Declared, Stack, scope_by}
use Rattle.code_typing.specs.Verified.{Reached}

-- each place of the code is reached, with some stack of sorts
abbrev pub EachIsReached : CodeScope → List Instr → Type 0
EachIsReached g c = (at : ℕ) → at < length c → (t : Stack) × Reached g c at t

-- each place of the codes of a class is reached
pub record IsReachedWhole (f : UnitFile) (k : Declared) : Type 0 where
  pub methods : (i : ℕ) (m : MethodCode) (s : MethodKinds) → slice_get k.code.methods i ≡ Some m → slice_get k.kinds.methods i ≡ Some s → EachIsReached (scope_by f k (Some s)) m.code
  pub body : EachIsReached (scope_by f k None) k.code.body.code
