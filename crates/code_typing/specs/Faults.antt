-- The fault of a file that is not verified: its first heading that breaks a rule, or otherwise its first code that is
-- not well sorted.
use Rattle.std.specs.Prelude.{◌≡◌, ◌⊎◌, ℕ, ◌<◌, length, Some, None, slice_get}
use Rattle.code_semantics.specs.declared.unit.MethodCode.{MethodCode}
use Rattle.code_semantics.specs.declared.file.MethodKinds.{MethodKinds}
use Rattle.code_semantics.specs.declared.file.UnitFile.{UnitFile}
use Rattle.code_typing.specs.Sorts.{Declared, declared_at, scope_by}
use Rattle.code_typing.specs.Verified.{IsHeading, IsWellSorted, HasWellSorted}

-- the headings of the classes below this place meet their rules
abbrev pub HeadingsBelow : UnitFile → ℕ → Type 0
HeadingsBelow f j = (i : ℕ) (k : Declared) → i < j → declared_at f i ≡ Some k → IsHeading f i k.code k.kinds

-- this is the first class whose heading breaks a rule
pub record IsBadHeading (f : UnitFile) (j : ℕ) : Type 0 where
  pub before : HeadingsBelow f j
  pub class : Declared
  pub is_class : declared_at f j ≡ Some class
  pub bad : ¬ (IsHeading f j class.code class.kinds)

-- the codes of the methods below this place are well sorted
abbrev pub MethodsBelow : UnitFile → Declared → ℕ → Type 0
MethodsBelow f k n = (i : ℕ) (m : MethodCode) (s : MethodKinds) → i < n → slice_get k.code.methods i ≡ Some m → slice_get k.kinds.methods i ≡ Some s
    → IsWellSorted (scope_by f k (Some s)) m.frame_words m.code

-- a method of the class whose code is not well sorted
pub record IsBadMethod (f : UnitFile) (k : Declared) (i : ℕ) : Type 0 where
  pub method : MethodCode
  pub kinds : MethodKinds
  pub is_method : slice_get k.code.methods i ≡ Some method
  pub has_kinds : slice_get k.kinds.methods i ≡ Some kinds
  pub bad : ¬ (IsWellSorted (scope_by f k (Some kinds)) method.frame_words method.code)

-- no heading breaks a rule, and this is the first code that is not well sorted; the body comes after the methods of its
-- class
pub record IsBadCode (f : UnitFile) (j i : ℕ) : Type 0 where
  pub headings : HeadingsBelow f (length f.unit.classes)
  pub before : (n : ℕ) (k : Declared) → n < j → declared_at f n ≡ Some k → HasWellSorted f k
  pub class : Declared
  pub is_class : declared_at f j ≡ Some class
  pub methods : MethodsBelow f class i
  pub bad : IsBadMethod f class i
      ⊎ ((i ≡ length class.code.methods) × ¬ (IsWellSorted (scope_by f class None) class.code.body.frame_words class.code.body.code))
