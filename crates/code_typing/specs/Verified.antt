-- Verified files: their headings meet the rules, and each place that a code reaches has one stack of sorts, which its
-- instruction can take.
use Rattle.std.specs.Prelude.{◌≡◌, ◌≢◌, ℕ, zero, suc, ◌+◌, ◌≤◌, ◌<◌, ◌^◌, List, [], ◌∷◌, length, Option, Some, None, is_some, IsTrue, slice_get}
use Rattle.run_types.specs.declared.types.Kind.{Kind}
use Rattle.run_types.specs.declared.types.Kind.TheVariants as K
use Rattle.text_scan.specs.Keywords.{is_name, is_string_number}
use Rattle.run_types.specs.Sorts.{Sort}
use Rattle.run_types.specs.Tables.{Each}
use Rattle.code_semantics.specs.declared.unit.Instr.{Instr}
use Rattle.code_semantics.specs.declared.unit.Instr.TheVariants as I
use Rattle.code_semantics.specs.declared.unit.ClassCode.{ClassCode}
use Rattle.code_semantics.specs.declared.unit.MethodCode.{MethodCode}
use Rattle.code_semantics.specs.declared.file.UnitFile.{UnitFile}
use Rattle.code_semantics.specs.declared.file.ClassKinds.{ClassKinds}
use Rattle.code_semantics.specs.declared.file.MethodKinds.{MethodKinds}
use Rattle.code_semantics.specs.ReachedPlaces.{Exists, IsAmong, Chain, nexts}
use Rattle.code_semantics.specs.Step.{method_named, class_from}
use Rattle.code_typing.specs.Sorts.{CodeScope, Declared, Stack, declared_at, scope_by, left_by}

-- n instructions lead from place 0 to the place `at` with this stack; none of them takes a stack of more than 64
-- operands
abbrev pub ReachedBy : CodeScope → List Instr → ℕ → ℕ → Stack → Type 0
ReachedBy g c zero at s = (at ≡ 0) × (s ≡ [])
ReachedBy g c (suc n) at s =
    (b : ℕ) × (r : Stack) × (i : Instr) × ReachedBy g c n b r × (length r ≤ 64) × (slice_get c b ≡ Some i) × IsAmong at (nexts b i) × (left_by g i r ≡ Some s)

abbrev pub Reached : CodeScope → List Instr → ℕ → Stack → Type 0
Reached g c at s = (n : ℕ) × ReachedBy g c n at s

-- a string that is written has the form of a string in a program text
abbrev pub IsText : UnitFile → Instr → Type 0
IsText f (I.WriteText s) = IsTrue (is_string_number f.unit.names s.0)
IsText f _ = Unit {0}

abbrev pub last_instr : List Instr → Option Instr
last_instr [] = None
last_instr (i ∷ []) = Some i
last_instr (i ∷ j ∷ c) = last_instr (j ∷ c)

-- a body ends in Halt and has no Ret and no Post; a method ends in Ret and has no Halt
abbrev pub EndsRight : Option Sort → List Instr → Type 0
EndsRight None c = (last_instr c ≡ Some I.Halt) × ((at : ℕ) → slice_get c at ≢ Some I.Ret) × ((at : ℕ) → slice_get c at ≢ Some I.Post)
EndsRight (Some s) c = (last_instr c ≡ Some I.Ret) × ((at : ℕ) → slice_get c at ≢ Some I.Halt)

-- n is the greatest depth of the stacks with which places are reached
pub record IsLongest (g : CodeScope) (c : List Instr) (n : ℕ) : Type 0 where
  pub bound : (at : ℕ) (s : Stack) → Reached g c at s → length s ≤ n
  pub met : (at : ℕ) × (s : Stack) × Reached g c at s × (length s ≡ n)

-- well-sorted code, whose frames have this number of words
pub record IsWellSorted (g : CodeScope) (words : ℕ) (c : List Instr) : Type 0 where
  pub exists : (at : ℕ) (i : Instr) → slice_get c at ≡ Some i → Exists g.file.unit (Some g.class.code) (length g.temps) c i × IsText g.file i
  pub ends : EndsRight g.value c
  pub one_stack : (at : ℕ) (s t : Stack) → Reached g c at s → Reached g c at t → s ≡ t
  pub taken : (at : ℕ) (s : Stack) → Reached g c at s
      → (length s ≤ 64) × (at < 2 ^ 32) × ((i : Instr) × (slice_get c at ≡ Some i) × IsTrue (is_some (left_by g i s)))
  pub longest : (n : ℕ) × IsLongest g c n × (words ≡ length g.temps + n)
  pub no_circle : (at n : ℕ) → ¬ (Chain c (suc n) at at)

-- the class of a kind exists
abbrev pub KindExists : UnitFile → Kind → Type 0
KindExists f K.Int = Unit {0}
KindExists f K.Bool = Unit {0}
KindExists f (K.Class c) = IsTrue (is_some (class_from 0 f.unit.classes c))

abbrev pub ResultExists : UnitFile → Option Kind → Type 0
ResultExists f None = Unit {0}
ResultExists f (Some k) = KindExists f k

-- the heading of the method at this place of its class
pub record IsMethodHeading (f : UnitFile) (k : ClassCode) (i : ℕ) (m : MethodCode) (s : MethodKinds) : Type 0 where
  pub name : IsTrue (is_name f.unit.names m.name.0)
  -- no earlier method of the class has its name
  pub first : method_named (Some k) m.name ≡ Some (record { place = i; code = m })
  pub limits : (m.params ≤ 8) × (m.temps ≤ 32) × (m.params ≤ m.temps)
  pub kinds : Each (KindExists f) s.temps × ResultExists f s.result

-- the heading of the class at this place
pub record IsHeading (f : UnitFile) (j : ℕ) (k : ClassCode) (q : ClassKinds) : Type 0 where
  pub name : IsTrue (is_name f.unit.names k.name.0)
  -- no earlier class has its name
  pub first : class_from 0 f.unit.classes k.name ≡ Some j
  pub limits : (j < 256) × (k.vars ≤ 64) × (length k.methods ≤ 64)
  pub kinds : Each (KindExists f) q.vars
  pub methods : (i : ℕ) (m : MethodCode) (s : MethodKinds) → slice_get k.methods i ≡ Some m → slice_get q.methods i ≡ Some s → IsMethodHeading f k i m s

-- the codes of a class are well sorted
pub record HasWellSorted (f : UnitFile) (k : Declared) : Type 0 where
  pub methods : (i : ℕ) (m : MethodCode) (s : MethodKinds) → slice_get k.code.methods i ≡ Some m → slice_get k.kinds.methods i ≡ Some s
      → IsWellSorted (scope_by f k (Some s)) m.frame_words m.code
  pub body : IsWellSorted (scope_by f k None) k.code.body.frame_words k.code.body.code

pub record IsVerified (f : UnitFile) : Type 0 where
  pub some : 0 < length f.unit.classes
  pub headings : (j : ℕ) (k : Declared) → declared_at f j ≡ Some k → IsHeading f j k.code k.kinds
  pub codes : (j : ℕ) (k : Declared) → declared_at f j ≡ Some k → HasWellSorted f k
