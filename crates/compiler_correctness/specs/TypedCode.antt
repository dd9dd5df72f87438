-- Typed configurations of the code of a verified file, and objects that go wrong: by an operand, a send or a return that does not fit.
use Rattle.std.specs.Prelude.{◌≡◌, ◌⊎◌, is_some, ℕ, List, [], ◌∷◌, ◌++◌, length, map, Option, Some, None, IsTrue, if◌then◌else◌, slice_get}
use Rattle.run_types.specs.declared.types.Value.{Value}
use Rattle.run_types.specs.declared.types.Value.TheVariants as V
use Rattle.run_types.specs.declared.types.Kind.{Kind as DeclaredKind}
use Rattle.run_types.specs.Sorts.{Sort, IntSort, BoolSort, ClassSort, NoSort}
use Rattle.code_semantics.specs.declared.unit.Instr.{Instr}
use Rattle.run_types.specs.declared.frames.Frame.{Frame}
use Rattle.run_types.specs.declared.frames.CodeObject.{CodeObject}
use Rattle.code_semantics.specs.declared.file.UnitFile.{UnitFile}
use Rattle.code_semantics.specs.declared.file.MethodKinds.{MethodKinds}
use Rattle.code_semantics.specs.Frames.{code_of}
use Rattle.code_semantics.specs.Step.{is_own}
use Rattle.mesh_semantics.specs.Act.{id}
use Rattle.mesh_semantics.specs.Config.{Config, object_of, messages_of}
use Rattle.mesh_semantics.specs.Kind as K
use Rattle.mesh_semantics.specs.Kind.{Kind}
use Rattle.run_types.specs.Message.{Message}
use Rattle.run_types.specs.Partial.{◌>>=◌}
use Rattle.run_types.specs.Tables.{Each}
use Rattle.code_semantics.specs.OfUnit.{HasTemps}
use Rattle.mesh_of_code.specs.Coded.{Placed, class_number, coded}
use Rattle.mesh_of_code.specs.CodeInvariant.{IsOfCode}
use Rattle.code_typing.specs.Sorts.{Stack, CodeScope, Declared, Signature, kind_sort, result_sort, declared_at, signature_named, scope_by, left_by}
use Rattle.code_typing.specs.Verified.{Reached}

-- the class of each object, by its name
abbrev pub Classes : Type 0
Classes = ℕ → Option ℕ

-- nil is of every sort; the name of an object is of the sort of its class
abbrev pub IsOfSort : Classes → Value → Sort → Type 0
IsOfSort at V.Nil s = Unit {0}
IsOfSort at (V.Int z) s = s ≡ IntSort
IsOfSort at (V.Bool b) s = s ≡ BoolSort
IsOfSort at (V.Ref n) s = (c : ℕ) × (at n ≡ Some c) × (s ≡ ClassSort c)

-- values of these sorts, one by one
abbrev pub AreOfSorts : Classes → List Value → List Sort → Type 0
AreOfSorts at [] [] = Unit {0}
AreOfSorts at (v ∷ vs) (s ∷ ss) = IsOfSort at v s × AreOfSorts at vs ss
AreOfSorts at _ _ = ⊥

abbrev pub AreOfKinds : Classes → List Value → List DeclaredKind → Type 0
AreOfKinds at vs ks = AreOfSorts at vs (map kind_sort ks)

-- the kinds of the method of a frame; a body has none
abbrev pub kinds_of_frame : Declared → Option ℕ → Option MethodKinds
kinds_of_frame k None = None
kinds_of_frame k (Some j) = slice_get k.kinds.methods j

-- the scope of the code of a frame
abbrev pub frame_scope : UnitFile → Declared → Option ℕ → CodeScope
frame_scope f k m = scope_by f k (kinds_of_frame k m)

-- the sort of the value that a frame returns
abbrev pub left_sort : Option MethodKinds → Sort
left_sort None = NoSort
left_sort (Some s) = result_sort s.result

-- the sort that a frame still waits for: the value of the own call above it
abbrev pub missing_sorts : Declared → Option Frame → Stack
missing_sorts k None = []
missing_sorts k (Some above) = if is_own above.serves then left_sort (kinds_of_frame k above.method) ∷ [] else []

-- together with the missing sorts, the operands fit a stack with which the frame's place is reached; the temps fit their kinds
pub record IsSortedFrame (f : UnitFile) (at : Classes) (k : Declared) (missing : Stack) (x : Frame) : Type 0 where
  pub stack : Stack
  pub reached : Reached (frame_scope f k x.method) (code_of (Some k.code) x.method) x.at (missing ++ stack)
  pub operands : AreOfSorts at x.operands stack
  pub has_temps : HasTemps k.code x.method x.temps
  pub temps : AreOfKinds at x.temps (frame_scope f k x.method).temps

-- frames under the frame `above`
abbrev pub AreSortedFrames : UnitFile → Classes → Declared → Option Frame → List Frame → Type 0
AreSortedFrames f at k above [] = Unit {0}
AreSortedFrames f at k above (x ∷ xs) = IsSortedFrame f at k (missing_sorts k above) x × AreSortedFrames f at k (Some x) xs

-- an object of code whose values fit
pub record IsSortedObject (f : UnitFile) (at : Classes) (x : CodeObject) : Type 0 where
  pub class : Declared
  pub is_class : declared_at f x.class ≡ Some class
  pub vars : AreOfKinds at x.vars class.kinds.vars
  pub frames : AreSortedFrames f at class None x.frames

-- the number of the class of an object
abbrev pub class_in : UnitFile → Config Placed → Classes
class_in f c n = object_of c n >>= λ x. Some (class_number (slice_get f.unit.classes x.object.class))

-- the receiver has the method, and the arguments fit its parameters
abbrev pub IsMessageFor : UnitFile → Config Placed → ℕ → Message → Type 0
IsMessageFor f c r m =
    (y : Placed) × (k : Declared) × (s : Signature) × (object_of c r ≡ Some y) × (declared_at f y.object.class ≡ Some k)
    × (signature_named k (id m.method) ≡ Some s) × AreOfKinds (class_in f c) m.args s.params

-- a typed configuration of code: it meets the invariant of any proper unit, and all its values fit
pub record IsTypedCode (f : UnitFile) (c : Config Placed) : Type 0 where
  pub of_code : IsOfCode f.unit c
  pub objects : (o : ℕ) (x : Placed) → object_of c o ≡ Some x → IsSortedObject f (class_in f c) x.object
  pub messages : (s r : ℕ) → Each (IsMessageFor f c r) (messages_of c s r)

-- the operands of a frame fit a stack that its instruction can take
abbrev pub FitInstr : CodeScope → Classes → Option Instr → List Value → Type 0
FitInstr g at None vs = ⊥
FitInstr g at (Some i) vs = (s : Stack) × AreOfSorts at vs s × IsTrue (is_some (left_by g i s))

abbrev pub FitFrames : UnitFile → Classes → Option Declared → List Frame → Type 0
FitFrames f at None xs = ⊥
FitFrames f at (Some k) [] = ⊥
FitFrames f at (Some k) (x ∷ xs) = FitInstr (frame_scope f k x.method) at (slice_get (code_of (Some k.code) x.method) x.at) x.operands

-- each operand is of a sort that the current instruction allows
abbrev pub TakesOperands : UnitFile → Classes → CodeObject → Type 0
TakesOperands f at x = FitFrames f at (declared_at f x.class) x.frames

-- the object b has the method with n parameters
abbrev pub HasMethod : UnitFile → Config Placed → ℕ → ℕ → ℕ → Type 0
HasMethod f c b m n =
    (y : Placed) × (k : Declared) × (s : Signature) × (object_of c b ≡ Some y) × (declared_at f y.object.class ≡ Some k)
    × (signature_named k (id m) ≡ Some s) × (length s.params ≡ n)

-- an action that goes wrong: a send to an object that lacks the method, or a return to an object that does not wait for it
abbrev pub DoesWrong : UnitFile → Config Placed → ℕ → Kind → Type 0
DoesWrong f c o (K.Send b m args) = ¬ (HasMethod f c b m (length args))
DoesWrong f c o (K.Async b m args) = ¬ (HasMethod f c b m (length args))
DoesWrong f c o (K.Return k v) = ¬ ((x : Placed) × (m : ℕ) × (object_of c k ≡ Some x) × ((coded f.unit).kind k x ≡ K.Waits o m))
DoesWrong f c o _ = ⊥

-- an object without an error goes wrong: its instruction has an operand of a sort that it does not allow, or its action goes wrong
abbrev pub GoesWrong : UnitFile → Config Placed → ℕ → Placed → Type 0
GoesWrong f c o x = (x.fault ≡ None) × (¬ (TakesOperands f (class_in f c) x.object) ⊎ DoesWrong f c o ((coded f.unit).kind o x))
