-- Files that can be encoded as bytes: their kinds fit their unit, their lists are short, and their numbers fit their types.
use Rattle.std.specs.Prelude.{◌≡◌, ℕ, ◌<◌, ◌^◌, List, [], ◌∷◌, length, Option, Some, None, FitsSigned}
use Rattle.std.specs.Int.{w64}
use Rattle.std.specs.List.{AllByRecursion as Each}
use Rattle.text_scan.specs.Text.{Text}
use Rattle.run_types.specs.declared.types.NameId.{NameId}
use Rattle.run_types.specs.declared.types.Kind.{Kind}
use Rattle.run_types.specs.declared.types.Kind.TheVariants as K
use Rattle.code_semantics.specs.declared.unit.Instr.{Instr}
use Rattle.code_semantics.specs.declared.unit.Instr.TheVariants as I
use Rattle.code_semantics.specs.declared.unit.AltCode.{AltCode}
use Rattle.code_semantics.specs.declared.unit.MethodCode.{MethodCode}
use Rattle.code_semantics.specs.declared.unit.ClassCode.{ClassCode}
use Rattle.code_semantics.specs.declared.file.UnitFile.{UnitFile}
use Rattle.code_semantics.specs.declared.file.ClassKinds.{ClassKinds}
use Rattle.code_semantics.specs.declared.file.MethodKinds.{MethodKinds}
use Rattle.code_semantics.specs.Pairs.{pairs}

-- kinds for each method, one for each of its temps
abbrev pub AreShapedMethods : List MethodCode → List MethodKinds → Type 0
AreShapedMethods [] [] = Unit {0}
AreShapedMethods (m ∷ ms) (s ∷ ss) = (m.temps ≡ length s.temps) × AreShapedMethods ms ss
AreShapedMethods _ _ = ⊥

-- kinds for each class, one for each of its variables
abbrev pub AreShapedClasses : List ClassCode → List ClassKinds → Type 0
AreShapedClasses [] [] = Unit {0}
AreShapedClasses (k ∷ ks) (q ∷ qs) = (k.vars ≡ length q.vars) × AreShapedMethods k.methods q.methods × AreShapedClasses ks qs
AreShapedClasses _ _ = ⊥

abbrev pub IsShaped : UnitFile → Type 0
IsShaped f = AreShapedClasses f.unit.classes f.kinds.classes

-- a number of four bytes
abbrev pub IsNumber : ℕ → Type 0
IsNumber n = n < 2 ^ 32

-- a list of fewer than 2^32 items, each with the property
abbrev pub IsListOf : {X : Type 0} → (X → Type 0) → List X → Type 0
IsListOf P xs = IsNumber (length xs) × Each P xs

-- a text of fewer than 2^32 bytes
abbrev pub IsShortText : Text → Type 0
IsShortText t = IsNumber (length t) × Each (λ b. b < 256) t

abbrev pub KindIsNumbered : Kind → Type 0
KindIsNumbered K.Int = Unit {0}
KindIsNumbered K.Bool = Unit {0}
KindIsNumbered (K.Class c) = IsNumber c.0

abbrev pub IsOptionOf : {X : Type 0} → (X → Type 0) → Option X → Type 0
IsOptionOf P None = Unit {0}
IsOptionOf P (Some x) = P x

abbrev pub NameIsNumbered : NameId → Type 0
NameIsNumbered n = IsNumber n.0

abbrev pub AlternativeIsNumbered : AltCode → Type 0
AlternativeIsNumbered a = IsOptionOf (IsListOf NameIsNumbered) a.answer × IsNumber a.at

abbrev pub InstrIsNumbered : Instr → Type 0
InstrIsNumbered (I.PushInt z) = FitsSigned w64 z
InstrIsNumbered (I.Jump a) = IsNumber a
InstrIsNumbered (I.LoadI n) = IsNumber n
InstrIsNumbered (I.LoadT n) = IsNumber n
InstrIsNumbered (I.StoreI n) = IsNumber n
InstrIsNumbered (I.StoreT n) = IsNumber n
InstrIsNumbered (I.Branch a) = IsNumber a
InstrIsNumbered (I.Call m) = NameIsNumbered m
InstrIsNumbered (I.New c) = NameIsNumbered c
InstrIsNumbered (I.Send m n) = NameIsNumbered m × IsNumber n
InstrIsNumbered (I.Async m n) = NameIsNumbered m × IsNumber n
InstrIsNumbered (I.WriteText s) = NameIsNumbered s
InstrIsNumbered (I.Answer ns) = IsListOf NameIsNumbered ns
InstrIsNumbered (I.Select alts) = IsListOf AlternativeIsNumbered alts
InstrIsNumbered _ = Unit {0}

abbrev pub CodeIsNumbered : ℕ → List Instr → Type 0
CodeIsNumbered words c = IsNumber words × IsListOf InstrIsNumbered c

-- a method with its kinds, one for each of its temps
abbrev pub MethodIsWritable : MethodCode × MethodKinds → Type 0
MethodIsWritable m =
    NameIsNumbered m.0.name × IsNumber m.0.params × (m.0.temps ≡ length m.1.temps) × IsListOf KindIsNumbered m.1.temps × IsOptionOf KindIsNumbered m.1.result
    × CodeIsNumbered m.0.frame_words m.0.code

-- a class with its kinds: one for each variable, and those of each method
abbrev pub ClassIsWritable : ClassCode × ClassKinds → Type 0
ClassIsWritable k =
    NameIsNumbered k.0.name × (k.0.vars ≡ length k.1.vars) × IsListOf KindIsNumbered k.1.vars × (length k.0.methods ≡ length k.1.methods)
    × IsListOf MethodIsWritable (pairs k.0.methods k.1.methods) × CodeIsNumbered k.0.body.frame_words k.0.body.code

-- A file that can be encoded: it is shaped and short, and its numbers and integers fit their types.
pub record IsWritable (f : UnitFile) : Type 0 where
  pub names : IsListOf IsShortText f.unit.names
  pub count : length f.unit.classes ≡ length f.kinds.classes
  pub classes : IsListOf ClassIsWritable (pairs f.unit.classes f.kinds.classes)

-- A file is short if each of its lists has fewer than 2^32 items; the bytes of a name count as a list.
abbrev pub IsShortList : {X : Type 0} → List X → Type 0
IsShortList xs = IsNumber (length xs)

abbrev pub AlternativeIsShort : AltCode → Type 0
AlternativeIsShort a = IsOptionOf IsShortList a.answer

abbrev pub InstrIsShort : Instr → Type 0
InstrIsShort (I.Answer ns) = IsShortList ns
InstrIsShort (I.Select alts) = IsListOf AlternativeIsShort alts
InstrIsShort _ = Unit {0}

abbrev pub MethodIsShort : MethodCode → Type 0
MethodIsShort m = IsListOf InstrIsShort m.code

abbrev pub ClassIsShort : ClassCode → Type 0
ClassIsShort k = IsListOf MethodIsShort k.methods × IsListOf InstrIsShort k.body.code

abbrev pub MethodKindsAreShort : MethodKinds → Type 0
MethodKindsAreShort s = IsShortList s.temps

abbrev pub ClassKindsAreShort : ClassKinds → Type 0
ClassKindsAreShort q = IsShortList q.vars × IsListOf MethodKindsAreShort q.methods

pub record IsShort (f : UnitFile) : Type 0 where
  pub names : IsListOf IsShortList f.unit.names
  pub classes : IsListOf ClassIsShort f.unit.classes
  pub kinds : IsListOf ClassKindsAreShort f.kinds.classes

-- A file has the numbers of its types if each number fits four bytes, each integer eight, and each byte of a name one.
abbrev pub AlternativeHasNumbers : AltCode → Type 0
AlternativeHasNumbers a = IsOptionOf (Each NameIsNumbered) a.answer × IsNumber a.at

abbrev pub InstrHasNumbers : Instr → Type 0
InstrHasNumbers (I.Answer ns) = Each NameIsNumbered ns
InstrHasNumbers (I.Select alts) = Each AlternativeHasNumbers alts
InstrHasNumbers i = InstrIsNumbered i

abbrev pub MethodHasNumbers : MethodCode → Type 0
MethodHasNumbers m = NameIsNumbered m.name × IsNumber m.params × IsNumber m.frame_words × Each InstrHasNumbers m.code

abbrev pub ClassHasNumbers : ClassCode → Type 0
ClassHasNumbers k = NameIsNumbered k.name × Each MethodHasNumbers k.methods × IsNumber k.body.frame_words × Each InstrHasNumbers k.body.code

abbrev pub MethodKindsHaveNumbers : MethodKinds → Type 0
MethodKindsHaveNumbers s = Each KindIsNumbered s.temps × IsOptionOf KindIsNumbered s.result

abbrev pub ClassKindsHaveNumbers : ClassKinds → Type 0
ClassKindsHaveNumbers q = Each KindIsNumbered q.vars × Each MethodKindsHaveNumbers q.methods

pub record HasNumbers (f : UnitFile) : Type 0 where
  pub names : Each (λ t. Each (λ b. b < 256) t) f.unit.names
  pub classes : Each ClassHasNumbers f.unit.classes
  pub kinds : Each ClassKindsHaveNumbers f.kinds.classes
