-- The encoding of an object code file as bytes.
use Rattle.std.specs.Prelude.{ℕ, ℤ, List, [], ◌∷◌, ◌++◌, length, codes, Option, Some, None, Bool, true, false}
use Rattle.std.specs.Int.{w32, w64, to_be_bytes, cast_unsigned}
use Rattle.text_scan.specs.Text.{Text}
use Rattle.run_types.specs.declared.types.NameId.{NameId}
use Rattle.run_types.specs.declared.types.Op.{Op}
use Rattle.run_types.specs.declared.types.Op.TheVariants as O
use Rattle.run_types.specs.declared.types.Kind.{Kind}
use Rattle.run_types.specs.declared.types.Kind.TheVariants as K
use Rattle.code_semantics.specs.declared.unit.Instr.{Instr}
use Rattle.code_semantics.specs.declared.unit.Instr.TheVariants as I
use Rattle.code_semantics.specs.declared.unit.AltCode.{AltCode}
use Rattle.code_semantics.specs.declared.unit.MethodCode.{MethodCode}
use Rattle.code_semantics.specs.declared.unit.ClassCode.{ClassCode}
use Rattle.code_semantics.specs.declared.file.UnitFile.{UnitFile}
use Rattle.code_semantics.specs.declared.file.ClassKinds.{ClassKinds}
use Rattle.code_semantics.specs.declared.file.MethodKinds.{MethodKinds}
use Rattle.code_semantics.specs.Pairs.{pairs}

-- a number has four bytes, high byte first
abbrev pub number_bytes : ℕ → Text
number_bytes n = to_be_bytes w32 n

-- an integer has eight bytes of two's complement
abbrev pub integer_bytes : ℤ → Text
integer_bytes z = to_be_bytes w64 (cast_unsigned w64 z)

abbrev pub name_bytes : NameId → Text
name_bytes n = number_bytes n.0

-- one item after another
abbrev pub items_bytes : {X : Type 0} → (X → Text) → List X → Text
items_bytes bytes [] = []
items_bytes bytes (x ∷ xs) = bytes x ++ items_bytes bytes xs

-- a list is the number of its items, and the items
abbrev pub list_bytes : {X : Type 0} → (X → Text) → List X → Text
list_bytes bytes xs = number_bytes (length xs) ++ items_bytes bytes xs

abbrev pub text_bytes : Text → Text
text_bytes t = number_bytes (length t) ++ t

abbrev pub kind_bytes : Kind → Text
kind_bytes K.Int = 1 ∷ []
kind_bytes K.Bool = 2 ∷ []
kind_bytes (K.Class c) = 3 ∷ name_bytes c

-- an optional part is a byte 0, or a byte 1 and the part
abbrev pub option_bytes : {X : Type 0} → (X → Text) → Option X → Text
option_bytes bytes None = 0 ∷ []
option_bytes bytes (Some x) = 1 ∷ bytes x

abbrev pub truth_byte : Bool → ℕ
truth_byte false = 0
truth_byte true = 1

abbrev pub operator_byte : Op → ℕ
operator_byte O.Add = 1
operator_byte O.Sub = 2
operator_byte O.Mul = 3
operator_byte O.Div = 4
operator_byte O.Rem = 5
operator_byte O.Neg = 6
operator_byte O.Less = 7
operator_byte O.LessEq = 8
operator_byte O.More = 9
operator_byte O.MoreEq = 10
operator_byte O.Same = 11
operator_byte O.Differs = 12
operator_byte O.And = 13
operator_byte O.Or = 14
operator_byte O.Not = 15

abbrev pub alternative_bytes : AltCode → Text
alternative_bytes a = option_bytes (list_bytes name_bytes) a.answer ++ number_bytes a.at

-- a byte for the instruction, and its fields in order
abbrev pub instr_bytes : Instr → Text
instr_bytes (I.PushInt z) = 1 ∷ integer_bytes z
instr_bytes (I.PushBool b) = 2 ∷ truth_byte b ∷ []
instr_bytes I.PushNil = 3 ∷ []
instr_bytes (I.Jump a) = 4 ∷ number_bytes a
instr_bytes (I.LoadI n) = 5 ∷ number_bytes n
instr_bytes (I.LoadT n) = 6 ∷ number_bytes n
instr_bytes I.SelfRef = 7 ∷ []
instr_bytes (I.StoreI n) = 8 ∷ number_bytes n
instr_bytes (I.StoreT n) = 9 ∷ number_bytes n
instr_bytes (I.Oper op) = 10 ∷ operator_byte op ∷ []
instr_bytes I.Pop = 11 ∷ []
instr_bytes (I.Branch a) = 12 ∷ number_bytes a
instr_bytes I.Loop = 13 ∷ []
instr_bytes (I.Call m) = 14 ∷ name_bytes m
instr_bytes I.Ret = 15 ∷ []
instr_bytes (I.New c) = 16 ∷ name_bytes c
instr_bytes (I.Send m n) = 17 ∷ (name_bytes m ++ number_bytes n)
instr_bytes (I.Async m n) = 18 ∷ (name_bytes m ++ number_bytes n)
instr_bytes I.Write = 19 ∷ []
instr_bytes (I.WriteText s) = 20 ∷ name_bytes s
instr_bytes (I.Answer ns) = 21 ∷ list_bytes name_bytes ns
instr_bytes (I.Select alts) = 22 ∷ list_bytes alternative_bytes alts
instr_bytes I.Halt = 23 ∷ []
instr_bytes I.Post = 24 ∷ []

-- the number of words of a frame, and the instructions
abbrev pub code_bytes : ℕ → List Instr → Text
code_bytes words c = number_bytes words ++ list_bytes instr_bytes c

abbrev pub method_bytes : MethodCode × MethodKinds → Text
method_bytes m =
    name_bytes m.0.name ++ (number_bytes m.0.params ++ (list_bytes kind_bytes m.1.temps ++ (option_bytes kind_bytes m.1.result ++ code_bytes m.0.frame_words m.0.code)))

abbrev pub class_bytes : ClassCode × ClassKinds → Text
class_bytes k =
    name_bytes k.0.name ++ (list_bytes kind_bytes k.1.vars ++ (list_bytes method_bytes (pairs k.0.methods k.1.methods) ++ code_bytes k.0.body.frame_words k.0.body.code))

-- `POOLU`, and a byte 1
abbrev pub head_bytes : Text
head_bytes = codes "POOLU" ++ 1 ∷ []

abbrev pub file_bytes : UnitFile → Text
file_bytes f = head_bytes ++ (list_bytes text_bytes f.unit.names ++ list_bytes class_bytes (pairs f.unit.classes f.kinds.classes))
