-- Decodes the bytes of an object code file: gives the file, the first byte that the format does not allow at its place,
-- or the first duplicate name.
use Rattle.std.specs.Prelude.{ℕ, suc, ◌-◌, ◌==◌, List, [], ◌∷◌, length, map, Option, Some, None, Bool, true, false, if◌then◌else◌}
use Rattle.std.specs.Int.{w64, from_be_bytes, cast_signed}
use Rattle.text_scan.specs.Text.{Text}
use Rattle.run_types.specs.Table.{is_among}
use Rattle.run_types.specs.declared.types.NameId.{NameId}
use Rattle.run_types.specs.declared.types.Op.{Op}
use Rattle.run_types.specs.declared.types.Op.TheVariants as O
use Rattle.run_types.specs.declared.types.Kind.{Kind}
use Rattle.run_types.specs.declared.types.Kind.TheVariants as K
use Rattle.code_semantics.specs.declared.unit.Instr.{Instr}
use Rattle.code_semantics.specs.declared.unit.Instr.TheVariants as I
use Rattle.code_semantics.specs.declared.unit.AltCode.{AltCode}
use Rattle.code_semantics.specs.declared.unit.MethodCode.{MethodCode}
use Rattle.code_semantics.specs.declared.unit.ClassCode.{ClassCode}
use Rattle.code_semantics.specs.declared.file.UnitFile.{UnitFile}
use Rattle.code_semantics.specs.declared.file.ClassKinds.{ClassKinds}
use Rattle.code_semantics.specs.declared.file.MethodKinds.{MethodKinds}
use Rattle.object_code.specs.Read.{Read, Got, Stop, Reader, then_read, read_nothing, read_as, read_by, not_allowed, read_number, read_bytes, read_list}
use Rattle.object_code.specs.FileBytes.{head_bytes}

abbrev pub read_name : Reader NameId
read_name bs = read_as (λ n. record { 0 = n }) read_number bs

abbrev pub read_text : Reader Text
read_text bs = then_read (read_number bs) read_bytes

-- an integer of eight bytes of two's complement
abbrev pub read_integer : Reader Instr
read_integer (a ∷ b ∷ c ∷ d ∷ e ∷ f ∷ g ∷ h ∷ rest) = Got (I.PushInt (cast_signed w64 (from_be_bytes w64 (a ∷ b ∷ c ∷ d ∷ e ∷ f ∷ g ∷ h ∷ [])))) rest
read_integer _ = Stop 0

-- the readers of kinds by the first byte, from 0
abbrev pub kind_readers : List (Reader Kind)
kind_readers = not_allowed ∷ read_nothing K.Int ∷ read_nothing K.Bool ∷ read_as K.Class read_name ∷ []

abbrev pub read_kind : Reader Kind
read_kind bs = read_by kind_readers bs

-- an optional part: none after a byte 0, and the part after a byte 1
abbrev pub read_option : {A : Type 0} → Reader A → Reader (Option A)
read_option r bs = read_by (read_nothing None ∷ read_as Some r ∷ []) bs

abbrev pub truth_readers : List (Reader Bool)
truth_readers = read_nothing false ∷ read_nothing true ∷ []

abbrev pub read_truth : Reader Bool
read_truth bs = read_by truth_readers bs

-- the byte of an operator is its number, from 1
abbrev pub operator_readers : List (Reader Op)
operator_readers = not_allowed ∷ map (λ op. read_nothing op) (
    O.Add ∷ O.Sub ∷ O.Mul ∷ O.Div ∷ O.Rem ∷ O.Neg ∷ O.Less ∷ O.LessEq ∷ O.More ∷ O.MoreEq ∷ O.Same ∷ O.Differs ∷ O.And ∷ O.Or ∷ O.Not ∷ []
    )

abbrev pub read_operator : Reader Op
read_operator bs = read_by operator_readers bs

-- a method's name and a number of arguments
abbrev pub read_sent : (NameId → ℕ → Instr) → Reader Instr
read_sent make bs = then_read (read_name bs) (λ m rest. read_as (make m) read_number rest)

abbrev pub read_alternative : Reader AltCode
read_alternative bs = then_read (read_option (read_list read_name) bs) (λ ns rest. read_as (λ a. record { answer = ns; at = a }) read_number rest)

-- the byte of an instruction is its number, from 1
abbrev pub instr_readers : List (Reader Instr)
instr_readers =
    not_allowed ∷ read_integer ∷ read_as I.PushBool read_truth ∷ read_nothing I.PushNil ∷ read_as I.Jump read_number ∷ read_as I.LoadI read_number ∷
    read_as I.LoadT read_number ∷ read_nothing I.SelfRef ∷ read_as I.StoreI read_number ∷ read_as I.StoreT read_number ∷ read_as I.Oper read_operator ∷
    read_nothing I.Pop ∷ read_as I.Branch read_number ∷ read_nothing I.Loop ∷ read_as I.Call read_name ∷ read_nothing I.Ret ∷ read_as I.New read_name ∷
    read_sent I.Send ∷ read_sent I.Async ∷ read_nothing I.Write ∷ read_as I.WriteText read_name ∷ read_as I.Answer (read_list read_name) ∷
    read_as I.Select (read_list read_alternative) ∷ read_nothing I.Halt ∷ read_nothing I.Post ∷ []

abbrev pub read_instr : Reader Instr
read_instr bs = read_by instr_readers bs

-- the number of words of a frame, and the code
abbrev pub read_code : Reader (ℕ × List Instr)
read_code bs = then_read (read_number bs) (λ words rest. read_as (λ c. (words, c)) (read_list read_instr) rest)

abbrev pub method_of : NameId → ℕ → List Kind → Option Kind → ℕ × List Instr → MethodCode × MethodKinds
method_of name params temps outcome code = (
  record { name = name; params = params; temps = length temps; frame_words = code.0; code = code.1 },
  record { temps = temps; result = outcome },
)

-- the rest of a method after its result, its temps, its number of parameters, and its name
abbrev pub behind_outcome : NameId → ℕ → List Kind → Option Kind → Reader (MethodCode × MethodKinds)
behind_outcome name params temps outcome bs = read_as (method_of name params temps outcome) read_code bs

abbrev pub behind_temps : NameId → ℕ → List Kind → Reader (MethodCode × MethodKinds)
behind_temps name params temps bs = then_read (read_option read_kind bs) (behind_outcome name params temps)

abbrev pub behind_params : NameId → ℕ → Reader (MethodCode × MethodKinds)
behind_params name params bs = then_read (read_list read_kind bs) (behind_temps name params)

abbrev pub behind_name : NameId → Reader (MethodCode × MethodKinds)
behind_name name bs = then_read (read_number bs) (behind_params name)

abbrev pub read_method : Reader (MethodCode × MethodKinds)
read_method bs = then_read (read_name bs) behind_name

abbrev pub firsts : {A B : Type 0} → List (A × B) → List A
firsts ps = map (λ p. p.0) ps

abbrev pub seconds : {A B : Type 0} → List (A × B) → List B
seconds ps = map (λ p. p.1) ps

abbrev pub class_of : NameId → List Kind → List (MethodCode × MethodKinds) → ℕ × List Instr → ClassCode × ClassKinds
class_of name vars methods code = (
  record { name = name; vars = length vars; methods = firsts methods; body = record { frame_words = code.0; code = code.1 } },
  record { vars = vars; methods = seconds methods },
)

-- the rest of a class after its methods, its variables, and its name
abbrev pub behind_methods : NameId → List Kind → List (MethodCode × MethodKinds) → Reader (ClassCode × ClassKinds)
behind_methods name vars methods bs = read_as (class_of name vars methods) read_code bs

abbrev pub behind_vars : NameId → List Kind → Reader (ClassCode × ClassKinds)
behind_vars name vars bs = then_read (read_list read_method bs) (behind_methods name vars)

abbrev pub behind_class_name : NameId → Reader (ClassCode × ClassKinds)
behind_class_name name bs = then_read (read_list read_kind bs) (behind_vars name)

abbrev pub read_class : Reader (ClassCode × ClassKinds)
read_class bs = then_read (read_name bs) behind_class_name

-- exactly these bytes
abbrev pub read_exactly : Text → Reader (Unit {0})
read_exactly [] bs = Got tt bs
read_exactly (h ∷ hs) [] = Stop 0
read_exactly (h ∷ hs) (b ∷ bs) = if h == b then read_exactly hs bs else Stop (suc (length bs))

abbrev pub file_of : List Text → List (ClassCode × ClassKinds) → UnitFile
file_of names classes = record { unit = record { names = names; classes = firsts classes }; kinds = record { classes = seconds classes } }

-- the rest of a file after its names, and after its first bytes
abbrev pub behind_names : List Text → Reader UnitFile
behind_names names bs = read_as (file_of names) (read_list read_class) bs

abbrev pub behind_front : Unit {0} → Reader UnitFile
behind_front u bs = then_read (read_list read_text bs) behind_names

-- a file; other bytes may follow it
abbrev pub read_file : Reader UnitFile
read_file bs = then_read (read_exactly head_bytes bs) behind_front

-- the place of the first text that equals an earlier one; the earlier ones are also those in `before`, and the first of
-- the list has the place n
abbrev pub first_twice : ℕ → List Text → List Text → Option ℕ
first_twice n before [] = None
first_twice n before (x ∷ xs) = if is_among before x then Some n else first_twice (suc n) (x ∷ before) xs

pub data Decoded : Type 0 where
  Says : (file : UnitFile) → Decoded
  BadBytes : (at : ℕ) → Decoded
  NameTwice : (place : ℕ) → Decoded

abbrev pub unless_twice : UnitFile → Option ℕ → Decoded
unless_twice f None = Says f
unless_twice f (Some n) = NameTwice n

-- a byte after the file is not allowed either
abbrev pub decoded : ℕ → Read UnitFile → Decoded
decoded size (Got f []) = unless_twice f (first_twice 0 [] f.unit.names)
decoded size (Got f (b ∷ bs)) = BadBytes (size - suc (length bs))
decoded size (Stop left) = BadBytes (size - left)

abbrev pub decode : Text → Decoded
decode bs = decoded (length bs) (read_file bs)
