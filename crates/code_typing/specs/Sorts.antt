-- The sorts of operands, and the effect of each instruction on a stack of sorts, under the declared kinds of a unit. A
-- stack has the last operand first.
use Rattle.std.specs.Prelude.{ℕ, ◌==◌, List, [], ◌∷◌, length, replicate, take, Option, Some, None, is_some, Bool, true, false, ◌&&◌, ◌||◌, if◌then◌else◌, slice_get}
use Rattle.run_types.specs.declared.types.NameId.{NameId}
use Rattle.run_types.specs.declared.types.Op.{Op}
use Rattle.run_types.specs.declared.types.Op.TheVariants as O
use Rattle.run_types.specs.declared.types.Kind.{Kind}
use Rattle.run_types.specs.declared.types.Kind.TheVariants as K
use Rattle.run_types.specs.Sorts.{Sort, IntSort, BoolSort, ClassSort, NilSort, NoSort, op_sort, operand_sort, is_same_sort}
use Rattle.run_types.specs.Values.{is_prefix}
use Rattle.run_types.specs.Partial.{◌>>=◌, ◌>>◌, require}
use Rattle.code_semantics.specs.declared.unit.Instr.{Instr}
use Rattle.code_semantics.specs.declared.unit.Instr.TheVariants as I
use Rattle.code_semantics.specs.declared.unit.ClassCode.{ClassCode}
use Rattle.code_semantics.specs.declared.unit.MethodCode.{MethodCode}
use Rattle.code_semantics.specs.declared.file.UnitFile.{UnitFile}
use Rattle.code_semantics.specs.declared.file.ClassKinds.{ClassKinds}
use Rattle.code_semantics.specs.declared.file.MethodKinds.{MethodKinds}
use Rattle.code_semantics.specs.Step.{method_named, class_from}

abbrev pub Stack : Type 0
Stack = List Sort

-- the sort of a kind
abbrev pub kind_sort : Kind → Sort
kind_sort K.Int = IntSort
kind_sort K.Bool = BoolSort
kind_sort (K.Class c) = ClassSort c.0

-- the sort of a call's value
abbrev pub result_sort : Option Kind → Sort
result_sort None = NoSort
result_sort (Some k) = kind_sort k

-- the sort that the value at the end of a method must fit; without result it is nil
abbrev pub value_sort : Option Kind → Sort
value_sort None = NilSort
value_sort (Some k) = kind_sort k

-- a class with its kinds
pub record Declared : Type 0 where
  pub code : ClassCode
  pub kinds : ClassKinds

-- a method for its callers: the kinds of its parameters and of its result
pub record Signature : Type 0 where
  pub params : List Kind
  pub outcome : Option Kind

-- the class at a place
abbrev pub declared_at : UnitFile → ℕ → Option Declared
declared_at f n = slice_get f.unit.classes n >>= λ k. slice_get f.kinds.classes n >>= λ q. Some (record { code = k; kinds = q })

-- the first class of a name
abbrev pub declared_named : UnitFile → NameId → Option Declared
declared_named f c = class_from 0 f.unit.classes c >>= λ n. declared_at f n

abbrev pub signature_of : MethodCode → MethodKinds → Signature
signature_of m s = record { params = take m.params s.temps; outcome = s.result }

-- the first method of a name in the class
abbrev pub signature_named : Declared → NameId → Option Signature
signature_named k m = method_named (Some k.code) m >>= λ r. slice_get k.kinds.methods r.place >>= λ s. Some (signature_of r.code s)

-- the scope of a code: its file, its class, the kinds of its temps, and the sort that its value must fit; a body has no
-- value
pub record CodeScope : Type 0 where
  pub file : UnitFile
  pub class : Declared
  pub temps : List Kind
  pub value : Option Sort

-- the kinds of a method's temps, and the sort that its value must fit; a body has none
abbrev pub temps_by : Option MethodKinds → List Kind
temps_by None = []
temps_by (Some s) = s.temps

abbrev pub value_by : Option MethodKinds → Option Sort
value_by None = None
value_by (Some s) = Some (value_sort s.result)

-- the scope of a body, or of the method with these kinds
abbrev pub scope_by : UnitFile → Declared → Option MethodKinds → CodeScope
scope_by f k q = record { file = f; class = k; temps = temps_by q; value = value_by q }

abbrev pub is_nil_sort : Sort → Bool
is_nil_sort NilSort = true
is_nil_sort _ = false

-- whether an operand of this sort has a value
abbrev pub has_value : Sort → Bool
has_value NoSort = false
has_value _ = true

-- whether an operand of this sort is allowed where the sort `need` is required; nil is always allowed
abbrev pub fits_sort : Sort → Sort → Bool
fits_sort s need = is_nil_sort s || is_same_sort s need

-- whether two operands can be compared
abbrev pub is_alike : Sort → Sort → Bool
is_alike s t = has_value s && has_value t && (fits_sort s t || fits_sort t s)

-- the stack without its last operand, which must fit the sort
abbrev pub pop_fitting : Sort → Stack → Option Stack
pop_fitting need [] = None
pop_fitting need (s ∷ ss) = if fits_sort s need then Some ss else None

-- without its last operand, which must have a value
abbrev pub pop_value : Stack → Option Stack
pop_value [] = None
pop_value (s ∷ ss) = if has_value s then Some ss else None

-- without its last operand, of any sort
abbrev pub pop_any : Stack → Option Stack
pop_any [] = None
pop_any (s ∷ ss) = Some ss

-- without its last two operands, which must be comparable
abbrev pub pop_alike : Stack → Option Stack
pop_alike (t ∷ s ∷ ss) = if is_alike s t then Some ss else None
pop_alike _ = None

-- without the arguments for these parameters; the last argument is the last operand
abbrev pub pop_arguments : List Kind → Stack → Option Stack
pop_arguments [] ss = Some ss
pop_arguments (k ∷ ks) ss = pop_arguments ks ss >>= λ rest. pop_fitting (kind_sort k) rest

-- with one more operand, of this sort
abbrev pub push_sort : Sort → Option Stack → Option Stack
push_sort s None = None
push_sort s (Some ss) = Some (s ∷ ss)

abbrev pub is_comparison : Op → Bool
is_comparison O.Same = true
is_comparison O.Differs = true
is_comparison _ = false

abbrev pub operated_sorts : Op → Stack → Option Stack
operated_sorts op ss =
    if is_prefix op then push_sort (op_sort op) (pop_fitting (operand_sort op) ss)
    else (if is_comparison op then push_sort BoolSort (pop_alike ss)
    else push_sort (op_sort op) (pop_fitting (operand_sort op) ss >>= λ rest. pop_fitting (operand_sort op) rest))

-- the method m with n parameters, if a destination of this sort has it
abbrev pub asked_of : UnitFile → Option Sort → NameId → ℕ → Option Signature
asked_of f (Some (ClassSort c)) m n =
    declared_named f (record { 0 = c }) >>= λ k. signature_named k m >>= λ s. require (length s.params == n) >> Some s
asked_of f _ m n = None

-- the stack without the arguments and the destination
abbrev pub pop_sent : Stack → Signature → Option Stack
pop_sent ss s = pop_arguments s.params ss >>= λ rest. pop_any rest

-- a method's value is the only operand at its end, and at the return before post statements
abbrev pub pop_returned : Option Sort → Stack → Option Stack
pop_returned (Some need) (s ∷ []) = if fits_sort s need then Some [] else None
pop_returned _ _ = None

-- the stack after an instruction, if the instruction can take this stack
abbrev pub left_by : CodeScope → Instr → Stack → Option Stack
left_by g (I.PushInt z) ss = Some (IntSort ∷ ss)
left_by g (I.PushBool b) ss = Some (BoolSort ∷ ss)
left_by g I.PushNil ss = Some (NilSort ∷ ss)
left_by g (I.Jump a) ss = Some ss
left_by g (I.LoadI n) ss = slice_get g.class.kinds.vars n >>= λ k. Some (kind_sort k ∷ ss)
left_by g (I.LoadT n) ss = slice_get g.temps n >>= λ k. Some (kind_sort k ∷ ss)
left_by g I.SelfRef ss = Some (ClassSort g.class.code.name.0 ∷ ss)
left_by g (I.StoreI n) ss = slice_get g.class.kinds.vars n >>= λ k. pop_fitting (kind_sort k) ss
left_by g (I.StoreT n) ss = slice_get g.temps n >>= λ k. pop_fitting (kind_sort k) ss
left_by g (I.Oper op) ss = operated_sorts op ss
left_by g I.Pop ss = pop_any ss
left_by g (I.Branch a) ss = pop_fitting BoolSort ss
left_by g I.Loop ss = Some ss
left_by g (I.Call m) ss = signature_named g.class m >>= λ s. push_sort (result_sort s.outcome) (pop_arguments s.params ss)
left_by g I.Ret ss = pop_returned g.value ss
left_by g (I.New c) ss = require (is_some (class_from 0 g.file.unit.classes c)) >> Some (ClassSort c.0 ∷ ss)
left_by g (I.Send m n) ss = asked_of g.file (slice_get ss n) m n >>= λ s. push_sort (result_sort s.outcome) (pop_sent ss s)
left_by g (I.Async m n) ss = asked_of g.file (slice_get ss n) m n >>= λ s. pop_sent ss s
left_by g I.Write ss = pop_value ss
left_by g (I.WriteText s) ss = Some ss
left_by g (I.Answer ms) ss = Some ss
left_by g (I.Select alts) ss = pop_arguments (replicate (length alts) K.Bool) ss
left_by g I.Halt ss = Some ss
-- the value stays
left_by g I.Post ss = pop_returned g.value ss >>= λ rest. Some ss
