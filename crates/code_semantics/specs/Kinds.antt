-- The next action of an object of code, read from the instruction at its place and its operands.
use Rattle.std.specs.Prelude.{ℕ, List, [], ◌∷◌, length, Option, Some, None, Bool, if◌then◌else◌, slice_get}
use Rattle.std.specs.List.{list_any}
use Rattle.run_types.specs.declared.types.NameId.{NameId}
use Rattle.run_types.specs.declared.types.Value.{Value}
use Rattle.run_types.specs.declared.types.Value.TheVariants as V
use Rattle.run_types.specs.declared.types.Op.{Op}
use Rattle.run_types.specs.declared.types.Item.{Item}
use Rattle.run_types.specs.declared.types.Error.{Error}
use Rattle.run_types.specs.declared.types.Error.TheVariants.{NilDestination, NilOperand, NoOpenGuard}
use Rattle.run_types.specs.Values.{Outcome, Gives, Fails, WrongSort, prefix_value, infix_value, is_bool, is_true, not_bool, is_prefix}
use Rattle.code_semantics.specs.declared.unit.Instr.{Instr}
use Rattle.code_semantics.specs.declared.unit.Instr.TheVariants as I
use Rattle.code_semantics.specs.declared.unit.AltCode.{AltCode}
use Rattle.run_types.specs.declared.types.Serves.{Serves}
use Rattle.run_types.specs.declared.types.Serves.TheVariants as S
use Rattle.code_semantics.specs.declared.unit.ClassCode.{ClassCode}
use Rattle.code_semantics.specs.declared.unit.Unit.{Unit as Code}
use Rattle.code_semantics.specs.Frames.{Frame, CodeObject, code_of}
use Rattle.run_types.specs.Operands.{top, below, taken, dropped}

-- an alternative with its guard's value
pub record Offered : Type 0 where
  pub is_open : Bool
  -- the methods that it answers; a plain one has none
  pub answer : Option (List NameId)

pub data Kind : Type 0 where
  Finished : Kind
  Local : Kind
  Fault : (error : Error) → Kind
  New : (class : NameId) → Kind
  Send : (receiver : ℕ) (method : NameId) (args : List Value) → Kind
  Async : (receiver : ℕ) (method : NameId) (args : List Value) → Kind
  Write : (item : Item) → Kind
  Answer : (names : List NameId) → Kind
  Select : (alts : List Offered) → Kind
  -- to the caller, whose request has this number
  Return : (caller number : ℕ) (value : Value) → Kind

-- the outcome of an operator on the last operands
abbrev pub operated : Op → List Value → Outcome
operated op vs = if is_prefix op then prefix_value op (top vs) else infix_value op (top (below vs)) (top vs)

-- the number of operands that an operator takes
abbrev pub arity : Op → ℕ
arity op = if is_prefix op then 1 else 2

-- an operand of a wrong sort is the error of an operand that is nil
abbrev pub outcome_kind : Outcome → Kind
outcome_kind (Gives v) = Local
outcome_kind (Fails e) = Fault e
outcome_kind WrongSort = Fault NilOperand

abbrev pub sent_kind : Value → (ℕ → Kind) → Kind
sent_kind (V.Ref b) go = go b
sent_kind _ go = Fault NilDestination

abbrev pub return_kind : Serves → Value → Kind
return_kind (S.Caller k n) v = Return k n v
return_kind _ v = Local

-- the alternatives with the values of their guards
abbrev pub offers : List AltCode → List Value → List Offered
offers [] vs = []
offers (a ∷ alts) [] = []
offers (a ∷ alts) (v ∷ vs) = record { is_open = is_true v; answer = a.answer } ∷ offers alts vs

abbrev pub select_kind : List AltCode → List Value → Kind
select_kind alts guards =
    if list_any not_bool guards then Fault NilOperand
    else (if list_any is_true guards then Select (offers alts guards) else Fault NoOpenGuard)

-- the action at an instruction of a frame
abbrev pub instr_kind : Frame → Option Instr → Kind
instr_kind f (Some (I.Oper op)) = outcome_kind (operated op f.operands)
instr_kind f (Some (I.Branch a)) = if is_bool (top f.operands) then Local else Fault NilOperand
instr_kind f (Some I.Ret) = return_kind f.serves (top f.operands)
instr_kind f (Some I.Post) = return_kind f.serves (top f.operands)
instr_kind f (Some (I.New c)) = New c
instr_kind f (Some (I.Send m n)) = sent_kind (top (dropped n f.operands)) (λ b. Send b m (taken n f.operands []))
instr_kind f (Some (I.Async m n)) = sent_kind (top (dropped n f.operands)) (λ b. Async b m (taken n f.operands []))
instr_kind f (Some I.Write) = Write (Item.Value (top f.operands))
instr_kind f (Some (I.WriteText s)) = Write (Item.Text s)
instr_kind f (Some (I.Answer names)) = Answer names
instr_kind f (Some (I.Select alts)) = select_kind alts (taken (length alts) f.operands [])
instr_kind f (Some I.Halt) = Finished
instr_kind f None = Finished
instr_kind f _ = Local

abbrev pub frames_kind : Option ClassCode → List Frame → Kind
frames_kind k [] = Finished
frames_kind k (f ∷ fs) = instr_kind f (slice_get (code_of k f.method) f.at)

-- the next action of the object
abbrev pub code_kind : Code → CodeObject → Kind
code_kind u x = frames_kind (slice_get u.classes x.class) x.frames
