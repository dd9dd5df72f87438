-- The object of code after each kind of step: a local step, a reply, a send or a return, a choice, and the start of a method or of an object.
use Rattle.std.specs.Prelude.{ℕ, suc, ◌-◌, ◌==◌, List, [], ◌∷◌, length, Option, Some, None, Bool, true, false, if◌then◌else◌, slice_get, slice_set, take}
use Rattle.run_types.specs.declared.types.NameId.{NameId}
use Rattle.run_types.specs.declared.types.Value.{Value}
use Rattle.run_types.specs.declared.types.Value.TheVariants as V
use Rattle.run_types.specs.Values.{Outcome, Gives, is_true}
use Rattle.code_semantics.specs.declared.unit.Instr.{Instr}
use Rattle.code_semantics.specs.declared.unit.Instr.TheVariants as I
use Rattle.code_semantics.specs.declared.unit.AltCode.{AltCode}
use Rattle.run_types.specs.declared.types.Serves.{Serves}
use Rattle.run_types.specs.declared.types.Serves.TheVariants as S
use Rattle.code_semantics.specs.declared.unit.MethodCode.{MethodCode}
use Rattle.code_semantics.specs.declared.unit.ClassCode.{ClassCode}
use Rattle.code_semantics.specs.declared.unit.Unit.{Unit as Code}
use Rattle.code_semantics.specs.Frames.{Frame, CodeObject, code_of, next, settled}
use Rattle.run_types.specs.Operands.{top, below, taken, dropped, nth, padded}
use Rattle.code_semantics.specs.Kinds.{operated, arity}

-- the object with the frames `f` and `fs`, after the silent instructions of `f`, which is the innermost
abbrev pub at_rest : Option ClassCode → CodeObject → Frame → List Frame → CodeObject
at_rest k x f fs = record x { frames = settled (code_of k f.method) f ∷ fs }

abbrev pub outcome_value : Outcome → Value
outcome_value (Gives v) = v
outcome_value _ = V.Nil

-- a method and its place in its class
pub record Numbered : Type 0 where
  pub place : ℕ
  pub code : MethodCode

-- the first method of this name; the first of the list has the place n
abbrev pub method_from : ℕ → List MethodCode → NameId → Option Numbered
method_from n [] m = None
method_from n (k ∷ ks) m = if k.name.0 == m.0 then Some (record { place = n; code = k }) else method_from (suc n) ks m

-- the first method of this name in the class
abbrev pub method_named : Option ClassCode → NameId → Option Numbered
method_named None m = None
method_named (Some k) m = method_from 0 k.methods m

-- the first frame of a method: a missing argument is nil, and a surplus one is dropped
abbrev pub begun : Numbered → List Value → Serves → Frame
begun m args serves = record {
  method = Some m.place;
  at = 0;
  temps = padded m.code.temps (take m.code.params args);
  operands = [];
  serves = serves;
}

-- an own call
abbrev pub called : Option ClassCode → CodeObject → Frame → List Frame → Option Numbered → CodeObject
called k x f fs None = x
called k x f fs (Some m) =
    at_rest k x (begun m (taken m.code.params f.operands []) S.Own) (next f (dropped m.code.params f.operands) ∷ fs)

-- a method has ended: its value is pushed in the frame under it
abbrev pub handed : Option ClassCode → CodeObject → Value → List Frame → CodeObject
handed k x v [] = x
handed k x v (f ∷ fs) = at_rest k x (record f { operands = v ∷ f.operands }) fs

-- the object without its innermost frame
abbrev pub left : Option ClassCode → CodeObject → List Frame → CodeObject
left k x [] = x
left k x (f ∷ fs) = at_rest k x f fs

abbrev pub is_own : Serves → Bool
is_own S.Own = true
is_own _ = false

-- the local step of an instruction
abbrev pub instr_stepped : Option ClassCode → ℕ → CodeObject → Frame → List Frame → Option Instr → CodeObject
instr_stepped k o x f fs (Some (I.LoadI n)) = at_rest k x (next f (nth x.vars n ∷ f.operands)) fs
instr_stepped k o x f fs (Some (I.LoadT n)) = at_rest k x (next f (nth f.temps n ∷ f.operands)) fs
instr_stepped k o x f fs (Some I.SelfRef) = at_rest k x (next f (V.Ref o ∷ f.operands)) fs
instr_stepped k o x f fs (Some (I.StoreI n)) =
    at_rest k (record x { vars = slice_set x.vars n (top f.operands) }) (next f (below f.operands)) fs
instr_stepped k o x f fs (Some (I.StoreT n)) =
    at_rest k x (next (record f { temps = slice_set f.temps n (top f.operands) }) (below f.operands)) fs
instr_stepped k o x f fs (Some (I.Oper op)) =
    at_rest k x (next f (outcome_value (operated op f.operands) ∷ dropped (arity op) f.operands)) fs
instr_stepped k o x f fs (Some I.Pop) = at_rest k x (next f (below f.operands)) fs
instr_stepped k o x f fs (Some (I.Branch a)) =
    at_rest k x (record f { at = if is_true (top f.operands) then suc f.at else a; operands = below f.operands }) fs
instr_stepped k o x f fs (Some I.Loop) = at_rest k x (next f f.operands) fs
instr_stepped k o x f fs (Some (I.Call m)) = called k x f fs (method_named k m)
instr_stepped k o x f fs (Some I.Ret) = if is_own f.serves then handed k x (top f.operands) fs else left k x fs
instr_stepped k o x f fs _ = x

abbrev pub frames_stepped : Option ClassCode → ℕ → CodeObject → List Frame → CodeObject
frames_stepped k o x [] = x
frames_stepped k o x (f ∷ fs) = instr_stepped k o x f fs (slice_get (code_of k f.method) f.at)

-- the object of the name o after its local step
abbrev pub code_stepped : Code → ℕ → CodeObject → CodeObject
code_stepped u o x = frames_stepped (slice_get u.classes x.class) o x x.frames

-- the number of operands that a New or a Send takes
abbrev pub asked : Option Instr → ℕ
asked (Some (I.Send m n)) = suc n
asked _ = 0

abbrev pub frames_given : Option ClassCode → CodeObject → Value → List Frame → CodeObject
frames_given k x v [] = x
frames_given k x v (f ∷ fs) =
    at_rest k x (next f (v ∷ dropped (asked (slice_get (code_of k f.method) f.at)) f.operands)) fs

-- after a New or a Send: its operands are popped and the value is pushed
abbrev pub code_given : Code → CodeObject → Value → CodeObject
code_given u x v = frames_given (slice_get u.classes x.class) x v x.frames

abbrev pub instr_gone_on : Option ClassCode → CodeObject → Frame → List Frame → Option Instr → CodeObject
instr_gone_on k x f fs (Some I.Write) = at_rest k x (next f (below f.operands)) fs
instr_gone_on k x f fs (Some (I.WriteText s)) = at_rest k x (next f f.operands) fs
instr_gone_on k x f fs (Some (I.Async m n)) = at_rest k x (next f (dropped (suc n) f.operands)) fs
instr_gone_on k x f fs (Some I.Ret) = left k x fs
instr_gone_on k x f fs (Some I.Post) = at_rest k x (next (record f { serves = S.Sender }) f.operands) fs
instr_gone_on k x f fs _ = x

abbrev pub frames_gone_on : Option ClassCode → CodeObject → List Frame → CodeObject
frames_gone_on k x [] = x
frames_gone_on k x (f ∷ fs) = instr_gone_on k x f fs (slice_get (code_of k f.method) f.at)

-- after an Async, a Write or a Return
abbrev pub code_gone_on : Code → CodeObject → CodeObject
code_gone_on u x = frames_gone_on (slice_get u.classes x.class) x x.frames

-- a frame at the list of an alternative
abbrev pub at_alternative : Frame → ℕ → Option AltCode → Frame
at_alternative f n None = f
at_alternative f n (Some a) = record f { at = a.at; operands = dropped n f.operands }

-- a frame after an answer, or at the list of alternative i, from 1, of a select
abbrev pub after_choice : Frame → ℕ → Option Instr → Frame
after_choice f i (Some (I.Select alts)) = at_alternative f (length alts) (slice_get alts (i - 1))
after_choice f i _ = next f f.operands

abbrev pub frames_picked : Option ClassCode → CodeObject → ℕ → List Frame → CodeObject
frames_picked k x i [] = x
frames_picked k x i (f ∷ fs) = at_rest k x (after_choice f i (slice_get (code_of k f.method) f.at)) fs

-- the object in plain alternative i
abbrev pub code_picked : Code → CodeObject → ℕ → CodeObject
code_picked u x i = frames_picked (slice_get u.classes x.class) x i x.frames

abbrev pub frames_serving : Option ClassCode → CodeObject → ℕ → Numbered → List Value → Serves → List Frame → CodeObject
frames_serving k x i m args serves [] = x
frames_serving k x i m args serves (f ∷ fs) =
    at_rest k x (begun m args serves) (after_choice f i (slice_get (code_of k f.method) f.at) ∷ fs)

abbrev pub method_serving : Option ClassCode → CodeObject → ℕ → Option Numbered → List Value → Serves → Option CodeObject
method_serving k x i None args serves = None
method_serving k x i (Some m) args serves = Some (frames_serving k x i m args serves x.frames)

-- the object that begins to serve the method, chosen by alternative i; none if the class has no such method
abbrev pub code_serving : Code → CodeObject → ℕ → NameId → List Value → Serves → Option CodeObject
code_serving u x i m args serves =
    let k = slice_get u.classes x.class in method_serving k x i (method_named k m) args serves

abbrev pub placed_of : ℕ → Option ClassCode → Option CodeObject
placed_of c None = None
placed_of c (Some k) =
    Some (at_rest (Some k) (record { class = c; vars = padded k.vars []; frames = [] })
    (record { method = None; at = 0; temps = []; operands = []; serves = S.Sender }) [])

-- a new object of the class of this place
abbrev pub code_placed : Code → ℕ → Option CodeObject
code_placed u c = placed_of c (slice_get u.classes c)

-- the place of the first class of this name; the first of the list has the place n
abbrev pub class_from : ℕ → List ClassCode → NameId → Option ℕ
class_from n [] c = None
class_from n (k ∷ ks) c = if k.name.0 == c.0 then Some n else class_from (suc n) ks c

abbrev pub placed_at : Code → Option ℕ → Option CodeObject
placed_at u None = None
placed_at u (Some n) = code_placed u n

-- a new object of the class of this name
abbrev pub code_made : Code → NameId → Option CodeObject
code_made u c = placed_at u (class_from 0 u.classes c)
