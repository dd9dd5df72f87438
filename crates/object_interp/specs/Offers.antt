-- The alternatives that an object of code offers at an answer or a select, and its request, in the interpreter's types.
use Rattle.std.specs.Prelude.{ℕ, zero, suc, ◌==◌, List, [], ◌∷◌, length, Option, Some, None, is_none, Bool, true, false, ◌&&◌, if◌then◌else◌, slice_get}
use Rattle.std.specs.Option.{unwrap_or}
use Rattle.std.specs.List.{list_any}
use Rattle.run_types.specs.declared.types.NameId.{NameId}
use Rattle.code_semantics.specs.declared.unit.Instr.{Instr}
use Rattle.code_semantics.specs.declared.unit.Instr.TheVariants as I
use Rattle.code_semantics.specs.declared.unit.ClassCode.{ClassCode}
use Rattle.code_semantics.specs.declared.unit.Unit.{Unit as Code}
use Rattle.run_types.specs.declared.frames.Frame.{Frame}
use Rattle.run_types.specs.declared.frames.CodeObject.{CodeObject}
use Rattle.code_semantics.specs.Frames.{code_of}
use Rattle.run_types.specs.Operands.{taken}
use Rattle.code_semantics.specs.Kinds as C
use Rattle.code_semantics.specs.Kinds.{Kind, Offered, offers}
use Rattle.code_semantics.specs.Step.{class_from}
pub use Rattle.code_semantics.specs.StepInstructions.{IsAsking, IsChoosing, IsGoingOn}
use Rattle.object_interp.specs.declared.types.Need.{Need}
use Rattle.object_interp.specs.declared.types.Need.TheVariants as N
use Rattle.object_interp.specs.declared.types.Hand.{Hand}
use Rattle.object_interp.specs.declared.types.Hand.TheVariants as H

-- the alternatives of the current instruction; an answer is one open alternative
abbrev pub instr_offers : Frame → Option Instr → List Offered
instr_offers f (Some (I.Answer names)) = record { is_open = true; answer = Some names } ∷ []
instr_offers f (Some (I.Select alts)) = offers alts (taken (length alts) f.operands [])
instr_offers f _ = []

abbrev pub frames_offers : Option ClassCode → List Frame → List Offered
frames_offers k [] = []
frames_offers k (f ∷ fs) = instr_offers f (slice_get (code_of k f.method) f.at)

abbrev pub offers_at : Code → CodeObject → List Offered
offers_at u x = frames_offers (slice_get u.classes x.class) x.frames

-- the alternative of this number, counted from 1
abbrev pub offer_at : List Offered → ℕ → Option Offered
offer_at os zero = None
offer_at os (suc i) = slice_get os i

-- the methods that an open alternative answers
abbrev pub open_names : Option Offered → Option (List NameId)
open_names None = None
open_names (Some a) = if a.is_open then a.answer else None

-- whether an alternative is open and plain
abbrev pub is_open_plain : Option Offered → Bool
is_open_plain None = false
is_open_plain (Some a) = a.is_open && is_none a.answer

-- the name is one of the names
abbrev pub is_one_of : List NameId → NameId → Bool
is_one_of names name = list_any (λ (n : NameId). n.0 == name.0) names

-- whether the alternative is open and answers the method
abbrev pub answers_to : Option (List NameId) → NameId → Bool
answers_to None m = false
answers_to (Some names) m = is_one_of names m

-- the request of an object of this kind; a class is given by its index
abbrev pub need_of : Code → Kind → Need
need_of u C.Finished = N.Halted
need_of u C.Local = N.Halted
need_of u (C.Fault e) = N.Fault e
need_of u (C.New c) = N.New (unwrap_or (class_from 0 u.classes c) 0)
need_of u (C.Send b m args) = N.Send b m args
need_of u (C.Async b m args) = N.Async b m args
need_of u (C.Write item) = N.Write item
need_of u (C.Answer names) = N.Answer
need_of u (C.Select alts) = N.Select
need_of u (C.Return k n v) = N.Return k n v

abbrev pub hand_of : Code → Kind → Hand
hand_of u C.Local = H.Local
hand_of u k = H.At (need_of u k)

-- whether the object makes a step without a message and without a choice
abbrev pub steps_alone : Kind → Bool
steps_alone C.Finished = false
steps_alone (C.Answer names) = false
steps_alone (C.Select alts) = false
steps_alone _ = true

-- the object is at a select
abbrev pub IsSelecting : Kind → Type 0
IsSelecting (C.Select alts) = Unit {0}
IsSelecting _ = ⊥
