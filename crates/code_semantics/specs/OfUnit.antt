-- Objects of a unit: each frame is at a place that its code reaches with the frame's number of operands, and each value has a property P.
-- P is a parameter: so the definition serves objects with any references, and objects that name only existing objects.
use Rattle.std.specs.Prelude.{◌≡◌, ℕ, ◌+◌, suc, List, [], ◌∷◌, length, Option, Some, None, is_some, IsTrue, slice_get}
use Rattle.run_types.specs.Tables.{Each}
use Rattle.run_types.specs.declared.types.NameId.{NameId}
use Rattle.run_types.specs.declared.types.Value.{Value}
use Rattle.run_types.specs.declared.types.Serves.{Serves}
use Rattle.run_types.specs.declared.types.Serves.TheVariants as S
use Rattle.code_semantics.specs.declared.unit.Instr.TheVariants as I
use Rattle.code_semantics.specs.declared.unit.MethodCode.{MethodCode}
use Rattle.code_semantics.specs.declared.unit.ClassCode.{ClassCode}
use Rattle.code_semantics.specs.declared.unit.Unit.{Unit as Code}
use Rattle.run_types.specs.declared.frames.Frame.{Frame}
use Rattle.run_types.specs.declared.frames.CodeObject.{CodeObject}
use Rattle.code_semantics.specs.Frames.{code_of}
use Rattle.code_semantics.specs.Step.{Numbered, method_named, is_own}
use Rattle.code_semantics.specs.ReachedPlaces.{Reached}

-- a body has no temps, and a method of the class has its own number of them
abbrev pub HasTemps : ClassCode → Option ℕ → List Value → Type 0
HasTemps k None temps = length temps ≡ 0
HasTemps k (Some m) temps = (method : MethodCode) × (slice_get k.methods m ≡ Some method) × (length temps ≡ method.temps)

-- a frame of a class that still waits for `missing` operands
pub record IsFrameOf (k : ClassCode) (P : Value → Type 0) (missing : ℕ) (f : Frame) : Type 0 where
  pub reached : Reached (Some k) (code_of (Some k) f.method) f.at (missing + length f.operands)
  pub has_temps : HasTemps k f.method f.temps
  pub temps : Each P f.temps
  pub operands : Each P f.operands

-- the place of the frame f is right after the call of the method of the frame above it
pub record StandsAfterCall (k : ClassCode) (above f : Frame) : Type 0 where
  pub at : ℕ
  pub is_next : f.at ≡ suc at
  pub name : NameId
  pub call : slice_get (code_of (Some k) f.method) at ≡ Some (I.Call name)
  pub method : Numbered
  pub named : method_named (Some k) name ≡ Some method
  pub is_method : above.method ≡ Some method.place

-- the number of operands that a frame waits for: under an own call one, which is the call's value
abbrev pub missing_under : Option Serves → ℕ
missing_under (Some S.Own) = 1
missing_under _ = 0

abbrev pub serves_of : Option Frame → Option Serves
serves_of None = None
serves_of (Some f) = Some f.serves

-- under an own call, a frame is right after that call
abbrev pub StandsUnder : ClassCode → Option Frame → Frame → Type 0
StandsUnder k None f = Unit {0}
StandsUnder k (Some above) f = IsTrue (is_own above.serves) → StandsAfterCall k above f

-- frames, the innermost first, under the frame `above`; the last is the body's and serves no one; each other is of a method
abbrev pub AreFramesOf : ClassCode → (Value → Type 0) → Option Frame → List Frame → Type 0
AreFramesOf k P above [] = ⊥
AreFramesOf k P above (f ∷ []) =
    IsFrameOf k P (missing_under (serves_of above)) f × StandsUnder k above f × (f.method ≡ None) × (f.serves ≡ S.Sender)
AreFramesOf k P above (f ∷ g ∷ fs) =
    IsFrameOf k P (missing_under (serves_of above)) f × StandsUnder k above f × IsTrue (is_some f.method) × AreFramesOf k P (Some f) (g ∷ fs)

-- the object is of a class of the unit, has as many variables as its class, and frames of the class
pub record IsObjectOf (u : Code) (P : Value → Type 0) (x : CodeObject) : Type 0 where
  pub class : ClassCode
  pub is_class : slice_get u.classes x.class ≡ Some class
  pub count : length x.vars ≡ class.vars
  pub vars : Each P x.vars
  pub frames : AreFramesOf class P None x.frames
