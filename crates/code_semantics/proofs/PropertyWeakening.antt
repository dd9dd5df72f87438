-- An object of the unit is one under each weaker property of its values.
use Rattle.std.proofs.Common.{ℕ, ℤ, List, [], ◌∷◌, Option, Some, None}
use Rattle.run_types.specs.declared.types.Value.{Value}
use Rattle.code_semantics.specs.declared.unit.ClassCode.{ClassCode}
use Rattle.code_semantics.specs.declared.unit.Unit.{Unit as Code}
use Rattle.run_types.specs.declared.frames.Frame.{Frame}
use Rattle.run_types.specs.declared.frames.CodeObject.{CodeObject}
use Rattle.run_types.specs.Tables.{Each}
use Rattle.code_semantics.specs.OfUnit.{IsFrameOf, AreFramesOf, IsObjectOf}
use Rattle.code_semantics.specs.MadeNumbers.{HoldsOfPlain}
use Rattle.code_semantics.specs.StepInstructions.{AnyValue, FitsUnit}

pub plain_any : {N : ℤ → Type 0} → HoldsOfPlain N AnyValue
plain_any = (λ z n. tt, λ b. tt, tt)

pub each_any : (vs : List Value) → Each AnyValue vs
each_any [] = tt
each_any (v ∷ vs) = (tt, each_any vs)

module _ (P Q : Value → Type 0) (weaker : (v : Value) → P v → Q v) where
  each_weaker : (vs : List Value) → Each P vs → Each Q vs
  each_weaker [] h = tt
  each_weaker (v ∷ vs) h = (weaker v h.0, each_weaker vs h.1)

  frame_weaker : (k : ClassCode) (n : ℕ) (f : Frame) → IsFrameOf k P n f → IsFrameOf k Q n f
  frame_weaker k n f t = record { reached = t.reached; has_temps = t.has_temps; temps = each_weaker f.temps t.temps; operands = each_weaker f.operands t.operands }

  frames_weaker : (k : ClassCode) (a : Option Frame) (fs : List Frame) → AreFramesOf k P a fs → AreFramesOf k Q a fs
  frames_weaker k a [] h = h
  frames_weaker k a (f ∷ []) h = (frame_weaker k _ f h.0, h.1, h.2, h.3)
  frames_weaker k a (f ∷ g ∷ fs) h = (frame_weaker k _ f h.0, h.1, h.2, frames_weaker k (Some f) (g ∷ fs) h.3)

  pub weaker_of : (u : Code) (x : CodeObject) → IsObjectOf u P x → IsObjectOf u Q x
  weaker_of u x h = record { class = h.class; is_class = h.is_class; count = h.count; vars = each_weaker x.vars h.vars; frames = frames_weaker h.class None x.frames h.frames }

-- whatever is said of its values, it fits the unit
pub fits_of : (u : Code) (P : Value → Type 0) (x : CodeObject) → IsObjectOf u P x → FitsUnit u x
fits_of u P x h = weaker_of P AnyValue (λ v p. tt) u x h
