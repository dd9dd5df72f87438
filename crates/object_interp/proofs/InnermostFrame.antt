-- The facts of the innermost frame that a proper unit gives.
use Rattle.std.proofs.Common.{◌≡◌, refl, sym, ap, ◌∙◌, ℕ, suc, ◌+◌, ◌<◌, ◌≤◌, ◌^◌, List, [], ◌∷◌, length, Some, None, get_or, drop, arith}
use Rattle.std.specs.Prelude.{slice_get, if◌then◌else◌}
use Rattle.std.proofs.Math.Seq.{drop-cons}
use Rattle.std.proofs.lemmas.Bool.{eq-eqb}
use Rattle.std.proofs.lemmas.Option.{slice_get_within, slice_get_read, get_or_from_slice_get}
use Rattle.run_types.specs.declared.types.Value.{Value}
use Rattle.run_types.specs.declared.types.NameId.{NameId}
use Rattle.run_types.specs.declared.types.Serves.TheVariants as S
use Rattle.code_semantics.specs.declared.unit.Instr.{Instr}
use Rattle.code_semantics.specs.declared.unit.MethodCode.{MethodCode}
use Rattle.code_semantics.specs.declared.unit.ClassCode.{ClassCode}
use Rattle.code_semantics.specs.declared.unit.Unit.{Unit as Code}
use Rattle.run_types.specs.declared.frames.Frame.{Frame}
use Rattle.run_types.specs.declared.frames.CodeObject.{CodeObject}
use Rattle.code_semantics.specs.Frames.{code_of}
use Rattle.run_types.specs.Operands.{top}
use Rattle.code_semantics.specs.Step.{method_from, is_own}
use Rattle.code_semantics.specs.Proper.{IsProperCode, IsProperClass, IsProper}
use Rattle.node_heap.specs.Heaps.{top_in, under_top}
use Rattle.code_semantics.specs.OfUnit.{IsFrameOf, AreFramesOf}
use Rattle.code_semantics.specs.StepInstructions.{FitsUnit, AnyValue}
use Rattle.code_semantics.proofs.Laws.{proper_code, frame_on_top}
use Rattle.object_interp.specs.Moves.{ended}
use Rattle.object_interp.specs.Tops.{HasTop, code_in, instr_in}

pub some_of : (k : ClassCode) (fs : List Frame) → AreFramesOf k AnyValue None fs → fs ≡ top_in fs ∷ under_top fs
some_of k [] t = absurd t
some_of k (f ∷ fs) t = refl

pub frame_of : (k : ClassCode) (fs : List Frame) → AreFramesOf k AnyValue None fs → IsFrameOf k AnyValue 0 (top_in fs)
frame_of k [] t = absurd t
frame_of k (f ∷ fs) t = frame_on_top k AnyValue None f fs t

-- an object of the unit has an innermost frame
abbrev pub has_top : (u : Code) (x : CodeObject) → FitsUnit u x → HasTop u x
has_top u x h = record {
  class = h.class;
  is_class = h.is_class;
  some = some_of h.class x.frames h.frames;
  is_frame = frame_of h.class x.frames h.frames;
}

-- what is known of the innermost frame and its code
pub record Known (u : Code) (x : CodeObject) (k : ClassCode) : Type 0 where
  pub proper : IsProperClass u k
  pub code : IsProperCode u (Some k) (length (top_in x.frames).temps) (code_of (Some k) (top_in x.frames).method)
  pub same_code : code_in u x ≡ code_of (Some k) (top_in x.frames).method
  pub few : length (top_in x.frames).operands ≤ 64
  pub place : (top_in x.frames).at < 2 ^ 32

pub known : (u : Code) → IsProper u → (x : CodeObject) (t : HasTop u x) → Known u x t.class
known u proper x t =
    let class = proper.each x.class t.class t.is_class in
    let f = top_in x.frames in
    let code = proper_code u t.class class f.method f.temps t.is_frame.has_temps in
    let enough = code.suffices f.at (0 + length f.operands) t.is_frame.reached in
    record {
      proper = class;
      code = code;
      same_code = ap (λ k. code_of k f.method) t.is_class;
      few = omega (arith, enough.0);
      place = enough.1;
    }

-- there is an instruction at hand
pub at_hand : (u : Code) → IsProper u → (x : CodeObject) → HasTop u x → (i : Instr) × (instr_in u x ≡ Some i)
at_hand u proper x t =
    let k = known u proper x t in
    let f = top_in x.frames in
    let r = k.code.suffices f.at (0 + length f.operands) t.is_frame.reached in
    (r.2.0, ap (λ c. slice_get c f.at) k.same_code ∙ r.2.1)

-- the place at hand is in the code, and the instruction there is the one at hand
pub hand_within : (u : Code) → IsProper u → (x : CodeObject) → HasTop u x → (code : List Instr) (place : ℕ) → code ≡ code_in u x → place ≡ (top_in x.frames).at → place < length code
hand_within u proper x t code place same at =
    let i = at_hand u proper x t in
    let there = slice_get_within (code_in u x) (top_in x.frames).at i.0 i.1 in
    omega (arith, there, ap length same, at)

pub hand_there : (u : Code) (x : CodeObject) (code : List Instr) (place : ℕ) (i : Instr) → code ≡ code_in u x → place ≡ (top_in x.frames).at → place < length code → i ≡ get_or code place i
    → instr_in u x ≡ Some i
hand_there u x code place i same at there e =
    ap (slice_get (code_in u x)) (sym at) ∙ ap (λ c. slice_get c place) (sym same) ∙ slice_get_read code (length code) place i refl there e

-- the method of this place, which has the name, is the first of those from there on
pub method_first : (ms : List MethodCode) (n : ℕ) (k : MethodCode) (m : NameId) → slice_get ms n ≡ Some k → k.name.0 ≡ m.0
    → method_from n (drop n ms) m ≡ Some (record { place = n; code = k })
method_first ms n k m e same =
    ap (λ l. method_from n l m) (drop-cons ms n k (slice_get_within ms n k e) ∙ ap (λ j. j ∷ drop (suc n) ms) (get_or_from_slice_get ms n k k e))
    ∙ ap (λ b. if b then Some (record { place = n; code = k }) else method_from (suc n) (drop (suc n) ms) m) (eq-eqb k.name.0 m.0 same)

pub some_frames : (x : CodeObject) → 0 < length x.frames → x.frames ≡ top_in x.frames ∷ under_top x.frames
some_frames x h = by x.frames h
  where
    by : (fs : List Frame) → 0 < length fs → fs ≡ top_in fs ∷ under_top fs
    by [] h = absurd (omega (arith, h))
    by (f ∷ fs) h = refl

-- a method that the object called itself is done
pub ended_own : (x : CodeObject) (f : Frame) (fs : List Frame) (v : Value) → 1 < length fs → v ≡ top f.operands → f.serves ≡ S.Own
    → record x { frames = record (top_in (under_top fs)) { operands = v ∷ (top_in (under_top fs)).operands } ∷ under_top (under_top fs) } ≡ ended x f (under_top fs)
ended_own x f [] v h e own = absurd (omega (arith, h))
ended_own x f (g ∷ []) v h e own = absurd (omega (arith, h))
ended_own x f (g ∷ d ∷ fs) v h e own =
    ap (λ w. record x { frames = record d { operands = w ∷ d.operands } ∷ fs }) e
    ∙ ap (λ s. record x { frames = (if is_own s then record d { operands = top f.operands ∷ d.operands } else d) ∷ fs }) (sym own)
