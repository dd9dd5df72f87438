-- After a local transition the innermost frame is in code of its class, and its silent instructions lead to the object
-- of the definition.
use Rattle.std.proofs.Common.{◌≡◌, inl, inr, refl, sym, ap, ◌∙◌, subst, ℕ, suc, ◌+◌, List, [], ◌∷◌, length, Option, Some, None, Bool, true, false, length-set, arith}
use Rattle.std.specs.Prelude.{slice_get, slice_set, if◌then◌else◌, take}
use Rattle.run_types.specs.declared.types.NameId.{NameId}
use Rattle.run_types.specs.declared.types.Value.{Value}
use Rattle.run_types.specs.declared.types.Value.TheVariants as V
use Rattle.run_types.specs.declared.types.Serves.{Serves}
use Rattle.run_types.specs.declared.types.Serves.TheVariants as S
use Rattle.run_types.specs.Values.{is_true}
use Rattle.code_semantics.specs.declared.unit.Instr.{Instr}
use Rattle.code_semantics.specs.declared.unit.Instr.TheVariants as I
use Rattle.code_semantics.specs.declared.unit.ClassCode.{ClassCode}
use Rattle.code_semantics.specs.declared.unit.Unit.{Unit as Code}
use Rattle.run_types.specs.declared.frames.Frame.{Frame}
use Rattle.run_types.specs.declared.frames.CodeObject.{CodeObject}
use Rattle.code_semantics.specs.Frames.{code_of, next}
use Rattle.run_types.specs.Operands.{top, below, taken, dropped, nth, padded}
use Rattle.code_semantics.specs.Kinds.{operated, arity}
use Rattle.code_semantics.specs.Step.{Numbered, method_named, begun, outcome_value, is_own, called, handed, left, instr_stepped, frames_stepped, code_stepped}
use Rattle.code_semantics.specs.Proper.{IsProper}
use Rattle.code_semantics.specs.ReachedPlaces.{takes, leaves, nexts, IsAmong}
use Rattle.node_heap.specs.Heaps.{top_in, under_top}
use Rattle.code_semantics.specs.OfUnit.{IsFrameOf, AreFramesOf, missing_under}
use Rattle.code_semantics.specs.StepInstructions.{FitsUnit, AnyValue, IsAtStep, IsAtStepOf}
use Rattle.code_semantics.proofs.Laws.{frame_on_top, with_missing, each_any, found_named, length_padded, settled_done}
use Rattle.code_semantics.proofs.Laws as U
use Rattle.object_interp.specs.Moves.{entered, ended, handed_on, moved, stays_in_frame}
use Rattle.object_interp.specs.SettledObject.{settled_at}
use Rattle.object_interp.specs.Tops.{HasTop, class_in, code_in, instr_in, over}
use Rattle.object_interp.proofs.TopFrames.{with_top}
use Rattle.object_interp.proofs.InnermostFrame.{has_top}
use Rattle.object_interp.proofs.InstructionFacts.{instr_known}
use Rattle.object_interp.proofs.Operands.{length_below, length_dropped}
use Rattle.object_interp.proofs.SilentSteps.{settled_top, same_top}

-- an object at a step instruction is brought nowhere
pub settled_same : (u : Code) (x : CodeObject) → HasTop u x → IsAtStep u x → settled_at u x ≡ x
settled_same u x t rests =
    let at_top : IsAtStepOf (class_in u x) (top_in x.frames ∷ under_top x.frames) = subst (IsAtStepOf (class_in u x)) t.some rests in
    settled_top u x t.some ∙ ap (with_top x) (settled_done (code_in u x) (length (code_in u x)) (top_in x.frames) at_top) ∙ same_top x t.some

-- the step by the instruction at hand
pub stepped_top : (u : Code) (o : ℕ) (x : CodeObject) (i : Instr) → HasTop u x → instr_in u x ≡ Some i
    → code_stepped u o x ≡ instr_stepped (class_in u x) o x (top_in x.frames) (under_top x.frames) (Some i)
stepped_top u o x i t at =
    ap (frames_stepped (class_in u x) o x) t.some ∙ ap (instr_stepped (class_in u x) o x (top_in x.frames) (under_top x.frames)) at

module _ (u : Code) (o : ℕ) (x : CodeObject) (rest : settled_at u x ≡ x) (f : Frame) where
  abbrev its : Option ClassCode
  its = class_in u x

  settled_call : (fs : List Frame) (m : Option Numbered) → settled_at u (entered x f fs m) ≡ called its x f fs m
  settled_call fs None = rest
  settled_call fs (Some m) = refl

  settled_ended : (fs : List Frame) (b : Bool) → is_own f.serves ≡ b
      → settled_at u (ended x f fs) ≡ (if b then handed its x (top f.operands) fs else left its x fs)
  settled_ended [] true e = rest
  settled_ended [] false e = rest
  settled_ended (g ∷ gs) true e = ap (λ b. settled_at u (over x (if b then record g { operands = top f.operands ∷ g.operands } else g) gs)) e
  settled_ended (g ∷ gs) false e = ap (λ b. settled_at u (over x (if b then record g { operands = top f.operands ∷ g.operands } else g) gs)) e

  pub settled_moved : (fs : List Frame) (i : Instr) → settled_at u (moved its o x f fs i) ≡ instr_stepped its o x f fs (Some i)
  settled_moved fs (I.LoadI n) = refl
  settled_moved fs (I.LoadT n) = refl
  settled_moved fs I.SelfRef = refl
  settled_moved fs (I.StoreI n) = refl
  settled_moved fs (I.StoreT n) = refl
  settled_moved fs (I.Oper op) = refl
  settled_moved fs I.Pop = refl
  settled_moved fs (I.Branch a) = refl
  settled_moved fs I.Loop = refl
  settled_moved fs (I.Call m) = settled_call fs (method_named its m)
  settled_moved fs I.Ret = settled_ended fs (is_own f.serves) refl
  settled_moved fs _ = rest

-- the code of the innermost frame stays where the frame does
pub code_kept : (u : Code) (o : ℕ) (x : CodeObject) (i : Instr) → stays_in_frame i ≡ true → code_in u (moved (class_in u x) o x (top_in x.frames) (under_top x.frames) i) ≡ code_in u x
code_kept u o x (I.LoadI n) h = refl
code_kept u o x (I.LoadT n) h = refl
code_kept u o x I.SelfRef h = refl
code_kept u o x (I.StoreI n) h = refl
code_kept u o x (I.StoreT n) h = refl
code_kept u o x (I.Oper op) h = refl
code_kept u o x I.Pop h = refl
code_kept u o x (I.Branch a) h = refl
code_kept u o x I.Loop h = refl
code_kept u o x (I.Call m) h = absurd (grind (arith, h))
code_kept u o x I.Ret h = absurd (grind (arith, h))
code_kept u o x _ h = refl

-- a method that begins
pub begun_frame : (k : ClassCode) (m : NameId) (found : Numbered) (args : List Value) (s : Serves) → method_named (Some k) m ≡ Some found
    → IsFrameOf k AnyValue 0 (begun found args s)
begun_frame k m found args s e = record {
  reached = (0, (refl, refl));
  has_temps = (found.code, found_named k m found e, length_padded found.code.temps (take found.code.params args));
  temps = each_any (padded found.code.temps (take found.code.params args));
  operands = tt;
}

-- the frame under a method that is done
pub under_frame : (k : ClassCode) (fs : List Frame) (g : Frame) (gs : List Frame) → AreFramesOf k AnyValue None fs → under_top fs ≡ g ∷ gs
    → IsFrameOf k AnyValue (missing_under (Some (top_in fs).serves)) g
under_frame k [] g gs t e = absurd t
under_frame k (f ∷ []) g gs t e = absurd (grind (arith, e))
under_frame k (f ∷ d ∷ ds) g gs t e =
    subst (IsFrameOf k AnyValue (missing_under (Some f.serves))) (ap top_in e) (frame_on_top k AnyValue (Some f) d ds t.3)

handed_frame : (k : ClassCode) (f g : Frame) (s : Serves) → f.serves ≡ s → IsFrameOf k AnyValue (missing_under (Some s)) g → IsFrameOf k AnyValue 0 (handed_on f g)
handed_frame k f g S.Own e t =
    subst (λ s. IsFrameOf k AnyValue 0 (if is_own s then record g { operands = top f.operands ∷ g.operands } else g)) (sym e)
    (with_missing k AnyValue 1 0 g (top f.operands ∷ g.operands) t (omega arith) (each_any (top f.operands ∷ g.operands)))
handed_frame k f g (S.Caller a b) e t = subst (λ s. IsFrameOf k AnyValue 0 (if is_own s then record g { operands = top f.operands ∷ g.operands } else g)) (sym e) t
handed_frame k f g S.Sender e t = subst (λ s. IsFrameOf k AnyValue 0 (if is_own s then record g { operands = top f.operands ∷ g.operands } else g)) (sym e) t

pub left_frame : (k : ClassCode) (f g : Frame) (s : Serves) → f.serves ≡ s → is_own f.serves ≡ false → IsFrameOf k AnyValue (missing_under (Some s)) g → IsFrameOf k AnyValue 0 g
left_frame k f g S.Own e own t = absurd (grind (arith, e, own))
left_frame k f g (S.Caller a b) e own t = t
left_frame k f g S.Sender e own t = t

module _ (u : Code) (proper : IsProper u) (x : CodeObject) (fits : FitsUnit u x) where
  abbrev class : ClassCode
  class = (has_top u x fits).class

  abbrev frame : Frame
  frame = top_in x.frames

  -- the frame at a next place
  pub frame_at : (i : Instr) → instr_in u x ≡ Some i → (at : ℕ) (temps operands : List Value) → IsAmong at (nexts frame.at i)
      → length operands + takes (Some class) i ≡ length frame.operands + leaves i → length temps ≡ length frame.temps
      → IsFrameOf class AnyValue 0 (record frame { at = at; temps = temps; operands = operands })
  frame_at i e at temps operands among count same =
      let t = has_top u x fits in
      U.moved class AnyValue 0 0 frame i at temps operands t.is_frame (ap (λ k. slice_get (code_of k frame.method) frame.at) (sym t.is_class) ∙ e) among
      (omega (arith, count)) same (each_any temps) (each_any operands)

  -- an object of the same class with such a frame
  pub top_over : (y : CodeObject) (f : Frame) (fs : List Frame) → y.class ≡ x.class → IsFrameOf class AnyValue 0 f → HasTop u (over y f fs)
  top_over y f fs same t = record { class = class; is_class = ap (slice_get u.classes) same ∙ (has_top u x fits).is_class; some = refl; is_frame = t }

  pub entered_top : (m : NameId) (o : Option Numbered) → method_named (class_in u x) m ≡ o → (fs : List Frame) → HasTop u (entered x frame fs o)
  entered_top m None e fs = has_top u x fits
  entered_top m (Some n) e fs =
      top_over x (begun n (taken n.code.params frame.operands []) S.Own) (next frame (dropped n.code.params frame.operands) ∷ fs) refl
      (begun_frame class m n (taken n.code.params frame.operands []) S.Own (ap (λ k. method_named k m) (sym (has_top u x fits).is_class) ∙ e))

  pub ended_top : (fs : List Frame) → under_top x.frames ≡ fs → HasTop u (ended x frame fs)
  ended_top [] e = has_top u x fits
  ended_top (g ∷ gs) e = top_over x (handed_on frame g) gs refl (handed_frame class frame g frame.serves refl (under_frame class x.frames g gs fits.frames e))

  pub moved_top : (o : ℕ) (i : Instr) → instr_in u x ≡ Some i → HasTop u (moved (class_in u x) o x frame (under_top x.frames) i)
  moved_top o (I.LoadI n) e =
      top_over x _ (under_top x.frames) refl (frame_at (I.LoadI n) e (suc frame.at) frame.temps (nth x.vars n ∷ frame.operands) (inl refl) (omega arith) refl)
  moved_top o (I.LoadT n) e =
      top_over x _ (under_top x.frames) refl (frame_at (I.LoadT n) e (suc frame.at) frame.temps (nth frame.temps n ∷ frame.operands) (inl refl) (omega arith) refl)
  moved_top o I.SelfRef e =
      top_over x _ (under_top x.frames) refl (frame_at I.SelfRef e (suc frame.at) frame.temps (V.Ref o ∷ frame.operands) (inl refl) (omega arith) refl)
  moved_top o (I.StoreI n) e =
      let k = instr_known u proper x (has_top u x fits) (I.StoreI n) e in
      top_over (record x { vars = slice_set x.vars n (top frame.operands) }) _ (under_top x.frames) refl
      (frame_at (I.StoreI n) e (suc frame.at) frame.temps (below frame.operands) (inl refl) (omega (arith, k.enough, length_below frame.operands)) refl)
  moved_top o (I.StoreT n) e =
      let k = instr_known u proper x (has_top u x fits) (I.StoreT n) e in
      top_over x _ (under_top x.frames) refl
      (frame_at (I.StoreT n) e (suc frame.at) (slice_set frame.temps n (top frame.operands)) (below frame.operands) (inl refl)
      (omega (arith, k.enough, length_below frame.operands)) (length-set frame.temps n (top frame.operands)))
  moved_top o (I.Oper op) e =
      let k = instr_known u proper x (has_top u x fits) (I.Oper op) e in
      top_over x _ (under_top x.frames) refl
      (frame_at (I.Oper op) e (suc frame.at) frame.temps (outcome_value (operated op frame.operands) ∷ dropped (arity op) frame.operands) (inl refl)
      (omega (arith, k.enough, length_dropped (arity op) frame.operands)) refl)
  moved_top o I.Pop e =
      let k = instr_known u proper x (has_top u x fits) I.Pop e in
      top_over x _ (under_top x.frames) refl (frame_at I.Pop e (suc frame.at) frame.temps (below frame.operands) (inl refl) (omega (arith, k.enough, length_below frame.operands)) refl)
  moved_top o (I.Branch a) e =
      let k = instr_known u proper x (has_top u x fits) (I.Branch a) e in
      top_over x _ (under_top x.frames) refl
      (frame_at (I.Branch a) e (if is_true (top frame.operands) then suc frame.at else a) frame.temps (below frame.operands) (among (is_true (top frame.operands)))
      (omega (arith, k.enough, length_below frame.operands)) refl)
    where
      among : (b : Bool) → IsAmong (if b then suc frame.at else a) (nexts frame.at (I.Branch a))
      among true = inl refl
      among false = inr (inl refl)
  moved_top o I.Loop e = top_over x _ (under_top x.frames) refl (frame_at I.Loop e (suc frame.at) frame.temps frame.operands (inl refl) (omega arith) refl)
  moved_top o (I.Call m) e = entered_top m (method_named (class_in u x) m) refl (under_top x.frames)
  moved_top o I.Ret e = ended_top (under_top x.frames) refl
  moved_top o _ e = has_top u x fits
