-- The invariant that each step of an object of a proper unit keeps: it is of the unit, and at a step instruction.
use Rattle.std.proofs.Common.{◌≡◌, refl, sym, subst, ℕ, ◌+◌, List, [], ◌∷◌, Option, Some, None, false, arith}
use Rattle.std.specs.Prelude.{slice_get}
use Rattle.run_types.specs.declared.types.NameId.{NameId}
use Rattle.run_types.specs.declared.types.Value.{Value}
use Rattle.run_types.specs.declared.types.Value.TheVariants as V
use Rattle.run_types.specs.declared.types.Serves.{Serves}
use Rattle.run_types.specs.declared.types.Serves.TheVariants as S
use Rattle.code_semantics.specs.declared.unit.ClassCode.{ClassCode}
use Rattle.code_semantics.specs.declared.unit.Unit.{Unit as Code}
use Rattle.run_types.specs.declared.frames.Frame.{Frame}
use Rattle.run_types.specs.declared.frames.CodeObject.{CodeObject}
use Rattle.code_semantics.specs.Kinds.{frames_kind, code_kind}
use Rattle.code_semantics.specs.Proper.{IsProper}
use Rattle.code_semantics.specs.Step.{at_rest, method_named, is_own, frames_stepped, code_stepped, frames_given, code_given, frames_gone_on, code_gone_on, frames_picked, code_picked, method_serving, code_serving, placed_of, code_placed, placed_at, class_from, code_made}
use Rattle.run_types.specs.Operands.{padded}
use Rattle.run_types.specs.Tables.{Each}
use Rattle.code_semantics.specs.OfUnit.{IsObjectOf}
use Rattle.code_semantics.specs.MadeNumbers.{HoldsOfPlain, IsMadeIn}
use Rattle.code_semantics.specs.StepInstructions.{IsAtStep, IsAsking, IsChoosing, IsGoingOn}
use Rattle.code_semantics.proofs.Elements.{length_padded, each_padded}
use Rattle.code_semantics.proofs.SilentTermination.{same_some}
use Rattle.code_semantics.proofs.FrameSuccessors.{plain_range, IsReady, ready_of, ready_rests}
use Rattle.code_semantics.proofs.StepPreservation.{stepped_by, given_by, gone_by, picked_by, serving_by}

module _ (u : Code) (proper : IsProper u) (P : Value → Type 0) (plain : HoldsOfPlain (IsMadeIn u) P) where
  module _ (x : CodeObject) (h : IsObjectOf u P x) where
    pub stepped_of : (o : ℕ) → P (V.Ref o) → IsObjectOf u P (code_stepped u o x)
    stepped_of o p =
        subst (λ k. IsObjectOf u P (frames_stepped k o x x.frames)) (sym h.is_class)
        (stepped_by u proper P plain x (IsObjectOf u P) h.class h.is_class h.count h.vars (ready_of u P plain h.class) o p h x.frames h.frames)

    pub stepped_rests : (o : ℕ) → P (V.Ref o) → IsAtStep u x → IsAtStep u (code_stepped u o x)
    stepped_rests o p r =
        subst (λ k. IsAtStep u (frames_stepped k o x x.frames)) (sym h.is_class)
        (stepped_by u proper P plain x (IsAtStep u) h.class h.is_class h.count h.vars (ready_rests u P plain h.class proper) o p r x.frames h.frames)

    pub given_of : (v : Value) → P v → IsAsking (code_kind u x) → IsObjectOf u P (code_given u x v)
    given_of v p a =
        subst (λ k. IsObjectOf u P (frames_given k x v x.frames)) (sym h.is_class)
        (given_by u proper P plain x (IsObjectOf u P) h.class h.is_class h.count h.vars (ready_of u P plain h.class) v p x.frames h.frames
        (subst (λ k. IsAsking (frames_kind k x.frames)) h.is_class a))

    pub given_rests : (v : Value) → P v → IsAsking (code_kind u x) → IsAtStep u x → IsAtStep u (code_given u x v)
    given_rests v p a r =
        subst (λ k. IsAtStep u (frames_given k x v x.frames)) (sym h.is_class)
        (given_by u proper P plain x (IsAtStep u) h.class h.is_class h.count h.vars (ready_rests u P plain h.class proper) v p x.frames h.frames
        (subst (λ k. IsAsking (frames_kind k x.frames)) h.is_class a))

    pub gone_on_of : IsGoingOn (code_kind u x) → IsObjectOf u P (code_gone_on u x)
    gone_on_of a =
        subst (λ k. IsObjectOf u P (frames_gone_on k x x.frames)) (sym h.is_class)
        (gone_by u proper P plain x (IsObjectOf u P) h.class h.is_class h.count h.vars (ready_of u P plain h.class) h x.frames h.frames
        (subst (λ k. IsGoingOn (frames_kind k x.frames)) h.is_class a))

    pub gone_on_rests : IsGoingOn (code_kind u x) → IsAtStep u x → IsAtStep u (code_gone_on u x)
    gone_on_rests a r =
        subst (λ k. IsAtStep u (frames_gone_on k x x.frames)) (sym h.is_class)
        (gone_by u proper P plain x (IsAtStep u) h.class h.is_class h.count h.vars (ready_rests u P plain h.class proper) r x.frames h.frames
        (subst (λ k. IsGoingOn (frames_kind k x.frames)) h.is_class a))

    pub picked_of : (i : ℕ) → IsChoosing (code_kind u x) → IsObjectOf u P (code_picked u x i)
    picked_of i a =
        subst (λ k. IsObjectOf u P (frames_picked k x i x.frames)) (sym h.is_class)
        (picked_by u proper P plain x (IsObjectOf u P) h.class h.is_class h.count h.vars (ready_of u P plain h.class) i x.frames h.frames
        (subst (λ k. IsChoosing (frames_kind k x.frames)) h.is_class a))

    pub picked_rests : (i : ℕ) → IsChoosing (code_kind u x) → IsAtStep u x → IsAtStep u (code_picked u x i)
    picked_rests i a r =
        subst (λ k. IsAtStep u (frames_picked k x i x.frames)) (sym h.is_class)
        (picked_by u proper P plain x (IsAtStep u) h.class h.is_class h.count h.vars (ready_rests u P plain h.class proper) i x.frames h.frames
        (subst (λ k. IsChoosing (frames_kind k x.frames)) h.is_class a))

    pub serving_of : (i : ℕ) (m : NameId) (args : List Value) (s : Serves) (y : CodeObject) → IsChoosing (code_kind u x) → Each P args → is_own s ≡ false
        → code_serving u x i m args s ≡ Some y → IsObjectOf u P y
    serving_of i m args s y a each own e =
        serving_by u proper P plain x (IsObjectOf u P) h.class h.is_class h.count h.vars (ready_of u P plain h.class) i m args s y h.frames
        (subst (λ k. IsChoosing (frames_kind k x.frames)) h.is_class a) each own (method_named (Some h.class) m) refl
        (subst (λ k. method_serving k x i (method_named k m) args s ≡ Some y) h.is_class e)

    pub serving_rests : (i : ℕ) (m : NameId) (args : List Value) (s : Serves) (y : CodeObject) → IsChoosing (code_kind u x) → Each P args → is_own s ≡ false
        → code_serving u x i m args s ≡ Some y → IsAtStep u x → IsAtStep u y
    serving_rests i m args s y a each own e r =
        serving_by u proper P plain x (IsAtStep u) h.class h.is_class h.count h.vars (ready_rests u P plain h.class proper) i m args s y h.frames
        (subst (λ k. IsChoosing (frames_kind k x.frames)) h.is_class a) each own (method_named (Some h.class) m) refl
        (subst (λ k. method_serving k x i (method_named k m) args s ≡ Some y) h.is_class e)

  -- a new object
  new_ready : (c : ℕ) (k : ClassCode) → slice_get u.classes c ≡ Some k
      → IsReady u P k (record { class = c; vars = padded k.vars []; frames = [] }) (record { method = None; at = 0; temps = []; operands = []; serves = S.Sender } ∷ [])
  new_ready c k e = record {
    is_class = e;
    count = length_padded k.vars [];
    vars = each_padded P (plain_range u P plain) k.vars [] tt;
    frames = (record { reached = (0, (refl, (let z : 0 + 0 ≡ 0 = omega arith in z))); has_temps = refl; temps = tt; operands = tt }, tt, refl, refl);
  }

  placed_by : (c : ℕ) (y : CodeObject) (k : Option ClassCode) → slice_get u.classes c ≡ k → placed_of c k ≡ Some y → IsObjectOf u P y × IsAtStep u y
  placed_by c y None e h = absurd (grind (arith, h))
  placed_by c y (Some k) e h =
      let x : CodeObject = record { class = c; vars = padded k.vars []; frames = [] } in
      let f : Frame = record { method = None; at = 0; temps = []; operands = []; serves = S.Sender } in
      let r = new_ready c k e in
      let s = same_some (at_rest (Some k) x f []) y h in
      (subst (IsObjectOf u P) s (ready_of u P plain k x f [] r), subst (IsAtStep u) s (ready_rests u P plain k proper x f [] r))

  pub placed_is_of : (c : ℕ) (y : CodeObject) → code_placed u c ≡ Some y → IsObjectOf u P y
  placed_is_of c y h = (placed_by c y (slice_get u.classes c) refl h).0

  pub placed_rests : (c : ℕ) (y : CodeObject) → code_placed u c ≡ Some y → IsAtStep u y
  placed_rests c y h = (placed_by c y (slice_get u.classes c) refl h).1

  made_by : (y : CodeObject) (n : Option ℕ) → placed_at u n ≡ Some y → IsObjectOf u P y × IsAtStep u y
  made_by y None h = absurd (grind (arith, h))
  made_by y (Some n) h = (placed_is_of n y h, placed_rests n y h)

  pub made_is_of : (k : NameId) (y : CodeObject) → code_made u k ≡ Some y → IsObjectOf u P y
  made_is_of k y h = (made_by y (class_from 0 u.classes k) h).0

  pub made_rests : (k : NameId) (y : CodeObject) → code_made u k ≡ Some y → IsAtStep u y
  made_rests k y h = (made_by y (class_from 0 u.classes k) h).1
