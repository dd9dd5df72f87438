-- Erasing the numbers of requests commutes with each step.
use Rattle.std.proofs.Common.{◌≡◌, refl, sym, ap, ◌∙◌, subst, ℕ, zero, suc, List, [], ◌∷◌, length, Option, Some, None, Bool, true, false, arith}
use Rattle.std.specs.Prelude.{slice_get, slice_set, map, option_map, if◌then◌else◌, IsTrue, ◌↔◌}
use Rattle.std.specs.List.{list_any}
use Rattle.run_types.specs.declared.types.NameId.{NameId}
use Rattle.run_types.specs.declared.types.Value.{Value}
use Rattle.run_types.specs.declared.types.Value.TheVariants as V
use Rattle.run_types.specs.declared.types.Serves.{Serves}
use Rattle.run_types.specs.declared.types.Serves.TheVariants as S
use Rattle.run_types.specs.declared.types.Error.TheVariants.{NilOperand, NoOpenGuard}
use Rattle.run_types.specs.Values.{Outcome, Gives, Fails, WrongSort, is_bool, is_true, not_bool}
use Rattle.code_semantics.specs.declared.unit.Instr.{Instr}
use Rattle.code_semantics.specs.declared.unit.Instr.TheVariants as I
use Rattle.code_semantics.specs.declared.unit.AltCode.{AltCode}
use Rattle.code_semantics.specs.declared.unit.ClassCode.{ClassCode}
use Rattle.code_semantics.specs.declared.unit.Unit.{Unit as Code}
use Rattle.run_types.specs.declared.frames.Frame.{Frame}
use Rattle.run_types.specs.declared.frames.CodeObject.{CodeObject}
use Rattle.code_semantics.specs.Frames.{code_of, post_passed, silent, go_on_with, settled_within, settled, next}
use Rattle.run_types.specs.Operands.{top, taken, dropped, padded}
use Rattle.code_semantics.specs.Kinds as K
use Rattle.code_semantics.specs.Kinds.{Kind, Offered, operated, arity, instr_kind, frames_kind, code_kind, outcome_kind, sent_kind, select_kind, return_kind, offers}
use Rattle.code_semantics.specs.Step.{Numbered, at_rest, method_named, begun, called, handed, left, is_own, instr_stepped, frames_stepped, code_stepped, frames_given, code_given, instr_gone_on, frames_gone_on, code_gone_on, at_alternative, after_choice, frames_picked, code_picked, frames_serving, method_serving, code_serving, placed_of, code_placed}
use Rattle.code_semantics.specs.OfUnit.{IsFrameOf, StandsAfterCall, missing_under, serves_of, StandsUnder, AreFramesOf, IsObjectOf}
use Rattle.code_semantics.specs.Forget.{forget_serves, forget_frame, forget, forget_kind}
use Rattle.code_semantics.specs.StepInstructions.{IsAtStepOf, IsAtStep}

passed_forgets : (f : Frame) (s : Serves) → post_passed (forget_frame f) (forget_serves s) ≡ option_map forget_frame (post_passed f s)
passed_forgets f S.Own = refl
passed_forgets f S.Sender = refl
passed_forgets f (S.Caller k n) = refl

-- one silent instruction
forget_silent : (f : Frame) (i : Option Instr) → silent (forget_frame f) i ≡ option_map forget_frame (silent f i)
forget_silent f (Some (I.PushInt z)) = refl
forget_silent f (Some (I.PushBool b)) = refl
forget_silent f (Some I.PushNil) = refl
forget_silent f (Some (I.Jump a)) = refl
forget_silent f (Some I.Post) = passed_forgets f f.serves
forget_silent f _ = refl

forget_go : (f : Frame) (go : Frame → Frame) (s : Option Frame) → ((g : Frame) → forget_frame (go g) ≡ go (forget_frame g))
    → forget_frame (go_on_with f go s) ≡ go_on_with (forget_frame f) go (option_map forget_frame s)
forget_go f go None same = refl
forget_go f go (Some g) same = same g

forget_within : (code : List Instr) (n : ℕ) (f : Frame) → forget_frame (settled_within code n f) ≡ settled_within code n (forget_frame f)
forget_within code zero f = refl
forget_within code (suc n) f =
    forget_go f (settled_within code n) (silent f (slice_get code f.at)) (forget_within code n)
    ∙ ap (go_on_with (forget_frame f) (settled_within code n)) (sym (forget_silent f (slice_get code f.at)))

pub forget_settled : (code : List Instr) (f : Frame) → forget_frame (settled code f) ≡ settled code (forget_frame f)
forget_settled code f = forget_within code (length code) f

pub forget_rest : (k : Option ClassCode) (x : CodeObject) (f : Frame) (fs : List Frame)
    → forget (at_rest k x f fs) ≡ at_rest k (forget x) (forget_frame f) (map forget_frame fs)
forget_rest k x f fs = ap (λ g. record x { frames = g ∷ map forget_frame fs }) (forget_settled (code_of k f.method) f)

forget_own : (s : Serves) → is_own (forget_serves s) ≡ is_own s
forget_own S.Own = refl
forget_own (S.Caller k n) = refl
forget_own S.Sender = refl

forget_called : (k : Option ClassCode) (x : CodeObject) (f : Frame) (fs : List Frame) (m : Option Numbered)
    → forget (called k x f fs m) ≡ called k (forget x) (forget_frame f) (map forget_frame fs) m
forget_called k x f fs None = refl
forget_called k x f fs (Some m) = forget_rest k x (begun m (taken m.code.params f.operands []) S.Own) (next f (dropped m.code.params f.operands) ∷ fs)

forget_handed : (k : Option ClassCode) (x : CodeObject) (v : Value) (fs : List Frame)
    → forget (handed k x v fs) ≡ handed k (forget x) v (map forget_frame fs)
forget_handed k x v [] = refl
forget_handed k x v (f ∷ fs) = forget_rest k x _ _

forget_left : (k : Option ClassCode) (x : CodeObject) (fs : List Frame) → forget (left k x fs) ≡ left k (forget x) (map forget_frame fs)
forget_left k x [] = refl
forget_left k x (f ∷ fs) = forget_rest k x _ _

forget_if : (b : Bool) (x y v w : CodeObject) → forget x ≡ v → forget y ≡ w → forget (if b then x else y) ≡ (if b then v else w)
forget_if true x y v w p q = p
forget_if false x y v w p q = q

forget_instr : (k : Option ClassCode) (o : ℕ) (x : CodeObject) (f : Frame) (fs : List Frame) (i : Option Instr)
    → forget (instr_stepped k o x f fs i) ≡ instr_stepped k o (forget x) (forget_frame f) (map forget_frame fs) i
forget_instr k o x f fs (Some (I.LoadI n)) = forget_rest k x _ _
forget_instr k o x f fs (Some (I.LoadT n)) = forget_rest k x _ _
forget_instr k o x f fs (Some I.SelfRef) = forget_rest k x _ _
forget_instr k o x f fs (Some (I.StoreI n)) = forget_rest k (record x { vars = slice_set x.vars n (top f.operands) }) _ _
forget_instr k o x f fs (Some (I.StoreT n)) = forget_rest k x _ _
forget_instr k o x f fs (Some (I.Oper op)) = forget_rest k x _ _
forget_instr k o x f fs (Some I.Pop) = forget_rest k x _ _
forget_instr k o x f fs (Some (I.Branch a)) = forget_rest k x _ _
forget_instr k o x f fs (Some I.Loop) = forget_rest k x _ _
forget_instr k o x f fs (Some (I.Call m)) = forget_called k x f fs (method_named k m)
forget_instr k o x f fs (Some I.Ret) =
    forget_if (is_own f.serves) _ _ _ _ (forget_handed k x (top f.operands) fs) (forget_left k x fs)
    ∙ ap (λ b. if b then handed k (forget x) (top f.operands) (map forget_frame fs) else left k (forget x) (map forget_frame fs)) (sym (forget_own f.serves))
forget_instr k o x f fs _ = refl

forget_frames : (k : Option ClassCode) (o : ℕ) (x : CodeObject) (fs : List Frame)
    → forget (frames_stepped k o x fs) ≡ frames_stepped k o (forget x) (map forget_frame fs)
forget_frames k o x [] = refl
forget_frames k o x (f ∷ fs) = forget_instr k o x f fs (slice_get (code_of k f.method) f.at)

-- the local step
pub forget_stepped : (u : Code) (o : ℕ) (x : CodeObject) → forget (code_stepped u o x) ≡ code_stepped u o (forget x)
forget_stepped u o x = forget_frames (slice_get u.classes x.class) o x x.frames

given_frames : (k : Option ClassCode) (x : CodeObject) (v : Value) (fs : List Frame)
    → forget (frames_given k x v fs) ≡ frames_given k (forget x) v (map forget_frame fs)
given_frames k x v [] = refl
given_frames k x v (f ∷ fs) = forget_rest k x _ _

-- after a New or a Send
pub forget_given : (u : Code) (x : CodeObject) (v : Value) → forget (code_given u x v) ≡ code_given u (forget x) v
forget_given u x v = given_frames (slice_get u.classes x.class) x v x.frames

gone_instr : (k : Option ClassCode) (x : CodeObject) (f : Frame) (fs : List Frame) (i : Option Instr)
    → forget (instr_gone_on k x f fs i) ≡ instr_gone_on k (forget x) (forget_frame f) (map forget_frame fs) i
gone_instr k x f fs (Some I.Write) = forget_rest k x _ _
gone_instr k x f fs (Some (I.WriteText s)) = forget_rest k x _ _
gone_instr k x f fs (Some (I.Async m n)) = forget_rest k x _ _
gone_instr k x f fs (Some I.Ret) = forget_left k x fs
gone_instr k x f fs (Some I.Post) = forget_rest k x (next (record f { serves = S.Sender }) f.operands) fs
gone_instr k x f fs _ = refl

gone_frames : (k : Option ClassCode) (x : CodeObject) (fs : List Frame) → forget (frames_gone_on k x fs) ≡ frames_gone_on k (forget x) (map forget_frame fs)
gone_frames k x [] = refl
gone_frames k x (f ∷ fs) = gone_instr k x f fs (slice_get (code_of k f.method) f.at)

-- after an Async, a Write or a Return
pub forget_gone_on : (u : Code) (x : CodeObject) → forget (code_gone_on u x) ≡ code_gone_on u (forget x)
forget_gone_on u x = gone_frames (slice_get u.classes x.class) x x.frames

forget_alternative : (f : Frame) (n : ℕ) (a : Option AltCode) → forget_frame (at_alternative f n a) ≡ at_alternative (forget_frame f) n a
forget_alternative f n None = refl
forget_alternative f n (Some a) = refl

forget_choice : (f : Frame) (i : ℕ) (s : Option Instr) → forget_frame (after_choice f i s) ≡ after_choice (forget_frame f) i s
forget_choice f i (Some (I.Select alts)) = forget_alternative f (length alts) _
forget_choice f i _ = refl

-- an object at rest at the choice
rest_choice : (k : Option ClassCode) (x : CodeObject) (f : Frame) (i : ℕ) (fs : List Frame) (s : Option Instr)
    → forget (at_rest k x (after_choice f i s) fs) ≡ at_rest k (forget x) (after_choice (forget_frame f) i s) (map forget_frame fs)
rest_choice k x f i fs s =
    forget_rest k x (after_choice f i s) fs ∙ ap (λ g. at_rest k (forget x) g (map forget_frame fs)) (forget_choice f i s)

picked_frames : (k : Option ClassCode) (x : CodeObject) (i : ℕ) (fs : List Frame)
    → forget (frames_picked k x i fs) ≡ frames_picked k (forget x) i (map forget_frame fs)
picked_frames k x i [] = refl
picked_frames k x i (f ∷ fs) = rest_choice k x f i fs (slice_get (code_of k f.method) f.at)

-- in plain alternative i
pub forget_picked : (u : Code) (x : CodeObject) (i : ℕ) → forget (code_picked u x i) ≡ code_picked u (forget x) i
forget_picked u x i = picked_frames (slice_get u.classes x.class) x i x.frames

serving_frames : (k : Option ClassCode) (x : CodeObject) (i : ℕ) (m : Numbered) (args : List Value) (s : Serves) (fs : List Frame)
    → forget (frames_serving k x i m args s fs) ≡ frames_serving k (forget x) i m args (forget_serves s) (map forget_frame fs)
serving_frames k x i m args s [] = refl
serving_frames k x i m args s (f ∷ fs) =
    let e : Option Instr = slice_get (code_of k f.method) f.at in
    forget_rest k x (begun m args s) (after_choice f i e ∷ fs)
    ∙ ap (λ g. at_rest k (forget x) (begun m args (forget_serves s)) (g ∷ map forget_frame fs)) (forget_choice f i e)

method_forgets : (k : Option ClassCode) (x : CodeObject) (i : ℕ) (m : Option Numbered) (args : List Value) (s : Serves)
    → option_map forget (method_serving k x i m args s) ≡ method_serving k (forget x) i m args (forget_serves s)
method_forgets k x i None args s = refl
method_forgets k x i (Some m) args s = ap Some (serving_frames k x i m args s x.frames)

-- begins to serve a method
pub forget_serving : (u : Code) (x : CodeObject) (i : ℕ) (m : NameId) (args : List Value) (s : Serves)
    → option_map forget (code_serving u x i m args s) ≡ code_serving u (forget x) i m args (forget_serves s)
forget_serving u x i m args s =
    let k = slice_get u.classes x.class in method_forgets k x i (method_named k m) args s

placed_forgets : (c : ℕ) (k : Option ClassCode) → option_map forget (placed_of c k) ≡ placed_of c k
placed_forgets c None = refl
placed_forgets c (Some k) =
    ap Some (forget_rest (Some k) (record { class = c; vars = padded k.vars []; frames = [] })
    (record { method = None; at = 0; temps = []; operands = []; serves = S.Sender }) [])

-- a new object serves nobody
pub forget_placed : (u : Code) (c : ℕ) → option_map forget (code_placed u c) ≡ code_placed u c
forget_placed u c = placed_forgets c (slice_get u.classes c)

outcome_forgets : (o : Outcome) → outcome_kind o ≡ forget_kind (outcome_kind o)
outcome_forgets (Gives v) = refl
outcome_forgets (Fails e) = refl
outcome_forgets WrongSort = refl

if_forgets : (b : Bool) (x y : Kind) → x ≡ forget_kind x → y ≡ forget_kind y → (if b then x else y) ≡ forget_kind (if b then x else y)
if_forgets true x y p q = p
if_forgets false x y p q = q

return_forgets : (s : Serves) (v : Value) → return_kind (forget_serves s) v ≡ forget_kind (return_kind s v)
return_forgets (S.Caller k n) v = refl
return_forgets S.Own v = refl
return_forgets S.Sender v = refl

sent_forgets : (v : Value) (go : ℕ → Kind) → ((b : ℕ) → go b ≡ forget_kind (go b)) → sent_kind v go ≡ forget_kind (sent_kind v go)
sent_forgets (V.Ref b) go same = same b
sent_forgets (V.Int z) go same = refl
sent_forgets (V.Bool b) go same = refl
sent_forgets V.Nil go same = refl

select_forgets : (alts : List AltCode) (guards : List Value) → select_kind alts guards ≡ forget_kind (select_kind alts guards)
select_forgets alts guards =
    if_forgets (list_any not_bool guards) _ _ refl (if_forgets (list_any is_true guards) (K.Select (offers alts guards)) (K.Fault NoOpenGuard) refl refl)

instr_forgets : (f : Frame) (i : Option Instr) → instr_kind (forget_frame f) i ≡ forget_kind (instr_kind f i)
instr_forgets f (Some (I.Oper op)) = outcome_forgets (operated op f.operands)
instr_forgets f (Some (I.Branch a)) = if_forgets (is_bool (top f.operands)) K.Local (K.Fault NilOperand) refl refl
instr_forgets f (Some I.Ret) = return_forgets f.serves (top f.operands)
instr_forgets f (Some I.Post) = return_forgets f.serves (top f.operands)
instr_forgets f (Some (I.New c)) = refl
instr_forgets f (Some (I.Send m n)) = sent_forgets (top (dropped n f.operands)) _ (λ b. refl)
instr_forgets f (Some (I.Async m n)) = sent_forgets (top (dropped n f.operands)) _ (λ b. refl)
instr_forgets f (Some I.Write) = refl
instr_forgets f (Some (I.WriteText s)) = refl
instr_forgets f (Some (I.Answer names)) = refl
instr_forgets f (Some (I.Select alts)) = select_forgets alts (taken (length alts) f.operands [])
instr_forgets f (Some I.Halt) = refl
instr_forgets f None = refl
instr_forgets f _ = refl

frames_forget : (k : Option ClassCode) (fs : List Frame) → frames_kind k (map forget_frame fs) ≡ forget_kind (frames_kind k fs)
frames_forget k [] = refl
frames_forget k (f ∷ fs) = instr_forgets f (slice_get (code_of k f.method) f.at)

-- what is done is the same but for the number of a request
pub forget_code_kind : (u : Code) (x : CodeObject) → code_kind u (forget x) ≡ forget_kind (code_kind u x)
forget_code_kind u x = frames_forget (slice_get u.classes x.class) x.frames

frames_length : (fs : List Frame) → length (map forget_frame fs) ≡ length fs
frames_length [] = refl
frames_length (f ∷ fs) = ap suc (frames_length fs)

-- as many frames
pub forget_length : (x : CodeObject) → length (forget x).frames ≡ length x.frames
forget_length x = frames_length x.frames

none_mapped : (s : Option Frame) → (option_map forget_frame s ≡ None) ↔ (s ≡ None)
none_mapped None = (λ e. e, λ e. e)
none_mapped (Some f) = (λ e. absurd (grind (arith, e)), λ e. absurd (grind (arith, e)))

step_forgets : (k : Option ClassCode) (fs : List Frame) → IsAtStepOf k (map forget_frame fs) ↔ IsAtStepOf k fs
step_forgets k [] = (λ e. e, λ e. e)
step_forgets k (f ∷ fs) =
    let i = slice_get (code_of k f.method) f.at in
    let both = none_mapped (silent f i) in
    (λ e. both.0 (sym (forget_silent f i) ∙ e), λ e. forget_silent f i ∙ both.1 e)

-- at a step instruction alike
pub forget_at_step : (u : Code) (x : CodeObject) → IsAtStep u (forget x) ↔ IsAtStep u x
forget_at_step u x = step_forgets (slice_get u.classes x.class) x.frames

module _ (k : ClassCode) (P : Value → Type 0) where
  frame_forgets : (n : ℕ) (f : Frame) → IsFrameOf k P n (forget_frame f) ↔ IsFrameOf k P n f
  frame_forgets n f = (
    λ a. record { reached = a.reached; has_temps = a.has_temps; temps = a.temps; operands = a.operands },
    λ a. record { reached = a.reached; has_temps = a.has_temps; temps = a.temps; operands = a.operands },
  )

  call_forgets : (a f : Frame) → StandsAfterCall k (forget_frame a) (forget_frame f) ↔ StandsAfterCall k a f
  call_forgets a f = (
    λ h. record { at = h.at; is_next = h.is_next; name = h.name; call = h.call; method = h.method; named = h.named; is_method = h.is_method },
    λ h. record { at = h.at; is_next = h.is_next; name = h.name; call = h.call; method = h.method; named = h.named; is_method = h.is_method },
  )

  missing_forgets : (s : Serves) → missing_under (Some (forget_serves s)) ≡ missing_under (Some s)
  missing_forgets S.Own = refl
  missing_forgets (S.Caller c n) = refl
  missing_forgets S.Sender = refl

  all_missing : (a : Option Frame) → missing_under (serves_of (option_map forget_frame a)) ≡ missing_under (serves_of a)
  all_missing None = refl
  all_missing (Some a) = missing_forgets a.serves

  under_forgets : (a : Option Frame) (f : Frame) → StandsUnder k (option_map forget_frame a) (forget_frame f) ↔ StandsUnder k a f
  under_forgets None f = (λ h. h, λ h. h)
  under_forgets (Some a) f = (
    λ h o. (call_forgets a f).0 (h (subst IsTrue (sym (forget_own a.serves)) o)),
    λ h o. (call_forgets a f).1 (h (subst IsTrue (forget_own a.serves) o)),
  )

  sender_forgets : (s : Serves) → (forget_serves s ≡ S.Sender) ↔ (s ≡ S.Sender)
  sender_forgets S.Own = (λ e. e, λ e. e)
  sender_forgets (S.Caller c n) = (λ e. absurd (grind (arith, e)), λ e. absurd (grind (arith, e)))
  sender_forgets S.Sender = (λ e. e, λ e. e)

  of_forgotten : (a : Option Frame) (fs : List Frame) → AreFramesOf k P (option_map forget_frame a) (map forget_frame fs) → AreFramesOf k P a fs
  of_forgotten a [] h = h
  of_forgotten a (f ∷ []) h = (
    (frame_forgets (missing_under (serves_of a)) f).0 (subst (λ n. IsFrameOf k P n (forget_frame f)) (all_missing a) h.0),
    (under_forgets a f).0 h.1,
    h.2,
    (sender_forgets f.serves).0 h.3,
  )
  of_forgotten a (f ∷ g ∷ fs) h = (
    (frame_forgets (missing_under (serves_of a)) f).0 (subst (λ n. IsFrameOf k P n (forget_frame f)) (all_missing a) h.0),
    (under_forgets a f).0 h.1,
    h.2,
    of_forgotten (Some f) (g ∷ fs) h.3,
  )

  to_forgotten : (a : Option Frame) (fs : List Frame) → AreFramesOf k P a fs → AreFramesOf k P (option_map forget_frame a) (map forget_frame fs)
  to_forgotten a [] h = h
  to_forgotten a (f ∷ []) h = (
    subst (λ n. IsFrameOf k P n (forget_frame f)) (sym (all_missing a)) ((frame_forgets (missing_under (serves_of a)) f).1 h.0),
    (under_forgets a f).1 h.1,
    h.2,
    (sender_forgets f.serves).1 h.3,
  )
  to_forgotten a (f ∷ g ∷ fs) h = (
    subst (λ n. IsFrameOf k P n (forget_frame f)) (sym (all_missing a)) ((frame_forgets (missing_under (serves_of a)) f).1 h.0),
    (under_forgets a f).1 h.1,
    h.2,
    to_forgotten (Some f) (g ∷ fs) h.3,
  )

-- of the unit alike
pub forget_of : (u : Code) (P : Value → Type 0) (x : CodeObject) → IsObjectOf u P (forget x) ↔ IsObjectOf u P x
forget_of u P x = (
  λ h. record { class = h.class; is_class = h.is_class; count = h.count; vars = h.vars; frames = of_forgotten h.class P None x.frames h.frames },
  λ h. record { class = h.class; is_class = h.is_class; count = h.count; vars = h.vars; frames = to_forgotten h.class P None x.frames h.frames },
)
