-- The callers that frames serve, through the steps of an object, by any function of callers that ignores own calls and senders.
use Rattle.std.proofs.Common.{◌≡◌, refl, ℕ, zero, suc, List, ◌∷◌, length, Option, Some, None, true, sym, ap, ◌∙◌, [], if◌then◌else◌}
use Rattle.std.specs.Prelude.{slice_get, slice_set}
use Rattle.run_types.specs.declared.types.Value.{Value}
use Rattle.run_types.specs.declared.types.Value.TheVariants as V
use Rattle.run_types.specs.declared.frames.Frame.{Frame}
use Rattle.code_semantics.specs.declared.unit.Instr.{Instr}
use Rattle.code_semantics.specs.declared.unit.Instr.TheVariants as I
use Rattle.code_semantics.specs.declared.unit.AltCode.{AltCode}
use Rattle.run_types.specs.declared.types.Serves.{Serves}
use Rattle.run_types.specs.declared.types.Serves.TheVariants as S
use Rattle.code_semantics.specs.Frames.{next, silent, go_on_with, settled_within, post_passed, code_of}
use Rattle.code_semantics.specs.Kinds.{return_kind, operated, arity, instr_kind, frames_kind}
use Rattle.code_semantics.specs.Step.{at_alternative, after_choice, Numbered, at_rest, outcome_value, method_named, begun, called, handed, left, is_own, instr_stepped, frames_stepped, asked, frames_given, instr_gone_on, frames_gone_on, frames_picked, frames_serving}
use Rattle.mesh_semantics.specs.Requests.{is_at_once}
use Rattle.mesh_of_code.specs.Coded.{kind_of}
use Rattle.run_types.specs.Values.{is_true}
use Rattle.run_types.specs.declared.frames.CodeObject.{CodeObject}
use Rattle.code_semantics.specs.declared.unit.ClassCode.{ClassCode}
use Rattle.run_types.specs.Operands.{top, below, dropped, taken, nth}
use Rattle.mesh_semantics.specs.Kind as K

passed_serves : (code : List Instr) (n : ℕ) (f : Frame) → ((g : Frame) → (settled_within code n g).serves ≡ g.serves)
    → (s : Serves) → (go_on_with f (settled_within code n) (post_passed f s)).serves ≡ f.serves
passed_serves code n f r S.Own = r (next f f.operands)
passed_serves code n f r S.Sender = r (next f f.operands)
passed_serves code n f r (S.Caller k m) = refl

-- silent instructions change no one whom a frame serves
silent_serves : (code : List Instr) (n : ℕ) (f : Frame) → ((g : Frame) → (settled_within code n g).serves ≡ g.serves)
    → (i : Option Instr) → (go_on_with f (settled_within code n) (silent f i)).serves ≡ f.serves
silent_serves code n f r (Some (I.PushInt z)) = r (next f (V.Int z ∷ f.operands))
silent_serves code n f r (Some (I.PushBool b)) = r (next f (V.Bool b ∷ f.operands))
silent_serves code n f r (Some I.PushNil) = r (next f (V.Nil ∷ f.operands))
silent_serves code n f r (Some (I.Jump a)) = r (record f { at = a })
silent_serves code n f r (Some I.Post) = passed_serves code n f r f.serves
silent_serves code n f r _ = refl

pub within_serves : (code : List Instr) (n : ℕ) (f : Frame) → (settled_within code n f).serves ≡ f.serves
within_serves code zero f = refl
within_serves code (suc n) f = silent_serves code n f (within_serves code n) (slice_get code f.at)

-- a statement that is done
pub no_return_at_once : (s : Serves) (v : Value) → is_at_once (kind_of (return_kind s v)) ≡ true → ⊥
no_return_at_once S.Own v q = absurd (cc)
no_return_at_once (S.Caller k n) v q = absurd (cc)
no_return_at_once S.Sender v q = absurd (cc)

-- a choice
alternative_serves : (f : Frame) (n : ℕ) (a : Option AltCode) → (at_alternative f n a).serves ≡ f.serves
alternative_serves f n None = refl
alternative_serves f n (Some a) = refl

pub choice_serves : (f : Frame) (i : ℕ) (j : Option Instr) → (after_choice f i j).serves ≡ f.serves
choice_serves f i (Some (I.Select alts)) = alternative_serves f (length alts) _
choice_serves f i _ = refl

-- each frame tells of whom it serves, in front of what the frames below it tell
pub record HasEvidence (by : Serves → List ℕ → List ℕ) (of : List Frame → List ℕ) : Type 0 where
  pub more : (f : Frame) (fs : List Frame) → of (f ∷ fs) ≡ by f.serves (of fs)
  pub own : (ks : List ℕ) → by S.Own ks ≡ ks
  pub sender : (ks : List ℕ) → by S.Sender ks ≡ ks

module _ (by : Serves → List ℕ → List ℕ) (of : List Frame → List ℕ) (told : HasEvidence by of) where
  pub rest_tells : (k : Option ClassCode) (x : CodeObject) (f : Frame) (fs : List Frame) → of (at_rest k x f fs).frames ≡ by f.serves (of fs)
  rest_tells k x f fs =
      told.more (settled_within (code_of k f.method) (length (code_of k f.method)) f) fs
      ∙ ap (λ s. by s (of fs)) (within_serves (code_of k f.method) (length (code_of k f.method)) f)

  -- a frame that serves the same in another's place
  same_tells : (f g : Frame) (fs : List Frame) → g.serves ≡ f.serves → of (g ∷ fs) ≡ of (f ∷ fs)
  same_tells f g fs e = told.more g fs ∙ (ap (λ s. by s (of fs)) e ∙ sym (told.more f fs))

  still_tells : (k : Option ClassCode) (x : CodeObject) (f g : Frame) (fs : List Frame) → g.serves ≡ f.serves → of (at_rest k x g fs).frames ≡ of (f ∷ fs)
  still_tells k x f g fs e = rest_tells k x g fs ∙ (ap (λ s. by s (of fs)) e ∙ sym (told.more f fs))

  -- a value that has come
  pub given_tells : (k : Option ClassCode) (x : CodeObject) (v : Value) (fs : List Frame) → x.frames ≡ fs → of (frames_given k x v fs).frames ≡ of fs
  given_tells k x v [] e = ap of e
  given_tells k x v (f ∷ fs) e = still_tells k x f (next f (v ∷ dropped (asked (slice_get (code_of k f.method) f.at)) f.operands)) fs refl

  -- local steps
  called_tells : (k : Option ClassCode) (x : CodeObject) (f : Frame) (fs : List Frame) (m : Option Numbered) → x.frames ≡ f ∷ fs
      → of (called k x f fs m).frames ≡ of (f ∷ fs)
  called_tells k x f fs None e = ap of e
  called_tells k x f fs (Some m) e =
      let g = next f (dropped m.code.params f.operands) in
      rest_tells k x (begun m (taken m.code.params f.operands []) S.Own) (g ∷ fs) ∙ (told.own (of (g ∷ fs)) ∙ same_tells f g fs refl)

  handed_tells : (k : Option ClassCode) (x : CodeObject) (v : Value) (f : Frame) (fs : List Frame) → x.frames ≡ f ∷ fs → f.serves ≡ S.Own
      → of (handed k x v fs).frames ≡ of fs
  handed_tells k x v f [] e s = ap of e ∙ (told.more f [] ∙ (ap (λ t. by t (of [])) s ∙ told.own (of [])))
  handed_tells k x v f (g ∷ gs) e s = still_tells k x g (record g { operands = v ∷ g.operands }) gs refl

  left_tells : (k : Option ClassCode) (x : CodeObject) (f : Frame) (fs : List Frame) → x.frames ≡ f ∷ fs → f.serves ≡ S.Sender
      → of (left k x fs).frames ≡ of fs
  left_tells k x f [] e s = ap of e ∙ (told.more f [] ∙ (ap (λ t. by t (of [])) s ∙ told.sender (of [])))
  left_tells k x f (g ∷ gs) e s = still_tells k x g g gs refl

  ret_tells : (k : Option ClassCode) (x : CodeObject) (v : Value) (f : Frame) (fs : List Frame) → x.frames ≡ f ∷ fs
      → (s : Serves) → f.serves ≡ s → kind_of (return_kind s v) ≡ K.Local
      → of (if is_own s then handed k x v fs else left k x fs).frames ≡ by s (of fs)
  ret_tells k x v f fs e S.Own s q = handed_tells k x v f fs e s ∙ sym (told.own (of fs))
  ret_tells k x v f fs e (S.Caller c n) s q = absurd (cc)
  ret_tells k x v f fs e S.Sender s q = left_tells k x f fs e s ∙ sym (told.sender (of fs))

  step_tells : (k : Option ClassCode) (o : ℕ) (x : CodeObject) (f : Frame) (fs : List Frame) → x.frames ≡ f ∷ fs
      → (i : Option Instr) → kind_of (instr_kind f i) ≡ K.Local → of (instr_stepped k o x f fs i).frames ≡ of (f ∷ fs)
  step_tells k o x f fs e (Some (I.LoadI n)) q = still_tells k x f (next f (nth x.vars n ∷ f.operands)) fs refl
  step_tells k o x f fs e (Some (I.LoadT n)) q = still_tells k x f (next f (nth f.temps n ∷ f.operands)) fs refl
  step_tells k o x f fs e (Some I.SelfRef) q = still_tells k x f (next f (V.Ref o ∷ f.operands)) fs refl
  step_tells k o x f fs e (Some (I.StoreI n)) q = still_tells k x f (next f (below f.operands)) fs refl
  step_tells k o x f fs e (Some (I.StoreT n)) q = still_tells k x f (next (record f { temps = slice_set f.temps n (top f.operands) }) (below f.operands)) fs refl
  step_tells k o x f fs e (Some (I.Oper op)) q = still_tells k x f (next f (outcome_value (operated op f.operands) ∷ dropped (arity op) f.operands)) fs refl
  step_tells k o x f fs e (Some I.Pop) q = still_tells k x f (next f (below f.operands)) fs refl
  step_tells k o x f fs e (Some (I.Branch a)) q = still_tells k x f (record f { at = if is_true (top f.operands) then suc f.at else a; operands = below f.operands }) fs refl
  step_tells k o x f fs e (Some I.Loop) q = still_tells k x f (next f f.operands) fs refl
  step_tells k o x f fs e (Some (I.Call m)) q = called_tells k x f fs (method_named k m) e
  step_tells k o x f fs e (Some I.Ret) q = ret_tells k x (top f.operands) f fs e f.serves refl q ∙ sym (told.more f fs)
  step_tells k o x f fs e _ q = ap of e

  pub stepped_tells : (k : Option ClassCode) (o : ℕ) (x : CodeObject) (fs : List Frame) → x.frames ≡ fs → kind_of (frames_kind k fs) ≡ K.Local
      → of (frames_stepped k o x fs).frames ≡ of fs
  stepped_tells k o x [] e q = ap of e
  stepped_tells k o x (f ∷ fs) e q = step_tells k o x f fs e (slice_get (code_of k f.method) f.at) q

  -- a statement that is done
  gone_tells : (k : Option ClassCode) (x : CodeObject) (f : Frame) (fs : List Frame) → x.frames ≡ f ∷ fs
      → (i : Option Instr) → is_at_once (kind_of (instr_kind f i)) ≡ true → of (instr_gone_on k x f fs i).frames ≡ of (f ∷ fs)
  gone_tells k x f fs e (Some I.Write) q = still_tells k x f (next f (below f.operands)) fs refl
  gone_tells k x f fs e (Some (I.WriteText s)) q = still_tells k x f (next f f.operands) fs refl
  gone_tells k x f fs e (Some (I.Async m n)) q = still_tells k x f (next f (dropped (suc n) f.operands)) fs refl
  gone_tells k x f fs e (Some I.Ret) q = absurd (no_return_at_once f.serves (top f.operands) q)
  gone_tells k x f fs e (Some I.Post) q = absurd (no_return_at_once f.serves (top f.operands) q)
  gone_tells k x f fs e _ q = ap of e

  pub done_tells : (k : Option ClassCode) (x : CodeObject) (fs : List Frame) → x.frames ≡ fs → is_at_once (kind_of (frames_kind k fs)) ≡ true
      → of (frames_gone_on k x fs).frames ≡ of fs
  done_tells k x [] e q = ap of e
  done_tells k x (f ∷ fs) e q = gone_tells k x f fs e (slice_get (code_of k f.method) f.at) q

  -- a choice, and a method that begins with it
  pub picked_tells : (k : Option ClassCode) (x : CodeObject) (i : ℕ) (fs : List Frame) → x.frames ≡ fs → of (frames_picked k x i fs).frames ≡ of fs
  picked_tells k x i [] e = ap of e
  picked_tells k x i (f ∷ fs) e =
      let j = slice_get (code_of k f.method) f.at in
      still_tells k x f (after_choice f i j) fs (choice_serves f i j)

  pub serving_tells : (k : Option ClassCode) (x : CodeObject) (i : ℕ) (m : Numbered) (args : List Value) (s : Serves) (f : Frame) (fs : List Frame)
      → of (frames_serving k x i m args s (f ∷ fs)).frames ≡ by s (of (f ∷ fs))
  serving_tells k x i m args s f fs =
      let j = slice_get (code_of k f.method) f.at in
      rest_tells k x (begun m args s) (after_choice f i j ∷ fs) ∙ ap (by s) (same_tells f (after_choice f i j) fs (choice_serves f i j))
