-- The numbers of the calls that an object serves, through its steps.
use Rattle.std.proofs.Common.{◌≡◌, refl, sym, ap, subst, ◌∙◌, ℕ, suc, ◌≤◌, List, [], ◌∷◌, length, Option, Some, None, true, arith}
use Rattle.std.specs.Prelude.{slice_get}
use Rattle.std.specs.List.{list_any}
use Rattle.run_types.specs.declared.types.NameId.{NameId}
use Rattle.run_types.specs.declared.types.Value.{Value}
use Rattle.run_types.specs.declared.types.Serves.{Serves}
use Rattle.run_types.specs.declared.types.Serves.TheVariants as S
use Rattle.run_types.specs.Values.{is_bool, is_true, not_bool}
use Rattle.run_types.specs.declared.frames.CodeObject.{CodeObject}
use Rattle.run_types.specs.declared.frames.Frame.{Frame}
use Rattle.code_semantics.specs.declared.unit.Instr.{Instr}
use Rattle.code_semantics.specs.declared.unit.Instr.TheVariants as I
use Rattle.code_semantics.specs.declared.unit.ClassCode.{ClassCode}
use Rattle.code_semantics.specs.declared.unit.Unit.{Unit as Code}
use Rattle.code_semantics.specs.Frames.{code_of, next}
use Rattle.run_types.specs.Operands.{top, dropped, taken}
use Rattle.code_semantics.specs.Kinds as C
use Rattle.code_semantics.specs.Kinds.{operated, return_kind, offers, instr_kind, frames_kind, code_kind}
use Rattle.code_semantics.specs.Step.{Numbered, at_rest, method_named, left, code_stepped, frames_given, code_given, instr_gone_on, frames_gone_on, code_gone_on, code_picked, frames_serving, method_serving, code_serving}
use Rattle.run_types.proofs.Laws.{same_some}
use Rattle.mesh_semantics.specs.Requests.{is_at_once}
use Rattle.code_semantics.specs.OfUnit.{AreFramesOf}
use Rattle.code_semantics.specs.StepInstructions.{FitsUnit}
use Rattle.mesh_of_code.specs.Coded.{kind_of, under_way}
use Rattle.node_state.specs.Views.{number_by, numbers_of}
use Rattle.mesh_of_code.proofs.Laws.{HasEvidence, rest_tells, given_tells, stepped_tells, done_tells, picked_tells, serving_tells, outcome_no_return, branch_no_return, send_no_return, async_no_return, select_no_return}

told : HasEvidence number_by numbers_of
told = record { more = λ f fs. refl; own = λ ks. refl; sender = λ ks. refl }

rest_numbers : (k : Option ClassCode) (x : CodeObject) (f : Frame) (fs : List Frame) → numbers_of (at_rest k x f fs).frames ≡ number_by f.serves (numbers_of fs)
rest_numbers k x f fs = rest_tells number_by numbers_of told k x f fs

given_frames : (k : Option ClassCode) (x : CodeObject) (v : Value) (fs : List Frame) → x.frames ≡ fs → under_way (frames_given k x v fs).frames ≡ under_way fs
given_frames k x v [] e = ap under_way e
given_frames k x v (f ∷ fs) e = refl

return_number : (s : Serves) (w : Value) (c n : ℕ) (v : Value) (ks : List ℕ) → return_kind s w ≡ C.Return c n v → number_by s ks ≡ n ∷ ks
return_number S.Own w c n v ks q = absurd (cc)
return_number (S.Caller k m) w c n v ks q = let e : m ≡ n = cc in ap (λ j. j ∷ ks) e
return_number S.Sender w c n v ks q = absurd (cc)

-- the body's frame serves nobody
abbrev IsBased : List Frame → Type 0
IsBased [] = ⊥
IsBased (f ∷ []) = f.serves ≡ S.Sender
IsBased (f ∷ g ∷ fs) = IsBased (g ∷ fs)

based : (k : ClassCode) (P : Value → Type 0) (above : Option Frame) (fs : List Frame) → AreFramesOf k P above fs → IsBased fs
based k P above [] h = h
based k P above (f ∷ []) h = h.3
based k P above (f ∷ g ∷ fs) h = based k P (Some f) (g ∷ fs) h.3

no_base : (s : Serves) (w : Value) (c n : ℕ) (v : Value) → s ≡ S.Sender → return_kind s w ≡ C.Return c n v → ⊥
no_base S.Own w c n v e q = absurd (cc)
no_base (S.Caller k m) w c n v e q = absurd (cc)
no_base S.Sender w c n v e q = absurd (cc)

back_numbers : (k : Option ClassCode) (x : CodeObject) (f : Frame) (fs : List Frame) → IsBased (f ∷ fs) → (c n : ℕ) (v : Value)
    → return_kind f.serves (top f.operands) ≡ C.Return c n v → numbers_of (f ∷ fs) ≡ n ∷ numbers_of (left k x fs).frames
back_numbers k x f [] b c n v q = absurd (no_base f.serves (top f.operands) c n v b q)
back_numbers k x f (g ∷ gs) b c n v q = return_number f.serves (top f.operands) c n v (numbers_of (g ∷ gs)) q ∙ ap (λ ks. n ∷ ks) (sym (rest_numbers k x g gs))

went_numbers : (k : Option ClassCode) (x : CodeObject) (f : Frame) (fs : List Frame) → IsBased (f ∷ fs)
    → (i : Option Instr) (c n : ℕ) (v : Value) → instr_kind f i ≡ C.Return c n v → numbers_of (f ∷ fs) ≡ n ∷ numbers_of (instr_gone_on k x f fs i).frames
went_numbers k x f fs b (Some I.Ret) c n v q = back_numbers k x f fs b c n v q
went_numbers k x f fs b (Some I.Post) c n v q =
    return_number f.serves (top f.operands) c n v (numbers_of fs) q ∙ ap (λ ks. n ∷ ks) (sym (rest_numbers k x (next (record f { serves = S.Sender }) f.operands) fs))
went_numbers k x f fs b (Some (I.Oper op)) c n v q = absurd (outcome_no_return (operated op f.operands) c v (ap kind_of q))
went_numbers k x f fs b (Some (I.Branch a)) c n v q = absurd (branch_no_return (is_bool (top f.operands)) c v (ap kind_of q))
went_numbers k x f fs b (Some (I.Send m n')) c n v q = absurd (send_no_return (top (dropped n' f.operands)) m (taken n' f.operands []) c v (ap kind_of q))
went_numbers k x f fs b (Some (I.Async m n')) c n v q = absurd (async_no_return (top (dropped n' f.operands)) m (taken n' f.operands []) c v (ap kind_of q))
went_numbers k x f fs b (Some (I.Select alts)) c n v q =
    absurd (select_no_return (list_any not_bool (taken (length alts) f.operands [])) (list_any is_true (taken (length alts) f.operands [])) (offers alts (taken (length alts) f.operands [])) c v (ap kind_of q))
went_numbers k x f fs b _ c n v q = absurd (cc)

frames_returned : (k : Option ClassCode) (x : CodeObject) (fs : List Frame) → IsBased fs → (c n : ℕ) (v : Value) → frames_kind k fs ≡ C.Return c n v
    → numbers_of fs ≡ n ∷ numbers_of (frames_gone_on k x fs).frames
frames_returned k x [] b c n v q = absurd (cc)
frames_returned k x (f ∷ fs) b c n v q = went_numbers k x f fs b (slice_get (code_of k f.method) f.at) c n v q

-- the steps of an object of the unit
pub numbers_given : (u : Code) (x : CodeObject) (v : Value) → numbers_of (code_given u x v).frames ≡ numbers_of x.frames
numbers_given u x v = given_tells number_by numbers_of told (slice_get u.classes x.class) x v x.frames refl

pub numbers_stepped : (u : Code) (o : ℕ) (x : CodeObject) → code_kind u x ≡ C.Local → numbers_of (code_stepped u o x).frames ≡ numbers_of x.frames
numbers_stepped u o x h = stepped_tells number_by numbers_of told (slice_get u.classes x.class) o x x.frames refl (ap kind_of h)

pub numbers_done : (u : Code) (x : CodeObject) → is_at_once (kind_of (code_kind u x)) ≡ true → numbers_of (code_gone_on u x).frames ≡ numbers_of x.frames
numbers_done u x h = done_tells number_by numbers_of told (slice_get u.classes x.class) x x.frames refl h

pub numbers_picked : (u : Code) (x : CodeObject) (i : ℕ) → numbers_of (code_picked u x i).frames ≡ numbers_of x.frames
numbers_picked u x i = picked_tells number_by numbers_of told (slice_get u.classes x.class) x i x.frames refl

pub numbers_returned : (u : Code) (x : CodeObject) (c n : ℕ) (v : Value) → FitsUnit u x → code_kind u x ≡ C.Return c n v
    → numbers_of x.frames ≡ n ∷ numbers_of (code_gone_on u x).frames
numbers_returned u x c n v fits h = frames_returned (slice_get u.classes x.class) x x.frames (based fits.class _ None x.frames fits.frames) c n v h

some_frames : (k : ClassCode) (P : Value → Type 0) (fs : List Frame) → AreFramesOf k P None fs → (f : Frame) × (rest : List Frame) × (fs ≡ f ∷ rest)
some_frames k P [] h = absurd h
some_frames k P (f ∷ fs) h = (f, fs, refl)

serving_all : (u : Code) (x y : CodeObject) (i : ℕ) (m : Option Numbered) (args : List Value) (s : Serves) → FitsUnit u x
    → method_serving (slice_get u.classes x.class) x i m args s ≡ Some y → (numbers_of y.frames ≡ number_by s (numbers_of x.frames)) × (length y.frames ≡ suc (length x.frames))
serving_all u x y i None args s fits h = absurd (cc)
serving_all u x y i (Some m) args s fits h =
    let k = slice_get u.classes x.class in
    let w = some_frames fits.class _ x.frames fits.frames in
    let e : frames_serving k x i m args s x.frames ≡ y = same_some h in
    let g : frames_serving k x i m args s (w.0 ∷ w.1) ≡ y = subst (λ (fs : List Frame). frames_serving k x i m args s fs ≡ y) w.2 e in (
      ap (λ (z : CodeObject). numbers_of z.frames) (sym g) ∙ (serving_tells number_by numbers_of told k x i m args s w.0 w.1 ∙ ap (λ fs. number_by s (numbers_of fs)) (sym w.2)),
      ap (λ (z : CodeObject). length z.frames) (sym g) ∙ ap (λ fs. suc (length fs)) (sym w.2),
    )

pub numbers_serving : (u : Code) (x y : CodeObject) (i : ℕ) (m : NameId) (args : List Value) (s : Serves) → FitsUnit u x → code_serving u x i m args s ≡ Some y
    → (numbers_of y.frames ≡ number_by s (numbers_of x.frames)) × (length y.frames ≡ suc (length x.frames))
numbers_serving u x y i m args s fits h = serving_all u x y i (method_named (slice_get u.classes x.class) m) args s fits h

-- how many frames there are
given_length : (k : Option ClassCode) (x : CodeObject) (v : Value) (fs : List Frame) → x.frames ≡ fs → length (frames_given k x v fs).frames ≡ length fs
given_length k x v [] e = ap (λ (gs : List Frame). length gs) e
given_length k x v (f ∷ fs) e = refl

pub length_given : (u : Code) (x : CodeObject) (v : Value) → length (code_given u x v).frames ≡ length x.frames
length_given u x v = given_length (slice_get u.classes x.class) x v x.frames refl

left_length : (k : Option ClassCode) (x : CodeObject) (f : Frame) (fs : List Frame) → x.frames ≡ f ∷ fs → length (left k x fs).frames ≤ length (f ∷ fs)
left_length k x f [] e = let w = ap (λ (gs : List Frame). length gs) e in omega (arith, w)
left_length k x f (g ∷ gs) e = omega arith

gone_length : (k : Option ClassCode) (x : CodeObject) (f : Frame) (fs : List Frame) → x.frames ≡ f ∷ fs → (i : Option Instr) → length (instr_gone_on k x f fs i).frames ≤ length (f ∷ fs)
gone_length k x f fs e (Some I.Write) = omega arith
gone_length k x f fs e (Some (I.WriteText s)) = omega arith
gone_length k x f fs e (Some (I.Async m n)) = omega arith
gone_length k x f fs e (Some I.Ret) = left_length k x f fs e
gone_length k x f fs e (Some I.Post) = omega arith
gone_length k x f fs e _ = let w = ap (λ (gs : List Frame). length gs) e in omega (arith, w)

done_length : (k : Option ClassCode) (x : CodeObject) (fs : List Frame) → x.frames ≡ fs → length (frames_gone_on k x fs).frames ≤ length fs
done_length k x [] e = let w = ap (λ (gs : List Frame). length gs) e in omega (arith, w)
done_length k x (f ∷ fs) e = gone_length k x f fs e (slice_get (code_of k f.method) f.at)

pub length_gone_on : (u : Code) (x : CodeObject) → length (code_gone_on u x).frames ≤ length x.frames
length_gone_on u x = done_length (slice_get u.classes x.class) x x.frames refl

pub numbers_rest : (k : Option ClassCode) (x : CodeObject) (f : Frame) (fs : List Frame) → numbers_of (at_rest k x f fs).frames ≡ number_by f.serves (numbers_of fs)
numbers_rest = rest_numbers
