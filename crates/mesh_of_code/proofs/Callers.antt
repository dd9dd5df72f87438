-- The callers that code serves.
use Rattle.std.proofs.Common.{◌≡◌, ◌⊎◌, inl, inr, refl, sym, ap, subst, ◌∙◌, ℕ, suc, ◌==◌, List, [], ◌∷◌, length, Option, Some, None, Bool, true, false, if◌then◌else◌}
use Rattle.std.specs.Prelude.{slice_get}
use Rattle.std.specs.List.{list_any}
use Rattle.run_types.specs.declared.types.NameId.{NameId}
use Rattle.run_types.specs.declared.types.Value.{Value}
use Rattle.run_types.specs.declared.types.Value.TheVariants as V
use Rattle.run_types.specs.declared.types.Error.TheVariants.{NilOperand, NoOpenGuard}
use Rattle.run_types.specs.Values.{Outcome, Gives, Fails, WrongSort, is_bool, is_true, not_bool}
use Rattle.run_types.specs.Partial.{◌>>=◌}
use Rattle.run_types.proofs.Laws.{equal, equals, same_some}
use Rattle.run_types.specs.declared.frames.CodeObject.{CodeObject}
use Rattle.run_types.specs.declared.frames.Frame.{Frame}
use Rattle.code_semantics.specs.declared.unit.Instr.{Instr}
use Rattle.code_semantics.specs.declared.unit.Instr.TheVariants as I
use Rattle.code_semantics.specs.declared.unit.ClassCode.{ClassCode}
use Rattle.run_types.specs.declared.types.Serves.{Serves}
use Rattle.run_types.specs.declared.types.Serves.TheVariants as S
use Rattle.code_semantics.specs.declared.unit.Unit.{Unit as Code}
use Rattle.code_semantics.specs.Frames.{code_of, next}
use Rattle.run_types.specs.Operands.{top, dropped, taken, padded}
use Rattle.code_semantics.specs.Kinds as C
use Rattle.code_semantics.specs.Kinds.{Offered, operated, outcome_kind, sent_kind, return_kind, offers, instr_kind, frames_kind, code_kind}
use Rattle.code_semantics.specs.Step.{Numbered, at_rest, method_named, left, frames_given, instr_gone_on, frames_gone_on, frames_serving, method_serving, placed_of, code_placed, class_from, placed_at, code_made}
use Rattle.mesh_semantics.specs.Act.{id}
use Rattle.mesh_semantics.specs.Kind as K
use Rattle.mesh_semantics.specs.Kind.{Kind, Alternative}
use Rattle.run_types.specs.PathFacts.{In}
use Rattle.mesh_semantics.specs.Config.{Config, object_of}
use Rattle.mesh_semantics.specs.Requests.{Requests, KeepsClassAndFault, is_at_once, with_caller, AreServed}
use Rattle.mesh_of_code.specs.Coded.{Placed, kind_of, unless_served, under_way, served_by, callers_of, class_numbers, class_number, last_code, serves_for, placed, coded}
use Rattle.code_semantics.specs.OfUnit.{AreFramesOf}
use Rattle.mesh_of_code.specs.CodeInvariant.{IsOfCode, Names, is_for, methods_for, number_in}
use Rattle.mesh_of_code.proofs.ServedCallers.{HasEvidence, rest_tells, given_tells, stepped_tells, done_tells, picked_tells, serving_tells}

abbrev pub serves_caller : Serves → Bool
serves_caller (S.Caller k n) = true
serves_caller _ = false

-- the last frame, which is the body's, serves no caller
abbrev pub is_based : List Frame → Type 0
is_based [] = Unit {0}
is_based (f ∷ []) = serves_caller f.serves ≡ false
is_based (f ∷ g ∷ fs) = is_based (g ∷ fs)

pub based_of : (k : ClassCode) (P : Value → Type 0) (above : Option Frame) (fs : List Frame) → AreFramesOf k P above fs → is_based fs
based_of k P above [] a = tt
based_of k P above (f ∷ []) a = ap serves_caller a.3
based_of k P above (f ∷ g ∷ fs) a = based_of k P (Some f) (g ∷ fs) a.3

told : HasEvidence served_by callers_of
told = record { more = λ f fs. refl; own = λ ks. refl; sender = λ ks. refl }

rest_callers : (k : Option ClassCode) (x : CodeObject) (f : Frame) (fs : List Frame) → callers_of (at_rest k x f fs).frames ≡ served_by f.serves (callers_of fs)
rest_callers k x f fs = rest_tells served_by callers_of told k x f fs

given_frames : (k : Option ClassCode) (x : CodeObject) (v : Value) (fs : List Frame) → x.frames ≡ fs → under_way (frames_given k x v fs).frames ≡ under_way fs
given_frames k x v [] e = ap under_way e
given_frames k x v (f ∷ fs) e = refl

given_class : (k : Option ClassCode) (x : CodeObject) (v : Value) (fs : List Frame) → (frames_given k x v fs).class ≡ x.class
given_class k x v [] = refl
given_class k x v (f ∷ fs) = refl

-- a value that is given back
pub outcome_no_return : (w : Outcome) (c : ℕ) (v : Value) → kind_of (outcome_kind w) ≡ K.Return c v → ⊥
outcome_no_return (Gives w) c v q = absurd (cc)
outcome_no_return (Fails e) c v q = absurd (cc)
outcome_no_return WrongSort c v q = absurd (cc)

pub branch_no_return : (b : Bool) (c : ℕ) (v : Value) → kind_of (if b then C.Local else C.Fault NilOperand) ≡ K.Return c v → ⊥
branch_no_return true c v q = absurd (cc)
branch_no_return false c v q = absurd (cc)

pub send_no_return : (d : Value) (m : NameId) (args : List Value) (c : ℕ) (v : Value) → kind_of (sent_kind d (λ b. C.Send b m args)) ≡ K.Return c v → ⊥
send_no_return (V.Int z) m args c v q = absurd (cc)
send_no_return (V.Bool b) m args c v q = absurd (cc)
send_no_return V.Nil m args c v q = absurd (cc)
send_no_return (V.Ref b) m args c v q = absurd (cc)

pub async_no_return : (d : Value) (m : NameId) (args : List Value) (c : ℕ) (v : Value) → kind_of (sent_kind d (λ b. C.Async b m args)) ≡ K.Return c v → ⊥
async_no_return (V.Int z) m args c v q = absurd (cc)
async_no_return (V.Bool b) m args c v q = absurd (cc)
async_no_return V.Nil m args c v q = absurd (cc)
async_no_return (V.Ref b) m args c v q = absurd (cc)

pub select_no_return : (a b : Bool) (os : List Offered) (c : ℕ) (v : Value)
    → kind_of (if a then C.Fault NilOperand else (if b then C.Select os else C.Fault NoOpenGuard)) ≡ K.Return c v → ⊥
select_no_return true b os c v q = absurd (cc)
select_no_return false true os c v q = absurd (cc)
select_no_return false false os c v q = absurd (cc)

return_caller : (s : Serves) (w : Value) (c : ℕ) (v : Value) (ks : List ℕ) → kind_of (return_kind s w) ≡ K.Return c v → served_by s ks ≡ c ∷ ks
return_caller S.Own w c v ks q = absurd (cc)
return_caller (S.Caller k n) w c v ks q = ap (λ j. j ∷ ks) (caller_is q)
  where
    caller_of : Kind → ℕ
    caller_of (K.Return j u) = j
    caller_of _ = 0

    caller_is : K.Return k w ≡ K.Return c v → k ≡ c
    caller_is i = ap caller_of i
return_caller S.Sender w c v ks q = absurd (cc)

pub no_base : (s : Serves) (w : Value) (c : ℕ) (v : Value) → serves_caller s ≡ false → kind_of (return_kind s w) ≡ K.Return c v → ⊥
no_base S.Own w c v n q = absurd (cc)
no_base (S.Caller k m) w c v n q = absurd (cc)
no_base S.Sender w c v n q = absurd (cc)

back_callers : (k : Option ClassCode) (x : CodeObject) (f : Frame) (fs : List Frame) → is_based (f ∷ fs) → (c : ℕ) (v : Value)
    → kind_of (return_kind f.serves (top f.operands)) ≡ K.Return c v → callers_of (f ∷ fs) ≡ c ∷ callers_of (left k x fs).frames
back_callers k x f [] b c v q = absurd (no_base f.serves (top f.operands) c v b q)
back_callers k x f (g ∷ gs) b c v q = return_caller f.serves (top f.operands) c v (callers_of (g ∷ gs)) q ∙ ap (λ ks. c ∷ ks) (sym (rest_callers k x g gs))

went_callers : (k : Option ClassCode) (x : CodeObject) (f : Frame) (fs : List Frame) → is_based (f ∷ fs)
    → (i : Option Instr) (c : ℕ) (v : Value) → kind_of (instr_kind f i) ≡ K.Return c v → callers_of (f ∷ fs) ≡ c ∷ callers_of (instr_gone_on k x f fs i).frames
went_callers k x f fs b (Some I.Ret) c v q = back_callers k x f fs b c v q
went_callers k x f fs b (Some I.Post) c v q =
    return_caller f.serves (top f.operands) c v (callers_of fs) q ∙ ap (λ ks. c ∷ ks) (sym (rest_callers k x (next (record f { serves = S.Sender }) f.operands) fs))
went_callers k x f fs b (Some (I.Oper op)) c v q = absurd (outcome_no_return (operated op f.operands) c v q)
went_callers k x f fs b (Some (I.Branch a)) c v q = absurd (branch_no_return (is_bool (top f.operands)) c v q)
went_callers k x f fs b (Some (I.Send m n)) c v q = absurd (send_no_return (top (dropped n f.operands)) m (taken n f.operands []) c v q)
went_callers k x f fs b (Some (I.Async m n)) c v q = absurd (async_no_return (top (dropped n f.operands)) m (taken n f.operands []) c v q)
went_callers k x f fs b (Some (I.Select alts)) c v q =
    absurd (select_no_return (list_any not_bool (taken (length alts) f.operands [])) (list_any is_true (taken (length alts) f.operands [])) (offers alts (taken (length alts) f.operands [])) c v q)
went_callers k x f fs b _ c v q = absurd (cc)

returned_callers : (k : Option ClassCode) (x : CodeObject) (fs : List Frame) → is_based fs → (c : ℕ) (v : Value) → kind_of (frames_kind k fs) ≡ K.Return c v
    → callers_of fs ≡ c ∷ callers_of (frames_gone_on k x fs).frames
returned_callers k x [] b c v q = absurd (cc)
returned_callers k x (f ∷ fs) b c v q = went_callers k x f fs b (slice_get (code_of k f.method) f.at) c v q

for_callers : (caller : Option ℕ) (ks : List ℕ) → served_by (serves_for caller) ks ≡ with_caller caller ks
for_callers None ks = refl
for_callers (Some k) ks = refl

begun_callers : (k : Option ClassCode) (x : CodeObject) (i : ℕ) (m : Numbered) (args : List Value) (caller : Option ℕ) (fs : List Frame) (alts : List Alternative)
    → kind_of (frames_kind k fs) ≡ K.Select alts → callers_of (frames_serving k x i m args (serves_for caller) fs).frames ≡ with_caller caller (callers_of fs)
begun_callers k x i m args caller [] alts q = absurd (cc)
begun_callers k x i m args caller (f ∷ fs) alts q =
    serving_tells served_by callers_of told k x i m args (serves_for caller) f fs ∙ for_callers caller (callers_of (f ∷ fs))

serving_callers : (k : Option ClassCode) (x : Placed) (i : ℕ) (m : Option Numbered) (args : List Value) (caller : Option ℕ) (alts : List Alternative) (z : Placed)
    → kind_of (frames_kind k x.object.frames) ≡ K.Select alts
    → (method_serving k x.object i m args (serves_for caller) >>= λ y. Some (record x { object = y })) ≡ Some z
    → callers_of z.object.frames ≡ with_caller caller (callers_of x.object.frames)
serving_callers k x i None args caller alts z q e = absurd (cc)
serving_callers k x i (Some m) args caller alts z q e =
    ap (λ w. callers_of w.object.frames) (sym (same_some e)) ∙ begun_callers k x.object i m args caller x.object.frames alts q

-- a new object
abbrev unbegun : ℕ → ClassCode → CodeObject
unbegun c k = record { class = c; vars = padded k.vars []; frames = [] }

abbrev body : Frame
body = record { method = None; at = 0; temps = []; operands = []; serves = S.Sender }

placed_callers : (c : ℕ) (k : Option ClassCode) (y : CodeObject) → placed_of c k ≡ Some y → callers_of y.frames ≡ []
placed_callers c None y e = absurd (cc)
placed_callers c (Some k) y e = subst (λ z. callers_of z.frames ≡ []) (same_some e) (rest_callers (Some k) (unbegun c k) body [])

at_callers : (u : Code) (n : Option ℕ) (y : Placed) → (placed_at u n >>= λ z. Some (placed z)) ≡ Some y → callers_of y.object.frames ≡ []
at_callers u None y e = absurd (cc)
at_callers u (Some n) y e = by (code_placed u n) refl e
  where
    by : (r : Option CodeObject) → code_placed u n ≡ r → (r >>= λ z. Some (placed z)) ≡ Some y → callers_of y.object.frames ≡ []
    by None h i = absurd (cc)
    by (Some z) h i = subst (λ w. callers_of w.object.frames ≡ []) (same_some i) (placed_callers n (slice_get u.classes n) z h)

root_callers : (u : Code) (r : Option ClassCode) (y : Placed) → (r >>= λ k. code_made u k.name >>= λ z. Some (placed z)) ≡ Some y → callers_of y.object.frames ≡ []
root_callers u None y e = absurd (cc)
root_callers u (Some k) y e = at_callers u (class_from 0 u.classes k.name) y e

class_in : (n : ℕ) (ks : List ClassCode) (c : NameId) (m : ℕ) → class_from n ks c ≡ Some m → In c.0 (class_numbers ks)
class_in n [] c m e = absurd (cc)
class_in n (k ∷ ks) c m e = by (k.name.0 == c.0) refl e (class_in (suc n) ks c m)
  where
    by : (b : Bool) → (k.name.0 == c.0) ≡ b → (if b then Some n else class_from (suc n) ks c) ≡ Some m → (class_from (suc n) ks c ≡ Some m → In c.0 (class_numbers ks)) → In c.0 (class_numbers (k ∷ ks))
    by true h i r = inl (equal _ _ h)
    by false h i r = inr (r i)

made_in : (u : Code) (c : NameId) (n : Option ℕ) (y : Placed) → class_from 0 u.classes c ≡ n → (placed_at u n >>= λ z. Some (placed z)) ≡ Some y → In c.0 (class_numbers u.classes)
made_in u c None y h e = absurd (cc)
made_in u c (Some n) y h e = class_in 0 u.classes c n h

-- one that does something is at no wait
no_wait_local : (s : Option (ℕ × ℕ)) (k : Kind) → unless_served s k ≡ K.Local → k ≡ K.Local
no_wait_local None k e = e
no_wait_local (Some w) k e = absurd (cc)

no_wait_once : (s : Option (ℕ × ℕ)) (k : Kind) → is_at_once (unless_served s k) ≡ true → is_at_once k ≡ true
no_wait_once None k e = e
no_wait_once (Some w) k e = absurd (cc)

no_wait_return : (s : Option (ℕ × ℕ)) (k : Kind) (c : ℕ) (v : Value) → unless_served s k ≡ K.Return c v → k ≡ K.Return c v
no_wait_return None k c v e = e
no_wait_return (Some w) k c v e = absurd (cc)

no_wait_select : (s : Option (ℕ × ℕ)) (k : Kind) (alts : List Alternative) → unless_served s k ≡ K.Select alts → k ≡ K.Select alts
no_wait_select None k alts e = e
no_wait_select (Some w) k alts e = absurd (cc)

-- a caller that frames serve has a method under way in them
is_under_way : (c : Option ClassCode) (k : ℕ) (fs : List Frame) → In k (callers_of fs) → (m : ℕ) × (ms : List ℕ) × (methods_for c k fs ≡ m ∷ ms)
is_under_way c k [] i = absurd i
is_under_way c k (f ∷ fs) i = by f.serves i (is_under_way c k fs)
  where
    at : (b : Bool) → (In k (callers_of fs) → (m : ℕ) × (ms : List ℕ) × (methods_for c k fs ≡ m ∷ ms)) → (b ≡ true) ⊎ In k (callers_of fs)
        → (m : ℕ) × (ms : List ℕ) × ((if b then number_in c f.method ∷ methods_for c k fs else methods_for c k fs) ≡ m ∷ ms)
    at true r h = (number_in c f.method, methods_for c k fs, refl)
    at false r (inl h) = absurd (cc)
    at false r (inr h) = r h

    by : (s : Serves) → In k (served_by s (callers_of fs)) → (In k (callers_of fs) → (m : ℕ) × (ms : List ℕ) × (methods_for c k fs ≡ m ∷ ms))
        → (m : ℕ) × (ms : List ℕ) × ((if is_for k s then number_in c f.method ∷ methods_for c k fs else methods_for c k fs) ≡ m ∷ ms)
    by S.Own h r = r h
    by (S.Caller j n) (inl e) r = at (j == k) r (inl (ap (λ t. t == k) e ∙ equals k))
    by (S.Caller j n) (inr h) r = at (j == k) r (inr h)
    by S.Sender h r = r h

-- for whom frames have a method under way, they serve
in_callers : (c : Option ClassCode) (k m : ℕ) (ms : List ℕ) (fs : List Frame) → methods_for c k fs ≡ m ∷ ms → In k (callers_of fs)
in_callers c k m ms [] e = absurd (cc)
in_callers c k m ms (f ∷ fs) e = by f.serves e (in_callers c k m ms fs)
  where
    at : (j : ℕ) (b : Bool) → (j == k) ≡ b → (if b then number_in c f.method ∷ methods_for c k fs else methods_for c k fs) ≡ m ∷ ms
        → (methods_for c k fs ≡ m ∷ ms → In k (callers_of fs)) → (j ≡ k) ⊎ In k (callers_of fs)
    at j true i h r = inl (equal j k i)
    at j false i h r = inr (r h)

    by : (s : Serves) → (if is_for k s then number_in c f.method ∷ methods_for c k fs else methods_for c k fs) ≡ m ∷ ms → (methods_for c k fs ≡ m ∷ ms → In k (callers_of fs)) → In k (served_by s (callers_of fs))
    by S.Own h r = r h
    by (S.Caller j n) h r = at j (j == k) refl h r
    by S.Sender h r = r h

served_waits : (u : Code) (c : Config Placed) (b : ℕ) (y : Placed) (k : ℕ) → IsOfCode u c → object_of c b ≡ Some y → In k (callers_of y.object.frames)
    → (x : Placed) × (m : ℕ) × (object_of c k ≡ Some x) × ((coded u).kind k x ≡ K.Waits b m)
served_waits u c b y k w h i =
    let s = is_under_way (slice_get u.classes y.object.class) k y.object.frames i in
    let v = w.served k b s.0 s.1 y h s.2 in
    (v.0, s.0, v.1, ap (λ t. unless_served t (kind_of (code_kind u v.0.object))) v.2)

-- all that requests ask of code
pub code_requests : (u : Code) → Requests (coded u) (IsOfCode u)
code_requests u = record {
  waiting_kind = λ o s b m args q. refl;
  waiting_frames = λ o s b m args q. refl;
  waiting_callers = λ o s b m args q. refl;
  waiting_given = λ o s b m args v q. refl;
  given_frames = λ o s v q. given_frames (slice_get u.classes s.object.class) s.object v s.object.frames refl;
  given_callers = λ o s v q. given_tells served_by callers_of told (slice_get u.classes s.object.class) s.object v s.object.frames refl;
  stepped_callers = λ c o x w h q. stepped_tells served_by callers_of told (slice_get u.classes x.object.class) o x.object x.object.frames refl (no_wait_local x.served (kind_of (code_kind u x.object)) q);
  done_callers = λ c o x w h q. done_tells served_by callers_of told (slice_get u.classes x.object.class) x.object x.object.frames refl (no_wait_once x.served (kind_of (code_kind u x.object)) q);
  returned_callers = λ c o x k v w h q. returned_callers (slice_get u.classes x.object.class) x.object x.object.frames (let t = w.of_unit o x h in based_of t.class (Names c) None x.object.frames t.frames) k v (no_wait_return x.served (kind_of (code_kind u x.object)) k v q);
  picked_callers = λ c o x alts i w h q. picked_tells served_by callers_of told (slice_get u.classes x.object.class) x.object i x.object.frames refl;
  serving_callers = λ c o x alts i m caller args z w h q e. serving_callers (slice_get u.classes x.object.class) x i (method_named (slice_get u.classes x.object.class) (id m)) args caller alts z (no_wait_select x.served (kind_of (code_kind u x.object)) alts q) e;
  faulted_callers = λ c o x e w h q. refl;
  root_callers = λ y e. root_callers u (last_code u.classes) y e;
  made_class = λ k y e. made_in u (id k) (class_from 0 u.classes (id k)) y refl e;
  made_callers = λ k y e. at_callers u (class_from 0 u.classes (id k)) y e;
  served_waits = served_waits u;
}

-- one that is at a wait is served
pub is_served : (s : Option (ℕ × ℕ)) (k : C.Kind) (b m : ℕ) → unless_served s (kind_of k) ≡ K.Waits b m → s ≡ Some (b, m)
is_served (Some w) k b m e = ap Some (pair_of e)
  where
    receiver_of : Kind → ℕ × ℕ
    receiver_of (K.Waits r n) = (r, n)
    receiver_of _ = (0, 0)

    pair_of : K.Waits w.0 w.1 ≡ K.Waits b m → w ≡ (b, m)
    pair_of i = ap receiver_of i
is_served None k b m e = absurd (never k e)
  where
    never : (k : C.Kind) → kind_of k ≡ K.Waits b m → ⊥
    never C.Finished i = absurd (cc)
    never C.Local i = absurd (cc)
    never (C.Fault f) i = absurd (cc)
    never (C.New c) i = absurd (cc)
    never (C.Send r n args) i = absurd (cc)
    never (C.Async r n args) i = absurd (cc)
    never (C.Write item) i = absurd (cc)
    never (C.Answer names) i = absurd (cc)
    never (C.Select alts) i = absurd (cc)
    never (C.Return r n v) i = absurd (cc)

pub code_keeps : (u : Code) → KeepsClassAndFault (coded u)
code_keeps u = record {
  waiting_class = λ o s b m args q. refl;
  waiting_fault = λ o s b m args q. refl;
  given_class = λ o s v q. ap (λ j. class_number (slice_get u.classes j)) (given_class (slice_get u.classes s.object.class) s.object v s.object.frames);
  given_fault = λ o s v q. refl;
}

pub code_serves : (u : Code) → AreServed (coded u) (IsOfCode u)
code_serves u c o x b m w h k =
    let t = w.waits o b m x h (is_served x.served (code_kind u x.object) b m k) in
    (t.0, t.2, in_callers (slice_get u.classes t.0.object.class) o m [] t.0.object.frames t.3)
