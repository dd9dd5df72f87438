-- The methods under way for an object, after each step of code.
use Rattle.std.proofs.Common.{◌≡◌, refl, sym, ap, ap₂, subst, ◌∙◌, ℕ, zero, suc, ◌+◌, ◌==◌, List, [], ◌∷◌, length, Option, Some, None, Bool, true, false, if◌then◌else◌, arith}
use Rattle.std.specs.Prelude.{slice_get, slice_set}
use Rattle.std.specs.List.{list_any}
use Rattle.run_types.specs.declared.types.NameId.{NameId}
use Rattle.run_types.specs.declared.types.Value.{Value}
use Rattle.run_types.specs.declared.types.Value.TheVariants as V
use Rattle.run_types.specs.declared.types.Serves.{Serves}
use Rattle.run_types.specs.declared.types.Serves.TheVariants as S
use Rattle.run_types.specs.Values.{is_bool, is_true, not_bool}
use Rattle.run_types.proofs.Laws.{equal, same_some}
use Rattle.mesh_semantics.specs.Act.{id}
use Rattle.mesh_semantics.specs.Kind as K
use Rattle.mesh_semantics.specs.Kind.{Kind, Alternative}
use Rattle.mesh_semantics.specs.Requests.{is_at_once}
use Rattle.run_types.specs.declared.frames.CodeObject.{CodeObject}
use Rattle.run_types.specs.declared.frames.Frame.{Frame}
use Rattle.code_semantics.specs.declared.unit.Instr.{Instr}
use Rattle.code_semantics.specs.declared.unit.Instr.TheVariants as I
use Rattle.code_semantics.specs.declared.unit.AltCode.{AltCode}
use Rattle.code_semantics.specs.declared.unit.ClassCode.{ClassCode}
use Rattle.code_semantics.specs.declared.unit.MethodCode.{MethodCode}
use Rattle.code_semantics.specs.declared.unit.Unit.{Unit as Code}
use Rattle.code_semantics.specs.Frames.{code_of, next, silent, go_on_with, settled_within, post_passed}
use Rattle.run_types.specs.Operands.{top, below, dropped, taken, nth, padded}
use Rattle.code_semantics.specs.Kinds.{operated, arity, return_kind, offers, instr_kind, frames_kind, code_kind}
use Rattle.code_semantics.specs.Step.{Numbered, at_rest, outcome_value, method_from, method_named, begun, called, handed, left, is_own, instr_stepped, frames_stepped, code_stepped, asked, frames_given, code_given, instr_gone_on, frames_gone_on, code_gone_on, at_alternative, after_choice, frames_picked, code_picked, frames_serving, method_serving, code_serving, placed_of, class_from, placed_at, code_made}
use Rattle.mesh_of_code.specs.Coded.{kind_of}
use Rattle.mesh_of_code.specs.CodeInvariant.{is_for, number_in, method_number, methods_for}
use Rattle.mesh_of_code.proofs.Callers.{is_based, no_base, outcome_no_return, branch_no_return, send_no_return, async_no_return, select_no_return}
use Rattle.mesh_of_code.proofs.ServedCallers.{within_serves, choice_serves, no_return_at_once}

-- the methods with the one of a frame in front, if it is for p
abbrev pub counted : Option ClassCode → ℕ → Serves → Option ℕ → List ℕ → List ℕ
counted c p s m ks = if is_for p s then number_in c m ∷ ks else ks

-- y has the class of x, and the methods under way for p that these frames have
abbrev pub Same : Option ClassCode → ℕ → CodeObject → CodeObject → List Frame → Type 0
Same c p x y fs = (y.class ≡ x.class) × (methods_for c p y.frames ≡ methods_for c p fs)

passed_method : (code : List Instr) (n : ℕ) (f : Frame) → ((g : Frame) → (settled_within code n g).method ≡ g.method)
    → (s : Serves) → (go_on_with f (settled_within code n) (post_passed f s)).method ≡ f.method
passed_method code n f r S.Own = r (next f f.operands)
passed_method code n f r S.Sender = r (next f f.operands)
passed_method code n f r (S.Caller k m) = refl

silent_method : (code : List Instr) (n : ℕ) (f : Frame) → ((g : Frame) → (settled_within code n g).method ≡ g.method)
    → (i : Option Instr) → (go_on_with f (settled_within code n) (silent f i)).method ≡ f.method
silent_method code n f r (Some (I.PushInt z)) = r (next f (V.Int z ∷ f.operands))
silent_method code n f r (Some (I.PushBool b)) = r (next f (V.Bool b ∷ f.operands))
silent_method code n f r (Some I.PushNil) = r (next f (V.Nil ∷ f.operands))
silent_method code n f r (Some (I.Jump a)) = r (record f { at = a })
silent_method code n f r (Some I.Post) = passed_method code n f r f.serves
silent_method code n f r _ = refl

within_method : (code : List Instr) (n : ℕ) (f : Frame) → (settled_within code n f).method ≡ f.method
within_method code zero f = refl
within_method code (suc n) f = silent_method code n f (within_method code n) (slice_get code f.at)

rest : (c : Option ClassCode) (p : ℕ) (x : CodeObject) (f : Frame) (fs : List Frame) → Same c p x (at_rest c x f fs) (f ∷ fs)
rest c p x f fs =
    (refl, ap₂ (λ s m. counted c p s m (methods_for c p fs)) (within_serves (code_of c f.method) (length (code_of c f.method)) f) (within_method (code_of c f.method) (length (code_of c f.method)) f))

-- where nothing changes
unchanged : (c : Option ClassCode) (p : ℕ) (x : CodeObject) (fs : List Frame) → x.frames ≡ fs → Same c p x x fs
unchanged c p x fs e = (refl, ap (methods_for c p) e)

-- a value that has come
given_same : (c : Option ClassCode) (p : ℕ) (x : CodeObject) (v : Value) (fs : List Frame) → x.frames ≡ fs → Same c p x (frames_given c x v fs) fs
given_same c p x v [] e = unchanged c p x [] e
given_same c p x v (f ∷ fs) e = rest c p x (next f (v ∷ dropped (asked (slice_get (code_of c f.method) f.at)) f.operands)) fs

-- local steps
called_same : (c : Option ClassCode) (p : ℕ) (x : CodeObject) (f : Frame) (fs : List Frame) (m : Option Numbered) → x.frames ≡ f ∷ fs → Same c p x (called c x f fs m) (f ∷ fs)
called_same c p x f fs None e = unchanged c p x (f ∷ fs) e
called_same c p x f fs (Some m) e = rest c p x (begun m (taken m.code.params f.operands []) S.Own) (next f (dropped m.code.params f.operands) ∷ fs)

handed_same : (c : Option ClassCode) (p : ℕ) (x : CodeObject) (v : Value) (f : Frame) (fs : List Frame) → x.frames ≡ f ∷ fs → f.serves ≡ S.Own → Same c p x (handed c x v fs) fs
handed_same c p x v f [] e s = (refl, ap (methods_for c p) e ∙ ap (λ t. counted c p t f.method []) s)
handed_same c p x v f (g ∷ gs) e s = rest c p x (record g { operands = v ∷ g.operands }) gs

left_same : (c : Option ClassCode) (p : ℕ) (x : CodeObject) (f : Frame) (fs : List Frame) → x.frames ≡ f ∷ fs → f.serves ≡ S.Sender → Same c p x (left c x fs) fs
left_same c p x f [] e s = (refl, ap (methods_for c p) e ∙ ap (λ t. counted c p t f.method []) s)
left_same c p x f (g ∷ gs) e s = rest c p x g gs

ret_same : (c : Option ClassCode) (p : ℕ) (x : CodeObject) (v : Value) (f : Frame) (fs : List Frame) → x.frames ≡ f ∷ fs → (s : Serves) → f.serves ≡ s → kind_of (return_kind s v) ≡ K.Local
    → ((if is_own s then handed c x v fs else left c x fs).class ≡ x.class)
    × (methods_for c p (if is_own s then handed c x v fs else left c x fs).frames ≡ counted c p s f.method (methods_for c p fs))
ret_same c p x v f fs e S.Own s q = handed_same c p x v f fs e s
ret_same c p x v f fs e (S.Caller k n) s q = absurd (cc)
ret_same c p x v f fs e S.Sender s q = left_same c p x f fs e s

step_same : (c : Option ClassCode) (p o : ℕ) (x : CodeObject) (f : Frame) (fs : List Frame) → x.frames ≡ f ∷ fs
    → (i : Option Instr) → kind_of (instr_kind f i) ≡ K.Local → Same c p x (instr_stepped c o x f fs i) (f ∷ fs)
step_same c p o x f fs e (Some (I.LoadI n)) q = rest c p x (next f (nth x.vars n ∷ f.operands)) fs
step_same c p o x f fs e (Some (I.LoadT n)) q = rest c p x (next f (nth f.temps n ∷ f.operands)) fs
step_same c p o x f fs e (Some I.SelfRef) q = rest c p x (next f (V.Ref o ∷ f.operands)) fs
step_same c p o x f fs e (Some (I.StoreI n)) q = rest c p x (next f (below f.operands)) fs
step_same c p o x f fs e (Some (I.StoreT n)) q = rest c p x (next (record f { temps = slice_set f.temps n (top f.operands) }) (below f.operands)) fs
step_same c p o x f fs e (Some (I.Oper op)) q = rest c p x (next f (outcome_value (operated op f.operands) ∷ dropped (arity op) f.operands)) fs
step_same c p o x f fs e (Some I.Pop) q = rest c p x (next f (below f.operands)) fs
step_same c p o x f fs e (Some (I.Branch a)) q = rest c p x (record f { at = if is_true (top f.operands) then suc f.at else a; operands = below f.operands }) fs
step_same c p o x f fs e (Some I.Loop) q = rest c p x (next f f.operands) fs
step_same c p o x f fs e (Some (I.Call m)) q = called_same c p x f fs (method_named c m) e
step_same c p o x f fs e (Some I.Ret) q = ret_same c p x (top f.operands) f fs e f.serves refl q
step_same c p o x f fs e _ q = unchanged c p x (f ∷ fs) e

stepped_same : (c : Option ClassCode) (p o : ℕ) (x : CodeObject) (fs : List Frame) → x.frames ≡ fs → kind_of (frames_kind c fs) ≡ K.Local → Same c p x (frames_stepped c o x fs) fs
stepped_same c p o x [] e q = unchanged c p x [] e
stepped_same c p o x (f ∷ fs) e q = step_same c p o x f fs e (slice_get (code_of c f.method) f.at) q

-- a statement that is done
gone_same : (c : Option ClassCode) (p : ℕ) (x : CodeObject) (f : Frame) (fs : List Frame) → x.frames ≡ f ∷ fs
    → (i : Option Instr) → is_at_once (kind_of (instr_kind f i)) ≡ true → Same c p x (instr_gone_on c x f fs i) (f ∷ fs)
gone_same c p x f fs e (Some I.Write) q = rest c p x (next f (below f.operands)) fs
gone_same c p x f fs e (Some (I.WriteText s)) q = rest c p x (next f f.operands) fs
gone_same c p x f fs e (Some (I.Async m n)) q = rest c p x (next f (dropped (suc n) f.operands)) fs
gone_same c p x f fs e (Some I.Ret) q = absurd (no_return_at_once f.serves (top f.operands) q)
gone_same c p x f fs e (Some I.Post) q = absurd (no_return_at_once f.serves (top f.operands) q)
gone_same c p x f fs e _ q = unchanged c p x (f ∷ fs) e

done_same : (c : Option ClassCode) (p : ℕ) (x : CodeObject) (fs : List Frame) → x.frames ≡ fs → is_at_once (kind_of (frames_kind c fs)) ≡ true → Same c p x (frames_gone_on c x fs) fs
done_same c p x [] e q = unchanged c p x [] e
done_same c p x (f ∷ fs) e q = gone_same c p x f fs e (slice_get (code_of c f.method) f.at) q

-- a choice
alternative_method : (f : Frame) (n : ℕ) (a : Option AltCode) → (at_alternative f n a).method ≡ f.method
alternative_method f n None = refl
alternative_method f n (Some a) = refl

choice_method : (f : Frame) (i : ℕ) (j : Option Instr) → (after_choice f i j).method ≡ f.method
choice_method f i (Some (I.Select alts)) = alternative_method f (length alts) _
choice_method f i _ = refl

choice_methods : (c : Option ClassCode) (p : ℕ) (f : Frame) (i : ℕ) (j : Option Instr) (fs : List Frame) → methods_for c p (after_choice f i j ∷ fs) ≡ methods_for c p (f ∷ fs)
choice_methods c p f i j fs = ap₂ (λ s m. counted c p s m (methods_for c p fs)) (choice_serves f i j) (choice_method f i j)

picked_same : (c : Option ClassCode) (p : ℕ) (x : CodeObject) (i : ℕ) (fs : List Frame) → x.frames ≡ fs → Same c p x (frames_picked c x i fs) fs
picked_same c p x i [] e = unchanged c p x [] e
picked_same c p x i (f ∷ fs) e =
    let r = rest c p x (after_choice f i (slice_get (code_of c f.method) f.at)) fs in
    (r.0, r.1 ∙ choice_methods c p f i (slice_get (code_of c f.method) f.at) fs)

-- a method that begins
begun_same : (c : Option ClassCode) (p : ℕ) (x : CodeObject) (i : ℕ) (m : Numbered) (args : List Value) (s : Serves) (fs : List Frame) (alts : List Alternative)
    → kind_of (frames_kind c fs) ≡ K.Select alts
    → ((frames_serving c x i m args s fs).class ≡ x.class) × (methods_for c p (frames_serving c x i m args s fs).frames ≡ counted c p s (Some m.place) (methods_for c p fs))
begun_same c p x i m args s [] alts q = absurd (cc)
begun_same c p x i m args s (f ∷ fs) alts q =
    let r = rest c p x (begun m args s) (after_choice f i (slice_get (code_of c f.method) f.at) ∷ fs) in
    (r.0, r.1 ∙ ap (counted c p s (Some m.place)) (choice_methods c p f i (slice_get (code_of c f.method) f.at) fs))

-- the method of this name is where it is said to be
found_from : (n : ℕ) (ms : List MethodCode) (m : ℕ) (z : Numbered) → method_from n ms (id m) ≡ Some z
    → (i : ℕ) × (z.place ≡ n + i) × (slice_get ms i ≡ Some z.code) × (z.code.name.0 ≡ m)
found_from n [] m z e = absurd (cc)
found_from n (k ∷ ms) m z e = by (k.name.0 == m) refl (found_from (suc n) ms m z)
  where
    by : (b : Bool) → (k.name.0 == m) ≡ b
        → (method_from (suc n) ms (id m) ≡ Some z → (i : ℕ) × (z.place ≡ suc n + i) × (slice_get ms i ≡ Some z.code) × (z.code.name.0 ≡ m))
        → (i : ℕ) × (z.place ≡ n + i) × (slice_get (k ∷ ms) i ≡ Some z.code) × (z.code.name.0 ≡ m)
    by true i r =
        let same : record { place = n; code = k } ≡ z = same_some (rw i at e) in
        let at : n ≡ z.place = ap (λ (y : Numbered). y.place) same in
        (0, omega (arith, at), ap (λ (y : Numbered). Some y.code) same, ap (λ (y : Numbered). y.code.name.0) (sym same) ∙ equal k.name.0 m i)
    by false i r = let t = r (rw i at e) in let s = t.1 in (suc t.0, omega (arith, s), t.2, t.3)

pub number_of_named : (c : Option ClassCode) (m : ℕ) (z : Numbered) → method_named c (id m) ≡ Some z → number_in c (Some z.place) ≡ m
number_of_named None m z e = absurd (cc)
number_of_named (Some k) m z e =
    let t = found_from 0 k.methods m z e in
    let i : t.0 ≡ z.place = let s = t.1 in omega (arith, s) in
    let at : slice_get k.methods z.place ≡ Some z.code = subst (λ j. slice_get k.methods j ≡ Some z.code) i t.2 in
    ap method_number at ∙ t.3

served_same : (c : Option ClassCode) (p : ℕ) (x y : CodeObject) (i m : ℕ) (z : Option Numbered) (args : List Value) (s : Serves) (alts : List Alternative) → method_named c (id m) ≡ z
    → kind_of (frames_kind c x.frames) ≡ K.Select alts → method_serving c x i z args s ≡ Some y
    → (y.class ≡ x.class) × (methods_for c p y.frames ≡ (if is_for p s then m ∷ methods_for c p x.frames else methods_for c p x.frames))
served_same c p x y i m None args s alts n q e = absurd (cc)
served_same c p x y i m (Some z) args s alts n q e =
    let r = begun_same c p x i z args s x.frames alts q in
    let same : frames_serving c x i z args s x.frames ≡ y = same_some e in (
      ap (λ (w : CodeObject). w.class) (sym same) ∙ r.0,
      ap (λ (w : CodeObject). methods_for c p w.frames) (sym same) ∙ r.1 ∙ ap (λ j. if is_for p s then j ∷ methods_for c p x.frames else methods_for c p x.frames) (number_of_named c m z n),
    )

-- a value that is given back
return_serves : (s : Serves) (w : Value) (k : ℕ) (v : Value) → kind_of (return_kind s w) ≡ K.Return k v → (n : ℕ) × (s ≡ S.Caller k n)
return_serves S.Own w k v q = absurd (cc)
return_serves (S.Caller j n) w k v q = (n, ap (λ i. S.Caller i n) (caller_is q))
  where
    caller_of : Kind → ℕ
    caller_of (K.Return j u) = j
    caller_of _ = 0

    caller_is : K.Return j w ≡ K.Return k v → j ≡ k
    caller_is i = ap caller_of i
return_serves S.Sender w k v q = absurd (cc)

-- y has the class of x, and these frames have one method under way for k more than y, in front, and for others the same
abbrev pub Ended : Option ClassCode → ℕ → CodeObject → CodeObject → List Frame → Type 0
Ended c k x y fs = (y.class ≡ x.class) × (m : ℕ) × ((p : ℕ) → methods_for c p fs ≡ (if k == p then m ∷ methods_for c p y.frames else methods_for c p y.frames))

back_ended : (c : Option ClassCode) (x : CodeObject) (f : Frame) (fs : List Frame) → is_based (f ∷ fs) → (k : ℕ) (v : Value)
    → kind_of (return_kind f.serves (top f.operands)) ≡ K.Return k v → Ended c k x (left c x fs) (f ∷ fs)
back_ended c x f [] b k v q = absurd (no_base f.serves (top f.operands) k v b q)
back_ended c x f (g ∷ gs) b k v q =
    let s = return_serves f.serves (top f.operands) k v q in (
      refl,
      number_in c f.method,
      λ p. ap (λ t. counted c p t f.method (methods_for c p (g ∷ gs))) s.1
          ∙ ap (λ ks. if k == p then number_in c f.method ∷ ks else ks) (sym (rest c p x g gs).1),
    )

-- the frame goes on, for no one
post_ended : (c : Option ClassCode) (x : CodeObject) (f : Frame) (fs : List Frame) (k : ℕ) (v : Value)
    → kind_of (return_kind f.serves (top f.operands)) ≡ K.Return k v → Ended c k x (at_rest c x (next (record f { serves = S.Sender }) f.operands) fs) (f ∷ fs)
post_ended c x f fs k v q =
    let s = return_serves f.serves (top f.operands) k v q in (
      refl,
      number_in c f.method,
      λ p. ap (λ t. counted c p t f.method (methods_for c p fs)) s.1
          ∙ ap (λ ks. if k == p then number_in c f.method ∷ ks else ks) (sym (rest c p x (next (record f { serves = S.Sender }) f.operands) fs).1),
    )

went_ended : (c : Option ClassCode) (x : CodeObject) (f : Frame) (fs : List Frame) → is_based (f ∷ fs)
    → (i : Option Instr) (k : ℕ) (v : Value) → kind_of (instr_kind f i) ≡ K.Return k v → Ended c k x (instr_gone_on c x f fs i) (f ∷ fs)
went_ended c x f fs b (Some I.Ret) k v q = back_ended c x f fs b k v q
went_ended c x f fs b (Some I.Post) k v q = post_ended c x f fs k v q
went_ended c x f fs b (Some (I.Oper op)) k v q = absurd (outcome_no_return (operated op f.operands) k v q)
went_ended c x f fs b (Some (I.Branch a)) k v q = absurd (branch_no_return (is_bool (top f.operands)) k v q)
went_ended c x f fs b (Some (I.Send m n)) k v q = absurd (send_no_return (top (dropped n f.operands)) m (taken n f.operands []) k v q)
went_ended c x f fs b (Some (I.Async m n)) k v q = absurd (async_no_return (top (dropped n f.operands)) m (taken n f.operands []) k v q)
went_ended c x f fs b (Some (I.Select alts)) k v q =
    absurd (select_no_return (list_any not_bool (taken (length alts) f.operands [])) (list_any is_true (taken (length alts) f.operands [])) (offers alts (taken (length alts) f.operands [])) k v q)
went_ended c x f fs b _ k v q = absurd (cc)

returned_ended : (c : Option ClassCode) (x : CodeObject) (fs : List Frame) → is_based fs → (k : ℕ) (v : Value) → kind_of (frames_kind c fs) ≡ K.Return k v
    → Ended c k x (frames_gone_on c x fs) fs
returned_ended c x [] b k v q = absurd (cc)
returned_ended c x (f ∷ fs) b k v q = went_ended c x f fs b (slice_get (code_of c f.method) f.at) k v q

-- a new object
abbrev unbegun : ℕ → ClassCode → CodeObject
unbegun c k = record { class = c; vars = padded k.vars []; frames = [] }

abbrev body : Frame
body = record { method = None; at = 0; temps = []; operands = []; serves = S.Sender }

placed_none : (c : Option ClassCode) (j p : ℕ) (y : CodeObject) → placed_of j c ≡ Some y → methods_for c p y.frames ≡ []
placed_none None j p y e = absurd (cc)
placed_none (Some k) j p y e = subst (λ (z : CodeObject). methods_for (Some k) p z.frames ≡ []) (same_some e) (rest (Some k) p (unbegun j k) body []).1

placed_class : (c : Option ClassCode) (j : ℕ) (y : CodeObject) → placed_of j c ≡ Some y → y.class ≡ j
placed_class None j y e = absurd (cc)
placed_class (Some k) j y e = ap (λ (z : CodeObject). z.class) (sym (same_some e))

-- the methods of an object that are under way for p
abbrev pub methods_of : Code → ℕ → CodeObject → List ℕ
methods_of u p x = methods_for (slice_get u.classes x.class) p x.frames

same_here : (u : Code) (p : ℕ) (x y : CodeObject) → Same (slice_get u.classes x.class) p x y x.frames → methods_of u p y ≡ methods_of u p x
same_here u p x y s = ap (λ j. methods_for (slice_get u.classes j) p y.frames) s.0 ∙ s.1

module _ (u : Code) (p : ℕ) (x : CodeObject) where
  pub stepped_methods : (o : ℕ) → kind_of (code_kind u x) ≡ K.Local → methods_of u p (code_stepped u o x) ≡ methods_of u p x
  stepped_methods o q = same_here u p x (code_stepped u o x) (stepped_same (slice_get u.classes x.class) p o x x.frames refl q)

  pub given_methods : (v : Value) → methods_of u p (code_given u x v) ≡ methods_of u p x
  given_methods v = same_here u p x (code_given u x v) (given_same (slice_get u.classes x.class) p x v x.frames refl)

  pub done_methods : is_at_once (kind_of (code_kind u x)) ≡ true → methods_of u p (code_gone_on u x) ≡ methods_of u p x
  done_methods q = same_here u p x (code_gone_on u x) (done_same (slice_get u.classes x.class) p x x.frames refl q)

  pub picked_methods : (i : ℕ) → methods_of u p (code_picked u x i) ≡ methods_of u p x
  picked_methods i = same_here u p x (code_picked u x i) (picked_same (slice_get u.classes x.class) p x i x.frames refl)

  pub serving_methods : (i m : ℕ) (args : List Value) (s : Serves) (alts : List Alternative) (y : CodeObject) → kind_of (code_kind u x) ≡ K.Select alts → code_serving u x i (id m) args s ≡ Some y
      → methods_of u p y ≡ (if is_for p s then m ∷ methods_of u p x else methods_of u p x)
  serving_methods i m args s alts y q e =
      let r = served_same (slice_get u.classes x.class) p x y i m (method_named (slice_get u.classes x.class) (id m)) args s alts refl q e in
      ap (λ j. methods_for (slice_get u.classes j) p y.frames) r.0 ∙ r.1

pub returned_methods : (u : Code) (x : CodeObject) (k : ℕ) (v : Value) → is_based x.frames → kind_of (code_kind u x) ≡ K.Return k v
    → (m : ℕ) × ((p : ℕ) → methods_of u p x ≡ (if k == p then m ∷ methods_of u p (code_gone_on u x) else methods_of u p (code_gone_on u x)))
returned_methods u x k v b q =
    let r = returned_ended (slice_get u.classes x.class) x x.frames b k v q in
    (r.1, λ p. r.2 p ∙ ap (λ ks. if k == p then r.1 ∷ ks else ks) (ap (λ j. methods_for (slice_get u.classes j) p (code_gone_on u x).frames) (sym r.0)))

at_methods : (u : Code) (p : ℕ) (n : Option ℕ) (y : CodeObject) → placed_at u n ≡ Some y → methods_of u p y ≡ []
at_methods u p None y e = absurd (cc)
at_methods u p (Some n) y e =
    ap (λ j. methods_for (slice_get u.classes j) p y.frames) (placed_class (slice_get u.classes n) n y e) ∙ placed_none (slice_get u.classes n) n p y e

-- a new object has none under way
pub made_methods : (u : Code) (p : ℕ) (k : NameId) (y : CodeObject) → code_made u k ≡ Some y → methods_of u p y ≡ []
made_methods u p k y e = at_methods u p (class_from 0 u.classes k) y e
