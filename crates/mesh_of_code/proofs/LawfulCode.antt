-- The laws of code as a language: each transition keeps the invariant of a configuration.
use Rattle.std.proofs.Common.{◌≡◌, refl, sym, ap, subst, ◌∙◌, IsTrue, ℕ, ◌+◌, ◌<◌, ◌==◌, List, [], ◌∷◌, length, Option, Some, None, is_some, Bool, true, false, if◌then◌else◌, arith}
use Rattle.std.specs.Prelude.{slice_get, ◌&&◌}
use Rattle.std.specs.List.{list_any}
use Rattle.run_types.specs.declared.types.NameId.{NameId}
use Rattle.run_types.specs.declared.types.Value.{Value}
use Rattle.run_types.specs.declared.types.Value.TheVariants as V
use Rattle.run_types.specs.Partial.{◌>>=◌}
use Rattle.run_types.specs.Values.{Outcome, Gives, Fails, WrongSort, is_true, is_bool, not_bool}
use Rattle.run_types.proofs.Laws.{second, equal, equals, same_some}
use Rattle.run_types.specs.declared.frames.CodeObject.{CodeObject}
use Rattle.run_types.specs.declared.frames.Frame.{Frame}
use Rattle.code_semantics.specs.declared.unit.Instr.{Instr}
use Rattle.code_semantics.specs.declared.unit.Instr.TheVariants as I
use Rattle.code_semantics.specs.declared.unit.AltCode.{AltCode}
use Rattle.run_types.specs.declared.types.Serves.{Serves}
use Rattle.run_types.specs.declared.types.Serves.TheVariants as S
use Rattle.code_semantics.specs.declared.unit.ClassCode.{ClassCode}
use Rattle.code_semantics.specs.declared.unit.MethodCode.{MethodCode}
use Rattle.code_semantics.specs.declared.unit.Unit.{Unit as Code}
use Rattle.code_semantics.specs.Frames.{code_of, method_code}
use Rattle.run_types.specs.Operands.{top, dropped, taken}
use Rattle.code_semantics.specs.Kinds as C
use Rattle.code_semantics.specs.Kinds.{Offered, offers, select_kind, sent_kind, return_kind, outcome_kind, operated, instr_kind, frames_kind, code_kind}
use Rattle.code_semantics.specs.Step.{Numbered, method_named, class_from, code_given, frames_given, code_made, frames_serving}
use Rattle.code_semantics.specs.Proper.{IsProper}
use Rattle.code_semantics.specs.ReachedPlaces.{AreOwn, AnswerOwn, AltsExist, Exists}
use Rattle.mesh_semantics.specs.Act.{id}
use Rattle.mesh_semantics.specs.Kind as K
use Rattle.mesh_semantics.specs.Kind.{Kind, Alternative, alternatives, has_name, answers}
use Rattle.run_types.specs.declared.types.Error.{Error}
use Rattle.run_types.specs.declared.types.Error.TheVariants.{NilOperand, NoOpenGuard}
use Rattle.run_types.specs.declared.types.Label.{Label}
use Rattle.run_types.specs.Message.{Message}
use Rattle.mesh_semantics.specs.Config.{Config, object_of, messages_of}
use Rattle.mesh_semantics.specs.Lawful.{Lawful, CanServe}
use Rattle.mesh_semantics.specs.Moves.{move, offered, first_message}
use Rattle.run_types.specs.Tables.{Each}
use Rattle.mesh_semantics.specs.Sound.{IsThere, is_wait}
use Rattle.code_semantics.specs.OfUnit.{AreFramesOf, IsObjectOf}
use Rattle.mesh_of_code.specs.CodeInvariant.{Names, is_for, number_in, methods_for, IsOfCode}
use Rattle.mesh_of_code.proofs.Inversions.{makes_class, goes_to, goes_back, new_at, receiver_at, return_at, class_there}
use Rattle.mesh_of_code.specs.Coded.{Placed, placed, numbers, answered, alternatives_of, kind_of, unless_served, under_way, serves_for, coded}

code_never_waits : (k : C.Kind) → is_wait (kind_of k) ≡ false
code_never_waits C.Finished = refl
code_never_waits C.Local = refl
code_never_waits (C.Fault e) = refl
code_never_waits (C.New c) = refl
code_never_waits (C.Send b m args) = refl
code_never_waits (C.Async b m args) = refl
code_never_waits (C.Write item) = refl
code_never_waits (C.Answer names) = refl
code_never_waits (C.Select alts) = refl
code_never_waits (C.Return k n v) = refl

given_frames : (k : Option ClassCode) (x : CodeObject) (v : Value) (fs : List Frame) → x.frames ≡ fs → under_way (frames_given k x v fs).frames ≡ under_way x.frames
given_frames k x v [] e = refl
given_frames k x v (f ∷ fs) e = sym (ap under_way e)

own : (k : Option ClassCode) (ns : List NameId) (m : ℕ) → AreOwn k ns → has_name (numbers ns) m ≡ true → IsTrue (is_some (method_named k (id m)))
own k [] m a h = absurd (let z : false ≡ true = h in cc)
own k (n ∷ ns) m a h = by (n.0 == m) refl (own k ns m a.1)
  where
    by : (b : Bool) → (n.0 == m) ≡ b → (has_name (numbers ns) m ≡ true → IsTrue (is_some (method_named k (id m)))) → IsTrue (is_some (method_named k (id m)))
    by true e rest = subst (λ j. IsTrue (is_some (method_named k (id j)))) (equal n.0 m e) a.0
    by false e rest = rest (rw e at h)

own_answer : (k : Option ClassCode) (a : Option (List NameId)) (m : ℕ) → AnswerOwn k a → has_name (K.answered (answered a)) m ≡ true → IsTrue (is_some (method_named k (id m)))
own_answer k None m a h = absurd (let z : false ≡ true = h in cc)
own_answer k (Some ns) m a h = own k ns m a h

own_select : (k : Option ClassCode) (c : List Instr) (alts : List AltCode) (vs : List Value) (n i m : ℕ) (names : List ℕ) → AltsExist k c alts
    → offered n (alternatives_of (offers alts vs)) m ≡ Some (i, names) → IsTrue (is_some (method_named k (id m)))
own_select k c [] vs n i m names a h = absurd (cc)
own_select k c (x ∷ alts) [] n i m names a h = absurd (cc)
own_select k c (x ∷ alts) (v ∷ vs) n i m names a h = by (is_true v && has_name (K.answered (answered x.answer)) m) refl (own_select k c alts vs (n + 1) i m names a.2)
  where
    by : (b : Bool) → (is_true v && has_name (K.answered (answered x.answer)) m) ≡ b
        → (offered (n + 1) (alternatives_of (offers alts vs)) m ≡ Some (i, names) → IsTrue (is_some (method_named k (id m)))) → IsTrue (is_some (method_named k (id m)))
    by true e rest = own_answer k x.answer m a.0 (second (is_true v) _ e)
    by false e rest = rest (rw e at h)

-- a kind that offers nothing
abbrev plain_kind : C.Kind → Bool
plain_kind (C.Answer ns) = false
plain_kind (C.Select alts) = false
plain_kind _ = true

nothing_offered : (k : C.Kind) → plain_kind k ≡ true → alternatives (kind_of k) ≡ []
nothing_offered C.Finished h = refl
nothing_offered C.Local h = refl
nothing_offered (C.Fault e) h = refl
nothing_offered (C.New c) h = refl
nothing_offered (C.Send b m args) h = refl
nothing_offered (C.Async b m args) h = refl
nothing_offered (C.Write item) h = refl
nothing_offered (C.Answer ns) h = absurd (let z : false ≡ true = h in cc)
nothing_offered (C.Select alts) h = absurd (let z : false ≡ true = h in cc)
nothing_offered (C.Return k n v) h = refl

outcome_plain : (o : Outcome) → plain_kind (outcome_kind o) ≡ true
outcome_plain (Gives v) = refl
outcome_plain (Fails e) = refl
outcome_plain WrongSort = refl

sent_plain : (v : Value) (go : ℕ → C.Kind) → ((b : ℕ) → plain_kind (go b) ≡ true) → plain_kind (sent_kind v go) ≡ true
sent_plain (V.Ref b) go h = h b
sent_plain V.Nil go h = refl
sent_plain (V.Int z) go h = refl
sent_plain (V.Bool z) go h = refl

return_plain : (s : Serves) (v : Value) → plain_kind (return_kind s v) ≡ true
return_plain S.Own v = refl
return_plain (S.Caller k n) v = refl
return_plain S.Sender v = refl

branch_plain : (b : Bool) (e : Error) → plain_kind (if b then C.Local else C.Fault e) ≡ true
branch_plain true e = refl
branch_plain false e = refl

none_in : (alts : List Alternative) (m : ℕ) (v : ℕ × List ℕ) → alts ≡ [] → offered 1 alts m ≡ Some v → ⊥
none_in alts m v e h = let z : None ≡ Some v = sym (ap (λ a. offered 1 a m) e) ∙ h in cc

none_of : (k : C.Kind) (m i : ℕ) (names : List ℕ) → plain_kind k ≡ true → offered 1 (alternatives (kind_of k)) m ≡ Some (i, names) → ⊥
none_of k m i names p h = none_in (alternatives (kind_of k)) m (i, names) (nothing_offered k p) h

one_answer : (k : Option ClassCode) (ns : List NameId) (m i : ℕ) (names : List ℕ) → AreOwn k ns
    → offered 1 (alternatives (kind_of (C.Answer ns))) m ≡ Some (i, names) → IsTrue (is_some (method_named k (id m)))
one_answer k ns m i names a h = by (has_name (numbers ns) m) refl
  where
    by : (b : Bool) → has_name (numbers ns) m ≡ b → IsTrue (is_some (method_named k (id m)))
    by true e = own k ns m a e
    by false e = absurd (let z : None ≡ Some (i, names) = rw e at h in cc)

one_select : (k : Option ClassCode) (c : List Instr) (alts : List AltCode) (vs : List Value) (m i : ℕ) (names : List ℕ) → AltsExist k c alts
    → offered 1 (alternatives (kind_of (select_kind alts vs))) m ≡ Some (i, names) → IsTrue (is_some (method_named k (id m)))
one_select k c alts vs m i names a h = by (list_any not_bool vs) (list_any is_true vs) h
  where
    by : (n t : Bool) → offered 1 (alternatives (kind_of (if n then C.Fault NilOperand else (if t then C.Select (offers alts vs) else C.Fault NoOpenGuard)))) m ≡ Some (i, names) → IsTrue (is_some (method_named k (id m)))
    by true t j = absurd (cc)
    by false true j = own_select k c alts vs 1 i m names a j
    by false false j = absurd (cc)

pub first_operands : (k : ClassCode) (P : Value → Type 0) (above : Option Frame) (f : Frame) (fs : List Frame) → AreFramesOf k P above (f ∷ fs) → Each P f.operands
first_operands k P above f [] a = a.0.operands
first_operands k P above f (g ∷ fs) a = a.0.operands

module _ (u : Code) (proper : IsProper u) where
  -- what an instruction of a frame names exists
  exists_at : (j : ℕ) (k : ClassCode) (f : Frame) (i : Instr) → slice_get u.classes j ≡ Some k → slice_get (code_of (Some k) f.method) f.at ≡ Some i
      → (temps : ℕ) × Exists u (Some k) temps (code_of (Some k) f.method) i
  exists_at j k f i e h = by f.method h
    where
      of : (n : ℕ) (z : Option MethodCode) → slice_get k.methods n ≡ z → slice_get (code_of (Some k) (Some n)) f.at ≡ Some i → (temps : ℕ) × Exists u (Some k) temps (code_of (Some k) (Some n)) i
      of n None q g = absurd (let z : None ≡ Some i = rw q at g in cc)
      of n (Some m) q g =
          let p = (proper.each j k e).methods n m q in
          (m.temps, subst (λ (z : Option MethodCode). Exists u (Some k) m.temps (method_code z) i) (sym q) (p.4.exists f.at i (rw q at g)))

      by : (m : Option ℕ) → slice_get (code_of (Some k) m) f.at ≡ Some i → (temps : ℕ) × Exists u (Some k) temps (code_of (Some k) m) i
      by None g = (0, (proper.each j k e).body.exists f.at i g)
      by (Some n) g = of n (slice_get k.methods n) refl g

  at_instr : (k : ClassCode) (c : List Instr) (f : Frame) (m i : ℕ) (names : List ℕ) (z : Option Instr) → ((j : Instr) → z ≡ Some j → (temps : ℕ) × Exists u (Some k) temps c j)
      → offered 1 (alternatives (kind_of (instr_kind f z))) m ≡ Some (i, names) → IsTrue (is_some (method_named (Some k) (id m)))
  at_instr k c f m i names None e h = absurd (none_of C.Finished m i names refl h)
  at_instr k c f m i names (Some (I.Answer ns)) e h = one_answer (Some k) ns m i names (e (I.Answer ns) refl).1 h
  at_instr k c f m i names (Some (I.Select alts)) e h = one_select (Some k) c alts (taken (length alts) f.operands []) m i names (e (I.Select alts) refl).1 h
  at_instr k c f m i names (Some (I.Oper op)) e h = absurd (none_of (outcome_kind (operated op f.operands)) m i names (outcome_plain (operated op f.operands)) h)
  at_instr k c f m i names (Some (I.Branch a)) e h = absurd (none_of _ m i names (branch_plain (is_bool (top f.operands)) NilOperand) h)
  at_instr k c f m i names (Some I.Ret) e h = absurd (none_of (return_kind f.serves (top f.operands)) m i names (return_plain f.serves (top f.operands)) h)
  at_instr k c f m i names (Some I.Post) e h = absurd (none_of (return_kind f.serves (top f.operands)) m i names (return_plain f.serves (top f.operands)) h)
  at_instr k c f m i names (Some (I.Send n b)) e h =
      absurd (none_of _ m i names (sent_plain (top (dropped b f.operands)) (λ r. C.Send r n (taken b f.operands [])) (λ r. refl)) h)
  at_instr k c f m i names (Some (I.Async n b)) e h =
      absurd (none_of _ m i names (sent_plain (top (dropped b f.operands)) (λ r. C.Async r n (taken b f.operands [])) (λ r. refl)) h)
  at_instr k c f m i names (Some (I.New n)) e h = absurd (none_of (C.New n) m i names refl h)
  at_instr k c f m i names (Some I.Write) e h = absurd (cc)
  at_instr k c f m i names (Some (I.WriteText s)) e h = absurd (cc)
  at_instr k c f m i names (Some I.Halt) e h = absurd (none_of C.Finished m i names refl h)
  at_instr k c f m i names (Some _) e h = absurd (none_of C.Local m i names refl h)

  at_frames : (j : ℕ) (k : ClassCode) (fs : List Frame) (m i : ℕ) (names : List ℕ) → slice_get u.classes j ≡ Some k
      → offered 1 (alternatives (kind_of (frames_kind (Some k) fs))) m ≡ Some (i, names) → IsTrue (is_some (method_named (Some k) (id m)))
  at_frames j k [] m i names e h = absurd (none_of C.Finished m i names refl h)
  at_frames j k (f ∷ fs) m i names e h = at_instr k (code_of (Some k) f.method) f m i names (slice_get (code_of (Some k) f.method) f.at) (λ q g. exists_at j k f q e g) h

  -- what is offered can be served
  pub can_serve : (c : Config Placed) (b m : ℕ) (args : List Value) (y : Placed) → IsOfCode u c → object_of c b ≡ Some y → CanServe (coded u) c b m args
  can_serve c b m args y w h = (y, h, λ i names caller off. on i names caller y.served refl off)
    where
      k : ClassCode
      k = (w.of_unit b y h).class

      is_k : slice_get u.classes y.object.class ≡ Some (w.of_unit b y h).class
      is_k = (w.of_unit b y h).is_class

      made : (i : ℕ) (caller : Option ℕ) (z : Option Numbered) → method_named (slice_get u.classes y.object.class) (id m) ≡ z → IsTrue (is_some z)
          → (q : Placed) × ((coded u).serving b y i m caller args ≡ Some q)
      made i caller None e t = absurd (let z : false ≡ true = t in cc)
      made i caller (Some n) e t = (record y { object = frames_serving (slice_get u.classes y.object.class) y.object i n args (serves_for caller) y.object.frames }, rw e refl)

      on : (i : ℕ) (names : List ℕ) (caller : Option ℕ) (s : Option (ℕ × ℕ)) → y.served ≡ s → offered 1 (alternatives ((coded u).kind b y)) m ≡ Some (i, names)
          → (q : Placed) × ((coded u).serving b y i m caller args ≡ Some q)
      on i names caller (Some v) e off = absurd (let z : None ≡ Some (i, names) = rw e at off in cc)
      on i names caller None e off =
          let t = at_frames y.object.class (w.of_unit b y h).class y.object.frames m i names is_k
          (subst (λ (q : Option ClassCode). offered 1 (alternatives (kind_of (frames_kind q y.object.frames))) m ≡ Some (i, names)) is_k (rw e at off)) in
          made i caller (method_named (slice_get u.classes y.object.class) (id m)) refl (subst (λ (q : Option ClassCode). IsTrue (is_some (method_named q (id m)))) (sym is_k) t)

  -- the first message is there
  pub first_there : (P : Message → Type 0) (names : List ℕ) (ms : List Message) (f : Message) → Each P ms → first_message names ms ≡ Some f → P f
  first_there P names [] f a e = absurd (cc)
  first_there P names (m ∷ ms) f a e = by (has_name names m.method) refl (first_there P names ms f a.1)
    where
      by : (b : Bool) → has_name names m.method ≡ b → (first_message names ms ≡ Some f → P f) → P f
      by true i k = subst P (same_some (rw i at e)) a.0
      by false i k = k (rw i at e)

  pub can_take : (c : Config Placed) (names : List ℕ) (s r : ℕ) (f : Message) → IsOfCode u c → first_message names (messages_of c s r) ≡ Some f → CanServe (coded u) c r f.method f.args
  can_take c names s r f w h =
      let z = first_there (λ (m : Message). IsThere c r × (m.method < length u.names) × Each (Names c) m.args) names (messages_of c s r) f (w.messages s r) h in
      can_serve c r f.method f.args z.0.0 w z.0.1

  -- after a value is given the frames are as many, the fault is the same, and it is at no wait
  pub given : (o : ℕ) (x : Placed) (v : Value) → ((coded u).frames ((coded u).given x v) ≡ (coded u).frames x) × ((coded u).fault ((coded u).given x v) ≡ (coded u).fault x) × (is_wait ((coded u).kind o ((coded u).given x v)) ≡ false)
  given o x v = (given_frames (slice_get u.classes x.object.class) x.object v x.object.frames refl, refl, code_never_waits (code_kind u (code_given u x.object v)))

  -- by the frames of one that is not served
  by_frames : (P : Kind → Option ℕ) (x : Placed) (k : ClassCode) (n : ℕ) → ((b m : ℕ) → P (K.Waits b m) ≡ None) → P K.Finished ≡ None → slice_get u.classes x.object.class ≡ Some k
      → P (unless_served x.served (kind_of (code_kind u x.object))) ≡ Some n
      → (f : Frame) × (fs : List Frame) × (x.object.frames ≡ f ∷ fs) × (P (kind_of (instr_kind f (slice_get (code_of (Some k) f.method) f.at))) ≡ Some n)
  by_frames P x k n waits finished is h = by x.served x.object.frames refl refl
    where
      by : (s : Option (ℕ × ℕ)) (fs : List Frame) → x.served ≡ s → x.object.frames ≡ fs
          → (f : Frame) × (gs : List Frame) × (x.object.frames ≡ f ∷ gs) × (P (kind_of (instr_kind f (slice_get (code_of (Some k) f.method) f.at))) ≡ Some n)
      by (Some w) fs e i = absurd (let z : P (K.Waits w.0 w.1) ≡ Some n = rw e at h in let q : None ≡ Some n = sym (waits w.0 w.1) ∙ z in cc)
      by None [] e i = absurd (let z : P K.Finished ≡ Some n = rw (e, i) at h in let q : None ≡ Some n = sym finished ∙ z in cc)
      by None (f ∷ fs) e i = (
        f,
        fs,
        i,
        (let z : P (kind_of (frames_kind (slice_get u.classes x.object.class) (f ∷ fs))) ≡ Some n = rw (e, i) at h in
            subst (λ (q : Option ClassCode). P (kind_of (frames_kind q (f ∷ fs))) ≡ Some n) is z),
      )

  can_make : (c : Config Placed) (o : ℕ) (x : Placed) (k : ℕ) → IsOfCode u c → object_of c o ≡ Some x → (coded u).kind o x ≡ K.New k → (y : Placed) × ((coded u).made k ≡ Some y)
  can_make c o x k w h e = by (class_from 0 u.classes (id k)) refl
    where
      unit : IsObjectOf u (Names c) x.object
      unit = w.of_unit o x h

      at : (f : Frame) × (fs : List Frame) × (x.object.frames ≡ f ∷ fs) × (makes_class (kind_of (instr_kind f (slice_get (code_of (Some (w.of_unit o x h).class) f.method) f.at))) ≡ Some k)
      at = by_frames makes_class x (w.of_unit o x h).class k (λ b m. refl) refl (w.of_unit o x h).is_class (ap makes_class e)

      known : IsTrue (is_some (class_from 0 u.classes (id k)))
      known =
          let n = new_at at.0 (slice_get (code_of (Some (w.of_unit o x h).class) at.0.method) at.0.at) k at.3 in
          subst (λ j. IsTrue (is_some (class_from 0 u.classes (id j)))) n.2 (exists_at x.object.class (w.of_unit o x h).class at.0 (I.New n.0) (w.of_unit o x h).is_class n.1).1

      by : (z : Option ℕ) → class_from 0 u.classes (id k) ≡ z → (y : Placed) × ((coded u).made k ≡ Some y)
      by None q = absurd (let t : false ≡ true = rw q at known in cc)
      by (Some j) q = let t = class_there 0 k u.classes j q in let s : t.0 ≡ j = let a = t.2 in omega (arith, a) in some t.1 j q (subst (λ i. slice_get u.classes i ≡ Some t.1) s t.3)
        where
          some : (l : ClassCode) (j : ℕ) → class_from 0 u.classes (id k) ≡ Some j → slice_get u.classes j ≡ Some l → (y : Placed) × ((coded u).made k ≡ Some y)
          some l j q g = made_of (code_made u (id k)) (rw (q, g) refl)
            where
              made_of : (z : Option CodeObject) → IsTrue (is_some z) → (y : Placed) × ((z >>= λ a. Some (placed a)) ≡ Some y)
              made_of None t = absurd (let q : false ≡ true = t in cc)
              made_of (Some a) t = (placed a, refl)

  receiver : (c : Config Placed) (o : ℕ) (x : Placed) (b : ℕ) → IsOfCode u c → object_of c o ≡ Some x → goes_to ((coded u).kind o x) ≡ Some b → IsThere c b
  receiver c o x b w h e =
      let t = by_frames goes_to x (w.of_unit o x h).class b (λ b m. refl) refl (w.of_unit o x h).is_class e in
      let a : AreFramesOf (w.of_unit o x h).class (Names c) None (t.0 ∷ t.1) = subst (AreFramesOf (w.of_unit o x h).class (Names c) None) t.2 (w.of_unit o x h).frames in
      receiver_at c t.0 (slice_get (code_of (Some (w.of_unit o x h).class) t.0.method) t.0.at) b (first_operands (w.of_unit o x h).class (Names c) None t.0 t.1 a) t.3

  has_wait : (c : Config Placed) (b : ℕ) (y : Placed) (k : ℕ) (v : Value) → IsOfCode u c → object_of c b ≡ Some y → (coded u).kind b y ≡ K.Return k v
      → (x : Placed) × (m : ℕ) × (object_of c k ≡ Some x) × ((coded u).kind k x ≡ K.Waits b m)
  has_wait c b y k v w h e =
      let t = by_frames goes_back y (w.of_unit b y h).class k (λ b m. refl) refl (w.of_unit b y h).is_class (ap goes_back e) in
      let r = return_at t.0 (slice_get (code_of (Some (w.of_unit b y h).class) t.0.method) t.0.at) k t.3 in
      let first : is_for k t.0.serves ≡ true = ap (is_for k) r.1 ∙ equals k in
      let here : methods_for (slice_get u.classes y.object.class) k (t.0 ∷ t.1) ≡ number_in (slice_get u.classes y.object.class) t.0.method ∷ methods_for (slice_get u.classes y.object.class) k t.1 = rw first refl in
      let s = w.served k b _ _ y h (ap (methods_for (slice_get u.classes y.object.class) k) t.2 ∙ here) in
      (s.0, number_in (slice_get u.classes y.object.class) t.0.method, s.1, ap (λ q. unless_served q (kind_of (code_kind u s.0.object))) {x = s.0.served} s.2)

  -- All laws of a lawful language, where each label keeps what is kept.
  module _ (kept : (c d : Config Placed) (lab : Label) → IsOfCode u c → move (coded u) c lab ≡ Some d → IsOfCode u d) where
    pub lawful_where_kept : Lawful (coded u) (IsOfCode u)
    lawful_where_kept = record {
      sorted = λ c w. w.in_order;
      kept = kept;
      fault_kind = λ c o x e w i j. w.fault o x e i j;
      can_make = can_make;
      can_call = λ c o x b m args w i j. let t = receiver c o x b w i (ap goes_to j) in can_serve c b m args t.0 w t.1;
      can_send = λ c o x b m args w i j. let t = receiver c o x b w i (ap goes_to j) in can_serve c b m args t.0 w t.1;
      can_take = can_take;
      has_wait = has_wait;
      given_name = λ c o x k n w i j free. given o x (V.Ref n);
      given_back = λ c b o m y x v w i j i' j'. given o x v;
      waiting = λ c o x b m args w i j. refl;
    }
