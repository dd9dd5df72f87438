-- The code of a program simulates its terms, as languages of the placed machine.
use Rattle.std.proofs.Common.{◌≡◌, refl, sym, ap, subst, ◌∙◌, IsTrue, ℕ, suc, ◌==◌, List, [], ◌∷◌, length, Option, Some, None, Bool, true, false, arith}
use Rattle.std.specs.Prelude.{slice_get}
use Rattle.run_types.specs.declared.types.Value.{Value}
use Rattle.run_types.specs.declared.types.Value.TheVariants as V
use Rattle.run_types.specs.declared.types.Error.{Error}
use Rattle.run_types.specs.declared.types.Item.{Item}
use Rattle.pool_syntax.specs.Terms as T
use Rattle.pool_syntax.specs.Terms.{Store, Statements, MethodTree, ClassTree, ProgramTree}
use Rattle.pool_syntax.specs.Classes.{class_of}
use Rattle.pool_syntax.specs.Typing.{faults}
use Rattle.pool_relation.specs.Reducible.{AsExpression, AsStatements}
use Rattle.pool_relation.specs.Action as A
use Rattle.pool_relation.specs.Action.{Object, Action, action, method_of}
use Rattle.pool_relation.specs.Transition as X
use Rattle.pool_relation.specs.Transition.{refilled, new_object, last_class}
use Rattle.run_types.specs.Partial.{◌>>=◌, ◌>>◌, require}
use Rattle.pool_relation.specs.UnderWay.{frames_of}
use Rattle.pool_syntax.specs.Written.{is_written}
use Rattle.pool_relation.specs.Typed.{Typed}
use Rattle.run_types.proofs.Laws.{same_some}
use Rattle.mesh_semantics.proofs.Laws.{there}
use Rattle.pool_relation.proofs.Laws.{classes, FitValues, place, new_object_typed, last_first}
use Rattle.run_types.specs.declared.frames.CodeObject.{CodeObject}
use Rattle.run_types.specs.declared.frames.Frame.{Frame}
use Rattle.code_semantics.specs.declared.unit.Unit.{Unit as Code}
use Rattle.code_semantics.specs.Kinds as C
use Rattle.code_semantics.specs.Kinds.{code_kind}
use Rattle.code_semantics.specs.Step.{class_from, placed_at, code_made, code_stepped, code_given, code_gone_on, code_picked, code_serving}
use Rattle.pool_compile.specs.Code.{name, class_code, code}
use Rattle.pool_compile.specs.StandsFor.{IsServing}
use Rattle.pool_compile.specs.Follows.{Represents, Follows, SameKind}
use Rattle.pool_compile.proofs.Laws.{follows, class_found, stands_new, frame_count}
use Rattle.pool_compile.specs.TextPrograms.{is_text_program}
use Rattle.mesh_semantics.specs.Kind as K
use Rattle.mesh_semantics.specs.Kind.{Kind, is_local, makes, calls, posts, returns, waits_on, writes, fails, alternatives}
use Rattle.mesh_semantics.specs.Config.{Config, object_of}
use Rattle.mesh_semantics.specs.Moves.{running, offered, numbered, can_pick}
use Rattle.mesh_semantics.specs.Sound.{is_wait}
use Rattle.mesh_semantics.specs.Simulates.{Both, IsCalled, Simulates}
use Rattle.mesh_of_terms.specs.RunOf.{TypedTerms}
use Rattle.mesh_of_terms.specs.Terms as M
use Rattle.mesh_of_terms.specs.Terms.{terms, plain, class_names, after_local, work_of}
use Rattle.mesh_of_terms.proofs.Laws.{Offering, Nothing, Something, offering, picked_is, lawful}
use Rattle.mesh_of_code.specs.Coded as D
use Rattle.mesh_of_code.specs.Coded.{Placed, placed, unless_served, under_way, class_number, class_numbers, last_code, serves_for, coded}
use Rattle.compiler_correctness.specs.Matches.{Matches}
use Rattle.compiler_correctness.proofs.SameKinds.{calm, same_kind, fault_kind, free, local_is, makes_is, calls_is, posts_is, returns_is, waits_at, writes_is, fails_is, work_there}
use Rattle.compiler_correctness.proofs.WaitFreeNotStuck.{calm_at, calm_term, calm_with, calm_named, calm_picked, calm_serving, is_next, here_not_stuck, faulted_not_stuck}
use Rattle.compiler_correctness.proofs.ArgumentsFit.{fits}

names_same : (p : ProgramTree) → class_names p ≡ class_numbers (code p)
names_same [] = refl
names_same (k ∷ ks) = ap (λ l. k.name.name.0 ∷ l) (names_same ks)

last_same : (p : ProgramTree) (k : ClassTree) → last_class p ≡ Some k → last_code (code p) ≡ Some (class_code k)
last_same [] k h = absurd (cc)
last_same (l ∷ []) k h = let s : l ≡ k = same_some h in ap (λ z. Some (class_code z)) s
last_same (l ∷ m ∷ ks) k h = last_same (m ∷ ks) k h

last_none : (p : ProgramTree) → last_class p ≡ None → last_code (code p) ≡ None
last_none [] h = refl
last_none (l ∷ []) h = absurd (cc)
last_none (l ∷ m ∷ ks) h = last_none (m ∷ ks) h

absent : (n c : ℕ) (p : ProgramTree) → class_of p c ≡ None → class_from n (code p) (name c) ≡ None
absent n c [] h = refl
absent n c (k ∷ ks) h = by (k.name.name.0 == c) refl (absent (suc n) c ks)
  where
    by : (b : Bool) → (k.name.name.0 == c) ≡ b → (class_of ks c ≡ None → class_from (suc n) (code ks) (name c) ≡ None) → class_from n (code (k ∷ ks)) (name c) ≡ None
    by true e rest = absurd (let q : Some k ≡ None = rw e at h in cc)
    by false e rest = rw e (rest (rw e at h))

frames_are : (n : ℕ) (fs : List Frame) → length fs ≡ suc n → n ≡ under_way fs
frames_are n [] h = absurd (grind (arith, h))
frames_are n (f ∷ fs) h = grind (arith, h)

serving_is : (caller : Option ℕ) → IsServing caller (serves_for caller)
serving_is None = refl
serving_is (Some k) = (0, refl)

module _ (p : ProgramTree) (u : Code) (none : faults p ≡ []) (written : IsTrue (is_written p)) (text : is_text_program p ≡ true) (unit : u.classes ≡ code p) where
  abbrev W : Config Object → Type 0
  W c = Typed p (plain c)

  abbrev R : ℕ → Object → Placed → Type 0
  R = Matches p u

  after : (o : ℕ) (x : Object) (y : CodeObject) → Represents p u x y → Follows p u o x y
  after o x y s = follows p u o x y text unit s.0 s.1

  -- one that is calm, and whose call is not served
  now : (o : ℕ) (x : Object) (y : Placed) → Represents p u x y.object → x.fault ≡ y.fault → y.served ≡ None → calm (action p o x) ≡ true → R o x y
  now o x y s f n k = record {
    stands = s;
    fault = f;
    kind = same_kind (action p o x) (code_kind u y.object) (after o x y.object s).kind k ∙ ap (λ a. unless_served a (D.kind_of (code_kind u y.object))) (sym n);
  }

  unserved : (o : ℕ) (x : Object) (y : Placed) → R o x y → (a : Action) → action p o x ≡ a → is_wait (M.kind_of a) ≡ false → y.served ≡ None
  unserved o x y r a e h = free (M.kind_of (action p o x)) y.served (D.kind_of (code_kind u y.object)) (ap (λ b. is_wait (M.kind_of b)) e ∙ h) r.kind

  -- new objects

  new_one : (o c : ℕ) (k : ClassTree) → class_of p c ≡ Some k → (y : CodeObject) × (code_made u (name c) ≡ Some y) × R o (new_object k) (placed y)
  new_one o c k e =
      let s = stands_new p u c k text unit e in
      let f = new_object_typed p none written (λ n. Some k.name.name.0) c k e in
      (s.0, s.1, now o (new_object k) (placed s.0) s.2 refl refl (calm_at p none written (λ n. Some k.name.name.0) o (new_object k) refl f.0 f.1))

  both_new : (o : ℕ) (a : Option CodeObject) (k : ClassTree) (y : CodeObject) → a ≡ Some y → R o (new_object k) (placed y) → Both (R o) (Some (new_object k)) (a >>= λ z. Some (placed z))
  both_new o a k y e r = rw e r

  made : (o c : ℕ) → Both (R o) (class_of p c >>= λ k. Some (new_object k)) (code_made u (name c) >>= λ y. Some (placed y))
  made o c = by (class_of p c) refl
    where
      by : (z : Option ClassTree) → class_of p c ≡ z → Both (R o) (class_of p c >>= λ k. Some (new_object k)) (code_made u (name c) >>= λ y. Some (placed y))
      by None e =
          let q : code_made u (name c) ≡ None = ap (λ ks. placed_at u (class_from 0 ks (name c))) unit ∙ ap (placed_at u) (absent 0 c p e) in
          rw (e, q) tt
      by (Some k) e = let n = new_one o c k e in rw e (both_new o (code_made u (name c)) k n.0 n.1 n.2)

  root : (o : ℕ) → Both (R o) (last_class p >>= λ k. Some (new_object k)) (last_code u.classes >>= λ k. code_made u k.name >>= λ y. Some (placed y))
  root o = by (last_class p) refl
    where
      by : (z : Option ClassTree) → last_class p ≡ z → Both (R o) (last_class p >>= λ k. Some (new_object k)) (last_code u.classes >>= λ k. code_made u k.name >>= λ y. Some (placed y))
      by None e = let q : last_code u.classes ≡ None = ap last_code unit ∙ last_none p e in rw (e, q) tt
      by (Some k) e =
          let q : last_code u.classes ≡ Some (class_code k) = ap last_code unit ∙ last_same p k e in
          let n = new_one o k.name.name.0 k (last_first p [] p k none e).0 in
          rw (e, q) (both_new o (code_made u (name k.name.name.0)) k n.0 n.1 n.2)

  module _ (c : Config Object) (o : ℕ) (x : Object) (y : Placed) (w : Typed p (plain c)) (i : running (terms p) c o ≡ Some x) (r : Matches p u o x y) where
    here : object_of c o ≡ Some x
    here = there (terms p) c o x i

    f : Follows p u o x y.object
    f = after o x y.object r.stands

    stepped : is_local (M.kind_of (action p o x)) ≡ true → R o (after_local x (action p o x)) (record y { object = code_stepped u o y.object })
    stepped h =
        let l = local_is (action p o x) h in
        let n = is_next p none written c o x w here (A.Local l.0 l.1) l.2 in
        subst (λ a. R o (after_local x a) (record y { object = code_stepped u o y.object })) (sym l.2)
        (now o (record x { term = l.0; vars = l.1 }) (record y { object = code_stepped u o y.object }) (f.local l.0 l.1 l.2) r.fault (unserved o x y r (A.Local l.0 l.1) l.2 refl)
        (calm_with p none written c o x w here l.0 l.1 n.0.0 n.1))

    named : (k n : ℕ) → object_of c n ≡ None → makes (M.kind_of (action p o x)) k ≡ true → R o (X.given x (V.Ref n)) (record y { object = code_given u y.object (V.Ref n); served = None })
    named k n e h =
        let a = makes_is (action p o x) k h in
        now o (X.given x (V.Ref n)) (record y { object = code_given u y.object (V.Ref n); served = None }) (f.made k (V.Ref n) a) r.fault refl (calm_named p none written c o x w here k n a e)

    given : (d : Config Object) (b : ℕ) (z : Object) (v : Value) → W d → running (terms p) c b ≡ Some z → object_of d o ≡ Some (X.given x v)
        → returns (M.kind_of (action p b z)) o v ≡ true → waits_on (M.kind_of (action p o x)) b ≡ true → R o (X.given x v) (record y { object = code_given u y.object v; served = None })
    given d b z v wd j at h g =
        let a = returns_is (action p b z) o v h in
        let q = waits_at (action p o x) b g in
        let back = (lawful p none written).given_back c b o q.0 z x v w (there (terms p) c b z j) (ap M.kind_of a) here (ap M.kind_of q.1) in
        now o (X.given x v) (record y { object = code_given u y.object v; served = None }) (f.resumed b q.0 v q.1) r.fault refl
        (quiet (action p o (X.given x v)) (here_not_stuck p none written d o (X.given x v) wd at) back.2)
      where
        quiet : (a : Action) → (a ≡ A.Stuck → ⊥) → is_wait (M.kind_of a) ≡ false → calm a ≡ true
        quiet A.Stuck s t = absurd (s refl)
        quiet (A.Waits b m) s t = absurd (let z : true ≡ false = t in cc)
        quiet A.Finished s t = refl
        quiet (A.Local term vars) s t = refl
        quiet (A.Fault e) s t = refl
        quiet (A.New c) s t = refl
        quiet (A.Send b m args) s t = refl
        quiet (A.Async b m args) s t = refl
        quiet (A.Write item) s t = refl
        quiet (A.Answer names) s t = refl
        quiet (A.Select cs) s t = refl
        quiet (A.Return k v) s t = refl

    waiting : (b m : ℕ) (args : List Value) → calls (M.kind_of (action p o x)) b m args ≡ true → R o (refilled x (AsExpression (T.Wait b m))) (record y { served = Some (b, m) })
    waiting b m args h =
        let a = calls_is (action p o x) b m args h in
        record { stands = f.held b m args a; fault = r.fault; kind = ap M.kind_of ((is_next p none written c o x w here (A.Send b m args) a).3 o) }

    sent : (b m : ℕ) (args : List Value) → posts (M.kind_of (action p o x)) b m args ≡ true → R o (X.done x) (record y { object = code_gone_on u y.object })
    sent b m args h =
        let a = posts_is (action p o x) b m args h in
        now o (X.done x) (record y { object = code_gone_on u y.object }) (f.posted b m args a) r.fault (unserved o x y r (A.Async b m args) a refl)
        (calm_term p none written c o x w here (X.done x).term (is_next p none written c o x w here (A.Async b m args) a).1.0)

    wrote : (item : Item) → writes (M.kind_of (action p o x)) item ≡ true → R o (X.done x) (record y { object = code_gone_on u y.object })
    wrote item h =
        let a = writes_is (action p o x) item h in
        now o (X.done x) (record y { object = code_gone_on u y.object }) (f.wrote a.0 a.1) r.fault (unserved o x y r (A.Write a.0) a.1 refl)
        (calm_term p none written c o x w here (X.done x).term (is_next p none written c o x w here (A.Write a.0) a.1).0)

    returned : (k : ℕ) (v : Value) → returns (M.kind_of (action p o x)) k v ≡ true → R o (X.returned x) (record y { object = code_gone_on u y.object })
    returned k v h =
        let a = returns_is (action p o x) k v h in
        now o (X.returned x) (record y { object = code_gone_on u y.object }) (f.returned k v a) r.fault (unserved o x y r (A.Return k v) a refl)
        (calm_term p none written c o x w here (X.returned x).term (is_next p none written c o x w here (A.Return k v) a).2)

    selects : (a : Action) (j : ℕ) (ss : Statements) → X.picked a j ≡ Some ss → is_wait (M.kind_of a) ≡ false
    selects (A.Select cs) j ss h = refl
    selects _ j ss h = absurd (cc)

    picked : (j : ℕ) → can_pick (numbered (alternatives (M.kind_of (action p o x))) j) ≡ true → R o (refilled x (AsStatements (work_of (action p o x) j))) (record y { object = code_picked u y.object j })
    picked j h =
        let a : X.picked (action p o x) j ≡ Some (work_of (action p o x) j) = picked_is (action p o x) j ∙ ap (λ b. require b >> Some (work_of (action p o x) j)) h in
        now o (refilled x (AsStatements (work_of (action p o x) j))) (record y { object = code_picked u y.object j }) (f.picks j (work_of (action p o x) j) a) r.fault
        (unserved o x y r (action p o x) refl (selects (action p o x) j (work_of (action p o x) j) a))
        (calm_picked p none written c o x w here j (work_of (action p o x) j) (action p o x) refl a)

    offers_no_wait : (a : Action) (j m : ℕ) (names : List ℕ) → offered 1 (alternatives (M.kind_of a)) m ≡ Some (j, names) → is_wait (M.kind_of a) ≡ false
    offers_no_wait (A.Answer ns) j m names h = refl
    offers_no_wait (A.Select cs) j m names h = refl
    offers_no_wait _ j m names h = absurd (cc)

    serving : (j m : ℕ) (names : List ℕ) (caller : Option ℕ) (args : List Value) → offered 1 (alternatives (M.kind_of (action p o x))) m ≡ Some (j, names) → IsCalled (terms p) c o m args
        → Both (R o) (method_of p x.class m (length args) >>= λ method. Some (X.serving x method caller args (work_of (action p o x) j)))
        (code_serving u y.object j (name m) args (serves_for caller) >>= λ z. Some (record y { object = z }))
    serving j m names caller args h called = by (offering (action p o x) m)
      where
        t : (t : MethodTree) × (method_of p x.class m (length args) ≡ Some t) × FitValues (place p (classes (plain c)) x) t.params args
        t = fits p none written c o x w here m args called

        z : (z : CodeObject) × (code_serving u y.object j (name m) args (serves_for caller) ≡ Some z) × Represents p u (X.serving x t.0 caller args (work_of (action p o x) j)) z
        z = f.serves j m (work_of (action p o x) j) t.0 args caller (serves_for caller) (work_there (action p o x) m j names h) t.1 (serving_is caller)

        done : calm (action p o (X.serving x t.0 caller args (work_of (action p o x) j))) ≡ true → Both (R o) (method_of p x.class m (length args) >>= λ method. Some (X.serving x method caller args (work_of (action p o x) j)))
            (code_serving u y.object j (name m) args (serves_for caller) >>= λ z. Some (record y { object = z }))
        done k = rw (t.1, z.1) (now o (X.serving x t.0 caller args (work_of (action p o x) j)) (record y { object = z.0 }) z.2 r.fault (unserved o x y r (action p o x) refl (offers_no_wait (action p o x) j m names h)) k)

        by : Offering (action p o x) m → Both (R o) (method_of p x.class m (length args) >>= λ method. Some (X.serving x method caller args (work_of (action p o x) j)))
            (code_serving u y.object j (name m) args (serves_for caller) >>= λ z. Some (record y { object = z }))
        by (Nothing e g) = absurd (let q : None ≡ Some (j, names) = sym e ∙ h in cc)
        by (Something j' v e g k) =
            let q = same_some (sym e ∙ h) in
            let same : j' ≡ j = ap (λ (a : ℕ × List ℕ). a.0) q in
            let work : v.work ≡ work_of (action p o x) j = sym k ∙ ap (work_of (action p o x)) same in
            done (subst (λ ss. calm (action p o (X.serving x t.0 caller args ss)) ≡ true) work (calm_serving p none written c o x w here m v t.0 caller args g t.1 t.2))

    faulted : (e : Error) → fails (M.kind_of (action p o x)) e ≡ true → R o (record x { fault = Some e }) (record y { fault = Some e })
    faulted e h =
        let a = fails_is (action p o x) e h in
        let s : Represents p u (record x { fault = Some e }) y.object = same_stands in
        let n = unserved o x y r (A.Fault e) a refl in
        let code : code_kind u y.object ≡ C.Fault e = subst (λ b. SameKind b (code_kind u y.object)) a f.kind in
        record {
          stands = s;
          fault = refl;
          kind = fault_kind (action p o (record x { fault = Some e })) e (code_kind u y.object) (after o (record x { fault = Some e }) y.object s).kind code (faulted_not_stuck p none written c o x w here (Some e))
              ∙ sym (ap (λ k. unless_served y.served (D.kind_of k)) code ∙ ap (λ b. unless_served b (K.Fault e)) n);
        }
      where
        same_stands : Represents p u (record x { fault = Some e }) y.object
        same_stands = let q = r.stands.0 in (
          record { tree = q.tree; is_class = q.is_class; class = q.class; vars = q.vars; names = q.names; at = q.at; frames = q.frames; end = q.end; halt = q.halt; term = q.term },
          r.stands.1,
        )

  class : (o : ℕ) (x : Object) (y : Placed) → R o x y → x.class ≡ class_number (slice_get u.classes y.object.class)
  class o x y r =
      let s = r.stands.0 in
      sym (ap (λ ks. class_number (slice_get ks y.object.class)) unit ∙ ap class_number s.class ∙ (class_found p 0 x.class s.tree s.is_class).3)

  pub simulates : Simulates (terms p) (coded u) (TypedTerms p) (Matches p u)
  simulates = record {
    classes = names_same p ∙ sym (ap class_numbers unit);
    class = class;
    root = root;
    kinds = λ o x y r. r.kind;
    faults = λ o x y r. r.fault;
    frames = λ o x y r. frames_are (frames_of x.term) y.object.frames (frame_count p x y.object r.stands.0);
    made = made;
    stepped = λ c o x y w i r h. stepped c o x y w i r h;
    named = λ c o x y k n w i e r h. named c o x y w i r k n e h;
    given = λ c d b o z x y v w wd j i at r h g. given c o x y w i r d b z v wd j at h g;
    waiting = λ c o x y b m args w i r h. waiting c o x y w i r b m args h;
    sent = λ c o x y b m args w i r h. sent c o x y w i r b m args h;
    wrote = λ c o x y item w i r h. wrote c o x y w i r item h;
    returned = λ c o x y k v w i r h. returned c o x y w i r k v h;
    picked = λ c o x y j w i r h. picked c o x y w i r j h;
    serving = λ c o x y j m names caller args w i r h called. serving c o x y w i r j m names caller args h called;
    faulted = λ c o x y e w i r h. faulted c o x y w i r e h;
  }
