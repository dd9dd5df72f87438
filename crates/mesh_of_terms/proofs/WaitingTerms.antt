-- A term begins to wait only if its call is answered.
use Rattle.std.proofs.Common.{◌≡◌, ◌≢◌, ◌⊎◌, inl, inr, refl, sym, ap, subst, ◌∙◌, IsTrue, ℕ, zero, suc, ◌==◌, List, [], ◌∷◌, length, Option, Some, None, is_none, is_some, true, false, not, ◌&&◌, slice_get}
use Rattle.run_types.specs.declared.types.Value.{Value}
use Rattle.run_types.specs.declared.types.Value.TheVariants as V
use Rattle.run_types.specs.declared.types.Item.{Item}
use Rattle.run_types.specs.declared.types.Error.{Error}
use Rattle.run_types.specs.declared.types.Label.{Label}
use Rattle.run_types.specs.declared.types.Label.TheVariants as L
use Rattle.run_types.specs.declared.types.Event.{Event}
use Rattle.run_types.specs.declared.types.Placement.{Placement}
use Rattle.pool_syntax.specs.Terms as T
use Rattle.pool_syntax.specs.Terms.{ClassTree, MethodTree, Statements, ProgramTree}
use Rattle.pool_syntax.specs.Classes.{class_of}
use Rattle.pool_syntax.specs.Typing.{Scope, faults}
use Rattle.run_types.specs.Values.{is_same, is_true}
use Rattle.pool_relation.specs.Reducible.{Choice, AsExpression, AsStatements}
use Rattle.pool_relation.specs.Action as A
use Rattle.pool_relation.specs.Action.{Object, Action, action, method_of}
use Rattle.pool_relation.specs.Configuration as C
use Rattle.pool_relation.specs.Configuration.{Configuration}
use Rattle.pool_relation.specs.Transition as X
use Rattle.pool_relation.specs.Transition.{Offer, transition, refilled, running, local_step, offer, new_object, last_class}
use Rattle.pool_syntax.specs.Written.{is_written}
use Rattle.pool_relation.specs.Typed.{class_at, Typed}
use Rattle.pool_relation.proofs.Laws.{Nothing, Methods, TypedStatements, TypedAction, FitsAt, Invariant, place, classes, invariant_of, is_waits, does_not_wait, object_typed_at, running_is, new_object_typed, nothing_below, statements_weaker, at, TypedChoices, offers, first_fits, taken_fit, serving_typed, running_scope, FitValues, last_first}
use Rattle.run_types.specs.Same.{are_same}
use Rattle.mesh_semantics.specs.Kind as K
use Rattle.mesh_semantics.specs.Config.{Config, object_of}
use Rattle.mesh_semantics.specs.Sound.{is_wait}
use Rattle.mesh_semantics.specs.Waits.{IsAnswer, Waits}
use Rattle.mesh_semantics.specs.Lawful.{Lawful}
use Rattle.mesh_semantics.specs.FitFor.{FitFor}
use Rattle.run_types.specs.Asks.{EachAnswersPost}
use Rattle.mesh_semantics.specs.Delay.{no_delay, no_delay_on_wires}
use Rattle.mesh_semantics.specs.Record.{start, record_at}
use Rattle.mesh_semantics.specs.RecordOf.{record_of, record_on_wires}
use Rattle.run_types.proofs.Laws.{first, second, equal, decide, same_some, given_by, required, same_values, same_value, find_put_same, find_put_other}
use Rattle.mesh_semantics.proofs.Laws.{fit_of, each_answers_post, each_answers_post_on_wires}
use Rattle.mesh_of_terms.specs.Terms.{kind_of, terms, plain}
use Rattle.mesh_of_terms.specs.OneEvent.{as_plain}
use Rattle.mesh_of_terms.specs.RunOf.{TypedTerms}
use Rattle.mesh_of_terms.proofs.Instance.{move_is}
use Rattle.mesh_of_terms.proofs.LawfulTerms.{waits_is, lawful}
use Rattle.mesh_of_terms.proofs.StartAndEvents.{start_is_sound}

-- an object that is not at a wait
abbrev NotWaiting : ProgramTree → ℕ → Object → Type 0
NotWaiting p o y = (b m : ℕ) → action p o y ≢ A.Waits b m

-- where an object that does not wait is put
put_back : (p : ProgramTree) (c : Configuration) (q : ℕ) (y : Object) (o b m : ℕ) (x : Object) → NotWaiting p q y → C.object_of (C.put_object c q y) o ≡ Some x → action p o x ≡ A.Waits b m
    → C.object_of c o ≡ Some x
put_back p c q y o b m x n h w = by (decide o q)
  where
    by : (o ≡ q) ⊎ (o ≢ q) → C.object_of c o ≡ Some x
    by (inr e) = sym (find_put_other o q y c.objects e) ∙ h
    by (inl e) =
        let same : y ≡ x = same_some (sym (find_put_same q y c.objects) ∙ ap (C.object_of (C.put_object c q y)) (sym e) ∙ h) in
        absurd (n b m (ap (action p q) same ∙ ap (λ k. action p k x) (sym e) ∙ w))

not_at_wait : (a : Action) → is_waits a ≡ false → (b m : ℕ) → a ≢ A.Waits b m
not_at_wait a h b m e = let z : false ≡ true = sym h ∙ ap is_waits e in cc

not_kind : (a : Action) → is_wait (kind_of a) ≡ false → (b m : ℕ) → a ≢ A.Waits b m
not_kind a h b m e = let z : false ≡ true = sym h ∙ ap (λ k. is_wait (kind_of k)) e in cc

module _ (p : ProgramTree) (none : faults p ≡ []) (written : IsTrue (is_written p)) where
  module _ (c : Config Object) (t : Typed p (plain c)) where
    g : Invariant p (plain c)
    g = invariant_of p (plain c) t

    typed_at : (o : ℕ) (x : Object) → object_of c o ≡ Some x → TypedAction p (classes (plain c)) x (action p o x)
    typed_at o x h = object_typed_at p none written (plain c) o x (invariant_of p (plain c) t) h

    steps_on : (o : ℕ) (x : Object) (ss : Statements) (vars : T.Store) → TypedStatements Methods (place p (classes (plain c)) x) ss → NotWaiting p o (record x { term = ss; vars = vars })
    steps_on o x ss vars d = does_not_wait p (classes (plain c)) o (record x { term = ss; vars = vars }) d

    local_waits : (o : ℕ) (x y : Object) → object_of c o ≡ Some x → local_step x (action p o x) ≡ Some y → NotWaiting p o y
    local_waits o x y h e = by (action p o x) (typed_at o x h) e
      where
        by : (k : Action) → TypedAction p (classes (plain c)) x k → local_step x k ≡ Some y → NotWaiting p o y
        by (A.Local term vars) d i = subst (NotWaiting p o) (same_some i) (steps_on o x term vars d.0.0)
        by _ d i = absurd (cc)

    post_waits : (o b m : ℕ) (args : List Value) (x : Object) → object_of c o ≡ Some x → IsTrue (X.posts (action p o x) b m args) → NotWaiting p o (X.done x)
    post_waits o b m args x h e = by (action p o x) (typed_at o x h) e
      where
        by : (k : Action) → TypedAction p (classes (plain c)) x k → IsTrue (X.posts k b m args) → NotWaiting p o (X.done x)
        by (A.Async r n vs) d i = does_not_wait p (classes (plain c)) o (X.done x) d.1.0
        by _ d i = absurd (cc)

    write_waits : (o : ℕ) (item : Item) (x : Object) → object_of c o ≡ Some x → IsTrue (X.writes (action p o x) item) → NotWaiting p o (X.done x)
    write_waits o item x h e = by (action p o x) (typed_at o x h) e
      where
        by : (k : Action) → TypedAction p (classes (plain c)) x k → IsTrue (X.writes k item) → NotWaiting p o (X.done x)
        by (A.Write j) d i = does_not_wait p (classes (plain c)) o (X.done x) d.0
        by _ d i = absurd (cc)

    fault_waits : (o : ℕ) (f : Error) (x : Object) → IsTrue (X.fails (action p o x) f) → NotWaiting p o (record x { fault = Some f })
    fault_waits o f x e = by (action p o x) e refl
      where
        by : (k : Action) → IsTrue (X.fails k f) → action p o x ≡ k → NotWaiting p o (record x { fault = Some f })
        by (A.Fault j) i same = not_at_wait (action p o x) (ap is_waits same)
        by _ i same = absurd (cc)

    returned_waits : (b k : ℕ) (v : Value) (y : Object) → object_of c b ≡ Some y → IsTrue (X.returns (action p b y) k v) → NotWaiting p b (X.returned y) × (action p b y ≡ A.Return k v)
    returned_waits b k v y h e = by (action p b y) (typed_at b y h) e
      where
        by : (j : Action) → TypedAction p (classes (plain c)) y j → IsTrue (X.returns j k v) → NotWaiting p b (X.returned y) × (j ≡ A.Return k v)
        by (A.Return k' w) d i =
            let e : k' ≡ k = equal k' k (first (k' == k) (is_same w v) i) in
            let f : w ≡ v = same_value w v (second (k' == k) (is_same w v) i) in
            (does_not_wait p (classes (plain c)) b (X.returned y) d.2, cc)
        by _ d i = absurd (cc)

    waiting_is : (a : Action) (b : ℕ) → IsTrue (X.waits_on a b) → (m : ℕ) × (a ≡ A.Waits b m)
    waiting_is (A.Waits r m) b h = (m, ap (λ j. A.Waits j m) (equal r b h))
    waiting_is _ b h = absurd (cc)

    making_is : (a : Action) (k : ℕ) → IsTrue (X.makes a k) → a ≡ A.New k
    making_is (A.New m) k h = ap A.New (equal m k h)
    making_is _ k h = absurd (cc)

    none_there : {Z : Type 0} (o : Option Z) → IsTrue (is_none o) → o ≡ None
    none_there None h = refl
    none_there (Some x) h = absurd (cc)

    calling_is : (k : Action) (r n : ℕ) (vs : List Value) → IsTrue (X.calls k r n vs) → k ≡ A.Send r n vs
    calling_is (A.Send r' n' vs') r n vs h =
        let x = first (r' == r && n' == n) (are_same vs' vs) h in
        let e : r' ≡ r = equal r' r (first (r' == r) (n' == n) x) in
        let f : n' ≡ n = equal n' n (second (r' == r) (n' == n) x) in
        let i : vs' ≡ vs = same_values vs' vs (second (r' == r && n' == n) _ h) in
        cc
    calling_is _ r n vs h = absurd (cc)

    work_typed : (s : Scope) (cs : List Choice) (i : ℕ) (ss : Statements) → TypedChoices s cs → X.plain_choice (slice_get cs i) ≡ Some ss → TypedStatements Nothing s ss
    work_typed s [] i ss d e = absurd (cc)
    work_typed s (k ∷ cs) zero ss d e =
        let a = required (is_true k.guard && is_none k.answer) (Some k.work) ss e in
        subst (TypedStatements Nothing s) (same_some a.1) d.3
    work_typed s (k ∷ cs) (suc i) ss d e = work_typed s cs i ss d.4 e

    picked_waits : (o n : ℕ) (x : Object) (ss : Statements) → object_of c o ≡ Some x → X.picked (action p o x) n ≡ Some ss → NotWaiting p o (refilled x (AsStatements ss))
    picked_waits o n x ss h e = by (action p o x) n (typed_at o x h) e
      where
        by : (k : Action) (n : ℕ) → TypedAction p (classes (plain c)) x k → X.picked k n ≡ Some ss → NotWaiting p o (refilled x (AsStatements ss))
        by (A.Select cs) (suc i) d q =
            let w = work_typed (at (place p (classes (plain c)) x) d.0) cs i ss d.1 q in
            does_not_wait p (classes (plain c)) o (refilled x (AsStatements ss)) (d.2.0 ss (statements_weaker Nothing Methods (at (place p (classes (plain c)) x) d.0) ss (nothing_below Methods) w))
        by (A.Select cs) zero d q = absurd (cc)
        by _ n d q = absurd (cc)

    -- who begins to serve a method
    served_waits : (b m : ℕ) (k : Option ℕ) (args : List Value) (y : Object) (v : Offer) (t : MethodTree) → object_of c b ≡ Some y → offer (action p b y) m ≡ Some v
        → method_of p y.class m (length args) ≡ Some t → FitValues (place p (classes (plain c)) y) t.params args → NotWaiting p b (X.serving y t k args v.work)
    served_waits b m k args y v t h off known fit =
        let o = offers p none written (classes (plain c)) y (action p b y) m v (typed_at b y h) off in
        does_not_wait p (classes (plain c)) b (X.serving y t k args v.work) (serving_typed p none written (classes (plain c)) y o.0 m t k args v.work known fit o.1 o.2).0

    -- the arguments of a call that is answered
    called_fit : (o b m : ℕ) (args : List Value) (x y : Object) (t : MethodTree) → object_of c o ≡ Some x → object_of c b ≡ Some y → action p o x ≡ A.Send b m args
        → method_of p y.class m (length args) ≡ Some t
        → FitValues (place p (classes (plain c)) y) t.params args × ((q : ℕ) → action p q (refilled x (AsExpression (T.Wait b m))) ≡ A.Waits b m)
    called_fit o b m args x y t h i a known =
        let sends : TypedAction p (classes (plain c)) x (A.Send b m args) = subst (TypedAction p (classes (plain c)) x) a (typed_at o x h) in
        let can = sends.0 in
        let its_class : can.0 ≡ y.class = same_some (sym can.2 ∙ ap class_at i) in
        let its_method : can.1 ≡ t = same_some (sym (subst (λ (k : ℕ). method_of p k m (length args) ≡ Some can.1) its_class can.3) ∙ known) in
        (subst (λ (n : MethodTree). FitValues (place p (classes (plain c)) y) n.params args) its_method (subst (λ (k : ℕ). FitValues (running_scope p k (classes (plain c))) can.1.params args) its_class can.4), sends.3)

    law : Lawful (terms p) (λ c. Typed p (plain c))
    law = lawful p none written

    -- by the label
    module _ (d : Configuration) (o b m : ℕ) (x : Object) (there : C.object_of d o ≡ Some x) (waits : action p o x ≡ A.Waits b m) where
      -- where one object was put
      one : (q : ℕ) (y : Object) → NotWaiting p q y → Some (C.put_object (plain c) q y) ≡ Some d → object_of c o ≡ Some x
      one q y n e = put_back p (plain c) q y o b m x n (ap (λ z. C.object_of z o) (same_some e) ∙ there) waits

      -- and where two were
      two : (q r : ℕ) (y z : Object) → NotWaiting p q y → NotWaiting p r z → Some (C.put_object (C.put_object (plain c) q y) r z) ≡ Some d → object_of c o ≡ Some x
      two q r y z n k e = put_back p (plain c) q y o b m x n (put_back p (C.put_object (plain c) q y) r z o b m x k (ap (λ z. C.object_of z o) (same_some e) ∙ there) waits) waits

      begun : (lab : Label) → transition p (plain c) lab ≡ Some d → (object_of c o ≡ Some x) ⊎ IsAnswer lab b o
      begun (L.Local q) e =
          let a = given_by (running (plain c) q) _ d e in
          let r = running_is (plain c) q a.0 a.1 in
          let s = given_by (local_step a.0 (action p q a.0)) _ d a.2 in
          inl (one q s.0 (local_waits q a.0 s.0 r.0 s.1) s.2)
      begun (L.New q n k) e =
          let a = given_by (running (plain c) q) _ d e in
          let r = running_is (plain c) q a.0 a.1 in
          let u = required (X.makes (action p q a.0) k.0 && is_none (object_of c n)) _ d a.2 in
          let s = given_by (class_of p k.0) _ d u.1 in
          let is = making_is (action p q a.0) k.0 (first _ (is_none (object_of c n)) u.0) in
          let free = none_there (object_of c n) (second (X.makes (action p q a.0) k.0) _ u.0) in
          let still = not_kind (action p q (X.given a.0 (V.Ref n))) ((lawful p none written).given_name c q a.0 k.0 n t r.0 (ap kind_of is) free).2 in
          inl (two q n (X.given a.0 (V.Ref n)) (new_object s.0) still (does_not_wait p (classes (plain c)) n (new_object s.0) (new_object_typed p none written (classes (plain c)) k.0 s.0 s.1).1) s.2)
      begun (L.Answer k q n args) e =
          let a = given_by (running (plain c) q) _ d e in
          let r = running_is (plain c) q a.0 a.1 in
          let i = given_by (running (plain c) k) _ d a.2 in
          let s = running_is (plain c) k i.0 i.1 in
          let u = required (X.calls (action p q a.0) k n.0 args) _ d i.2 in
          let v = given_by (offer (action p k i.0) n.0) _ d u.1 in
          let f = required (not (X.has_message v.0.names (C.messages_of (plain c) q k))) _ d v.2 in
          let w = given_by (method_of p i.0.class n.0 (length args)) _ d f.1 in
          let act = calling_is (action p q a.0) k n.0 args u.0 in
          let fit = called_fit q k n.0 args a.0 i.0 w.0 r.0 s.0 act w.1 in
          let y : Object = refilled a.0 (AsExpression (T.Wait k n.0)) in
          let z : Object = X.serving i.0 w.0 (Some q) args v.0.work in
          let before : C.object_of (C.put_object (plain c) q (refilled a.0 (AsExpression (T.Wait k n.0)))) o ≡ Some x =
          put_back p (C.put_object (plain c) q y) k z o b m x (served_waits k n.0 (Some q) args i.0 v.0 w.0 s.0 v.1 w.1 fit.0) (ap (λ z. C.object_of z o) (same_some w.2) ∙ there) waits in
          on y (decide o q) before fit.1
        where
          on : (y : Object) → (o ≡ q) ⊎ (o ≢ q) → C.object_of (C.put_object (plain c) q y) o ≡ Some x → ((r : ℕ) → action p r y ≡ A.Waits k n.0) → (object_of c o ≡ Some x) ⊎ IsAnswer (L.Answer k q n args) b o
          on y (inr f) before its = inl (sym (find_put_other o q y c.objects f) ∙ before)
          on y (inl f) before its =
              let same : y ≡ x = same_some (sym (find_put_same q y c.objects) ∙ ap (C.object_of (C.put_object (plain c) q y)) (sym f) ∙ before) in
              let both : A.Waits k n.0 ≡ A.Waits b m = sym (its o) ∙ ap (action p o) same ∙ waits in
              inr (let z : k ≡ b = cc in z, sym f)
      begun (L.Return k q v) e =
          let i = given_by (running (plain c) k) _ d e in
          let s = running_is (plain c) k i.0 i.1 in
          let a = given_by (running (plain c) q) _ d i.2 in
          let r = running_is (plain c) q a.0 a.1 in
          let u = required (X.returns (action p k i.0) q v && X.waits_on (action p q a.0) k) _ d a.2 in
          let back = returned_waits k q v i.0 s.0 (first _ (X.waits_on (action p q a.0) k) u.0) in
          let is = waiting_is (action p q a.0) k (second (X.returns (action p k i.0) q v) _ u.0) in
          let still = not_kind (action p q (X.given a.0 v)) ((lawful p none written).given_back c k q is.0 i.0 a.0 v t s.0 (ap kind_of back.1) r.0 (ap kind_of is.1)).2 in
          inl (two k q (X.returned i.0) (X.given a.0 v) back.0 still u.1)
      begun (L.Send q k n args) e =
          let a = given_by (running (plain c) q) _ d e in
          let r = running_is (plain c) q a.0 a.1 in
          let u = required (X.posts (action p q a.0) k n.0 args && is_some (object_of c k)) _ d a.2 in
          inl (put_back p (plain c) q (X.done a.0) o b m x (post_waits q k n.0 args a.0 r.0 (first _ (is_some (object_of c k)) u.0)) (ap (λ z. C.object_of z o) (same_some u.1) ∙ there) waits)
      begun (L.Take k q n args) e =
          let a = given_by (running (plain c) k) _ d e in
          let r = running_is (plain c) k a.0 a.1 in
          let v = given_by (offer (action p k a.0) n.0) _ d a.2 in
          let i = given_by (X.first_message v.0.names (C.messages_of (plain c) q k)) _ d v.2 in
          let u = required (i.0.method == n.0 && are_same i.0.args args) _ d i.2 in
          let w = given_by (method_of p a.0.class n.0 (length args)) _ d u.1 in
          let fit = first_fits p none written (FitsAt p (plain c) k) v.0.names (C.messages_of (plain c) q k) i.0 ((invariant_of p (plain c) t).messages q k) i.1 in
          let its = taken_fit p none written (plain c) k a.0 w.0 i.0 n.0 args r.0 fit (equal i.0.method n.0 (first _ (are_same i.0.args args) u.0)) (same_values i.0.args args (second (i.0.method == n.0) _ u.0)) w.1 in
          inl (put_back p (plain c) k (X.serving a.0 w.0 None args v.0.work) o b m x (served_waits k n.0 None args a.0 v.0 w.0 r.0 v.1 w.1 its) (ap (λ z. C.object_of z o) (same_some w.2) ∙ there) waits)
      begun (L.Write q item) e =
          let a = given_by (running (plain c) q) _ d e in
          let r = running_is (plain c) q a.0 a.1 in
          let u = required (X.writes (action p q a.0) item) _ d a.2 in
          inl (one q (X.done a.0) (write_waits q item a.0 r.0 u.0) u.1)
      begun (L.Pick q i) e =
          let a = given_by (running (plain c) q) _ d e in
          let r = running_is (plain c) q a.0 a.1 in
          let s = given_by (X.picked (action p q a.0) i) _ d a.2 in
          inl (one q (refilled a.0 (AsStatements s.0)) (picked_waits q i a.0 s.0 r.0 s.1) s.2)
      begun (L.Fault q f) e =
          let a = given_by (running (plain c) q) _ d e in
          let r = running_is (plain c) q a.0 a.1 in
          let u = required (X.fails (action p q a.0) f) _ d a.2 in
          inl (one q (record a.0 { fault = Some f }) (fault_waits q f a.0 u.0) u.1)

  -- a new object of the last class
  root_waits : (o b m : ℕ) (x : Object) → (terms p).root ≡ Some x → kind_of (action p o x) ≢ K.Waits b m
  root_waits o b m x h e =
      let a = given_by (last_class p) (λ k. Some (new_object k)) x h in
      let body = (new_object_typed p none written (λ n. None) a.0.name.name.0 a.0 (last_first p [] p a.0 none a.1).0).1 in
      let same : new_object a.0 ≡ x = same_some a.2 in
      does_not_wait p (λ n. None) o (new_object a.0) body b m (ap (action p o) same ∙ waits_is (action p o x) b m e)

  pub waiting : Waits (terms p) (TypedTerms p)
  waiting = record {
    begun = λ c d lab o b m x t e h w. begun c t (plain d) o b m x h (waits_is (action p o x) b m w) lab (sym (move_is p c lab) ∙ ap as_plain e);
    root = root_waits;
  }

  pub answers : (l : Placement) → FitFor (terms p) l → (q : ℕ) (es : List Event) → EachAnswersPost (record_of (terms p) l q es).lines
  answers l fit q es = by (start (terms p) l) refl
    where
      by : (z : Option (Config Object)) → start (terms p) l ≡ z → EachAnswersPost (record_at (terms p) l q (start (terms p) l) no_delay es).lines
      by None e = rw e (λ i n x h k. absurd (cc))
      by (Some c) e = each_answers_post (terms p) (TypedTerms p) (lawful p none written) waiting l (fit_of (terms p) l fit) q es c e (start_is_sound p none written l fit c e)

  pub answers_on_wires : (l : Placement) → FitFor (terms p) l → (q : ℕ) (es : List Event) → EachAnswersPost (record_on_wires (terms p) l q es).lines
  answers_on_wires l fit q es = by (start (terms p) l) refl
    where
      by : (z : Option (Config Object)) → start (terms p) l ≡ z → EachAnswersPost (record_at (terms p) l q (start (terms p) l) no_delay_on_wires es).lines
      by None e = rw e (λ i n x h k. absurd (cc))
      by (Some c) e = each_answers_post_on_wires (terms p) (TypedTerms p) (lawful p none written) waiting l (fit_of (terms p) l fit) q es c e (start_is_sound p none written l fit c e)
