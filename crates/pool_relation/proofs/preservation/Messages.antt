-- A send or a take of an asynchronous message keeps a configuration typed.
use Rattle.std.proofs.Common.{◌≡◌, refl, sym, ap, ◌∙◌, subst, IsTrue, ℕ, List, [], ◌∷◌, ◌++◌, length, Option, Some, None, is_some, All, Bool, true, false, ◌&&◌, ◌||◌, ◌==◌, append-nil, if◌then◌else◌, arith}
use Rattle.std.proofs.lemmas.List.Elements.{All-cons, All-nil, All-append, All-head, All-tail}
use Rattle.run_types.specs.declared.types.Value.{Value}
use Rattle.run_types.specs.declared.types.NameId.{NameId}
use Rattle.run_types.specs.declared.types.Label.TheVariants as L
use Rattle.pool_syntax.specs.declared.tree.Named.{Named}
use Rattle.pool_syntax.specs.declared.tree.Var.{Var}
use Rattle.pool_syntax.specs.Terms as T
use Rattle.pool_syntax.specs.Terms.{Store, Statements, MethodTree, ProgramTree}
use Rattle.run_types.specs.Sorts.{Sort, IntSort, BoolSort, ClassSort, NilSort, NoSort, BrokenSort, is_same_sort}
use Rattle.pool_syntax.specs.Typing.{Scope, faults, kind_sort, value_sort, is_open, inside, behind_value}
use Rattle.pool_relation.specs.Action as A
use Rattle.pool_relation.specs.Action.{Object, Action, action, method_of, temps_of}
use Rattle.run_types.specs.Values.{is_true}
use Rattle.pool_relation.specs.Reducible.{Choice}
use Rattle.run_types.specs.Tables.{pair_cmp, put_list}
use Rattle.run_types.specs.Message.{Message}
use Rattle.pool_relation.specs.Configuration.{Configuration, object_of, put_object, messages_of, put_messages}
use Rattle.pool_relation.specs.Transition.{running, posts, done, serving, transition, Offer, offer, select_offer, answered, names_method, first_message, without_first}
use Rattle.run_types.specs.Same.{are_same}
use Rattle.pool_relation.specs.UnderWay.{Activity, Serving, in_statements, in_expression, served_for, serves}
use Rattle.pool_relation.specs.Typed.{class_at, scope, fits, all_fit, IsMessageFor}
use Rattle.pool_syntax.specs.Written.{is_written}
use Rattle.run_types.proofs.Laws.{first, second, both, equal, same_some, there_is, given_by, required, same_values}
use Rattle.pool_relation.proofs.typing.TypedTerm.{Nothing, Methods, has_no_sort, fits_need, TypedStatements}
use Rattle.pool_relation.proofs.typing.DeclaredStores.{AllKnown, fits_var, fits_parts}
use Rattle.pool_relation.proofs.typing.MethodStart.{method_begins, serve_begun}
use Rattle.pool_relation.proofs.redex.TypedRedex.{Spot, at, FitValues, TypedChoices}
use Rattle.pool_relation.proofs.redex.Idle.{statements_idle, expression_idle}
use Rattle.pool_relation.proofs.action.TypedAction.{place, CanReceive, TakesStatements, TypedAction}
use Rattle.pool_relation.proofs.Lookup.{objects_in_order, messages_in_order, no_empty_messages, PutMessages, NewMessages, OldMessages, put_messages_cases}
use Rattle.pool_relation.proofs.Invariant.{classes, FitsAt, MessagesFit, Invariant}
use Rattle.pool_relation.proofs.FaultlessObject.{running_is}
use Rattle.pool_relation.proofs.action.NextWaits.{is_waits, does_not_wait}
use Rattle.pool_relation.proofs.preservation.OneObject.{object_typed_at, one_step, stepped, no_fault}

-- arguments that fit their parameters, said in two ways
all_fit_of : (g : Scope) (ps : List Var) (vs : List Value) → AllKnown g.program ps → FitValues g ps vs → length ps ≡ length vs
    → IsTrue (all_fit g vs ps)
all_fit_of g [] [] k d e = refl
all_fit_of g (x ∷ ps) (v ∷ vs) k d e = both _ _ (fits_var g v x k.0 d.0 d.1) (all_fit_of g ps vs k.1 d.2 (grind (arith, e)))
all_fit_of g [] (v ∷ vs) k d e = absurd (grind (arith, e))
all_fit_of g (x ∷ ps) [] k d e = absurd (grind (arith, e))

need_of : (s need : Sort) → IsTrue (is_open s || is_same_sort s need) → IsTrue (fits_need s need)
unfolding fits_need has_no_sort
need_of NoSort need h = absurd (grind (arith, h))
need_of IntSort need h = grind (arith, h)
need_of BoolSort need h = grind (arith, h)
need_of (ClassSort c) need h = grind (arith, h)
need_of NilSort need h = refl
need_of BrokenSort need h = refl

pub fit_values_of : (g : Scope) (ps : List Var) (vs : List Value) → IsTrue (all_fit g vs ps) → FitValues g ps vs
fit_values_of g [] [] h = tt
fit_values_of g (x ∷ ps) (v ∷ vs) h =
    let a = fits_parts g v x (first (fits g v x) (all_fit g vs ps) h) in
    (a.0, need_of (value_sort g v) (kind_sort g.program x.kind) a.1, fit_values_of g ps vs (second (fits g v x) (all_fit g vs ps) h))
fit_values_of g [] (v ∷ vs) h = absurd (grind (arith, h))
fit_values_of g (x ∷ ps) [] h = absurd (grind (arith, h))

module _ (p : ProgramTree) (none : faults p ≡ []) (written : IsTrue (is_written p)) where
  -- a message that can be received fits
  fits_receiver : (c : Configuration) (b m : ℕ) (args : List Value) → CanReceive p (classes c) b m args → (y : Object)
      → object_of c b ≡ Some y → IsMessageFor p c y (record { method = m; args = args })
  fits_receiver c b m args r y e =
      let k : r.0 ≡ y.class = (let s : Some r.0 ≡ Some y.class = sym r.2 ∙ ap class_at e in cc) in
      let n = method_begins p r.0 (classes c) m (length args) r.1 none written r.3 in
      let fit : IsTrue (all_fit (scope p c r.0) args r.1.params) = all_fit_of (scope p c r.0) r.1.params args n.0.params r.4 n.1 in
      subst (λ (k : ℕ). (t : MethodTree) × (method_of p k m (length args) ≡ Some t) × IsTrue (all_fit (scope p c k) args t.params)) k (r.1, r.3, fit)

  pub send_kept : (c d : Configuration) (o b : ℕ) (m : NameId) (args : List Value) → Invariant p c
      → transition p c (L.Send o b m args) ≡ Some d → Invariant p d
  send_kept c d o b m args g e =
      let a = given_by (running c o) _ d e in
      let r = running_is c o a.0 a.1 in
      let q = required (posts (action p o a.0) b m.0 args && is_some (object_of c b)) _ d a.2 in
      by a.0 (action p o a.0) refl r.0 r.1 (object_typed_at p none written c o a.0 g r.0) (first _ (is_some (object_of c b)) q.0) (second (posts (action p o a.0) b m.0 args) _ q.0) q.1
    where
      new : List Message
      new = messages_of c o b ++ record { method = m.0; args = args } ∷ []

      by : (x : Object) (k : Action) → action p o x ≡ k → object_of c o ≡ Some x → x.fault ≡ None → TypedAction p (classes c) x k
          → IsTrue (posts k b m.0 args) → IsTrue (is_some (object_of c b))
          → Some (put_messages (put_object c o (done x)) o b new) ≡ Some d → Invariant p d
      by x (A.Async b' n vs) i h f typed s there z =
          let s2 = first (b' == b && n == m.0) (are_same vs args) s in
          let y = there_is (object_of c b) there in
          let can : CanReceive p (classes c) b m.0 args =
          subst (λ (k : ℕ). CanReceive p (classes c) k m.0 args) (equal b' b (first (b' == b) (n == m.0) s2))
          (subst (λ (k : ℕ). CanReceive p (classes c) b' k args) (equal n m.0 (second (b' == b) (n == m.0) s2))
          (subst (λ (vs : List Value). CanReceive p (classes c) b' n vs) (same_values vs args (second (b' == b && n == m.0) (are_same vs args) s)) typed.0)) in
          let last : FitsAt p c b (record { method = m.0; args = args }) = (y.0, y.1, fits_receiver c b m.0 args can y.0 y.1) in
          let fit : MessagesFit p c o b new =
          All-append (FitsAt p c b) (messages_of c o b) (record { method = m.0; args = args } ∷ []) (g.messages o b)
          (All-cons (FitsAt p c b) (record { method = m.0; args = args }) [] last (All-nil (FitsAt p c b))) in
          let whole : Invariant p (put_messages (put_object c o (done x)) o b new) =
          one_step p none written c o x (done x) (put_list pair_cmp (o, b) new c.messages) g h refl (stepped p (classes c) x (done x).term x.vars typed.1.0 (g.objects.typed o x h).vars)
          (no_fault p o (done x) f) typed.1.1 (λ b m a. absurd (grind (arith, ap is_waits i, ap is_waits a))) (does_not_wait p (classes c) o (done x) typed.1.0)
          (record { objects = objects_in_order c o (done x) g.order.objects; messages = messages_in_order c o b new g.order.messages; no_empty = no_empty_messages c o b new g.order.no_empty })
          (λ u v. messages u v fit (put_messages_cases c o b new u v)) in
          let is : put_messages (put_object c o (done x)) o b new ≡ d = cc in
          subst (Invariant p) is whole
        where
          messages : (u v : ℕ) → MessagesFit p c o b new → PutMessages c o b new u v
              → MessagesFit p c u v (messages_of (put_messages c o b new) u v)
          messages u v fit (NewMessages i j k) = rw (k, j) fit
          messages u v fit (OldMessages k) = rw k (g.messages u v)
      by x _ i h f typed s there z = absurd (grind (arith, s))

  chosen_work : (g : Scope) (cs : List Choice) (m : ℕ) (v : Offer) → TypedChoices g cs → select_offer cs m ≡ Some v
      → TypedStatements Nothing g v.work
  chosen_work g [] m v d e = absurd (grind (arith, e))
  chosen_work g (c ∷ cs) m v d e = by (is_true c.guard && names_method (answered c.answer) m) refl (chosen_work g cs m v d.4)
    where
      by : (b : Bool) → (is_true c.guard && names_method (answered c.answer) m) ≡ b
          → (select_offer cs m ≡ Some v → TypedStatements Nothing g v.work) → TypedStatements Nothing g v.work
      by true i rest =
          let s : Some (record { names = answered c.answer; work = c.work }) ≡ Some v = rw i at e in
          let same : record { names = answered c.answer; work = c.work } ≡ v = cc in
          subst (TypedStatements Nothing g) (ap (λ o. o.work) same) d.3
      by false i rest = rest (rw i at e)

  -- what is offered may be followed by its work, and takes statements
  pub offers : (f : ℕ → Option ℕ) (y : Object) (k : Action) (m : ℕ) (v : Offer) → TypedAction p f y k → offer k m ≡ Some v
      → (ts : Spot) × TypedStatements Nothing (at (place p f y) ts) v.work × TakesStatements p f y ts × (is_waits k ≡ false)
  offers f y (A.Answer names) m v typed e =
      let a = required (names_method names m) (Some (record { names = names; work = T.Done })) v e in
      let same : record { names = names; work = T.Done } ≡ v = cc in
      (typed.0, subst (TypedStatements Nothing (at (place p f y) typed.0)) (ap (λ o. o.work) same) tt, typed.1, refl)
  offers f y (A.Select cs) m v typed e = (typed.0, chosen_work (at (place p f y) typed.0) cs m v typed.1 e, typed.2, refl)
  offers f y _ m v typed e = absurd (grind (arith, e))

  one_serving : (q : ℕ) (a : Activity) (b v s w : List Activity) → b ≡ [] → v ≡ [] → s ≡ [] → w ≡ []
      → served_for q ((a ∷ (b ++ (v ++ s))) ++ w) ≡ served_for q (a ∷ [])
  one_serving q a b v s w e f h g = rw (e, f, h, g) refl

  -- an object that begins to serve a method
  pub serving_typed : (f : ℕ → Option ℕ) (y : Object) (ts : Spot) (m : ℕ) (t : MethodTree) (caller : Option ℕ) (args : List Value) (work : Statements)
      → method_of p y.class m (length args) ≡ Some t
      → FitValues (place p f y) t.params args → TypedStatements Nothing (at (place p f y) ts) work → TakesStatements p f y ts
      → TypedStatements Methods (place p f y) (serving y t caller args work).term × ((q : ℕ) → serves q (serving y t caller args work).term ≡ serves q y.term ++ served_for q (Serving m caller ∷ []))
  serving_typed f y ts m t caller args work e fit d takes =
      let b = method_begins p y.class f m (length args) t none written e in
      let whole : Statements = T.Then (T.Serve t.name.name.0 caller (temps_of t args) t.body t.value t.post) work in
      let i = inside (place p f y) m in (
        takes.0 whole (serve_begun p y.class f ts m t caller args b.0 b.1 fit, d),
        (λ q. takes.1 whole q ∙ ap (λ l. serves q y.term ++ l)
            (one_serving q (Serving t.name.name.0 caller) (in_statements t.body) (in_expression t.value) (in_statements t.post) (in_statements work) (statements_idle i t.body b.0.body) (expression_idle i 0 t.value b.0.value)
            (statements_idle (behind_value i) t.post b.0.post) (statements_idle (at (place p f y) ts) work d)
            ∙ ap (λ n. served_for q (Serving n caller ∷ [])) b.0.named)),
      )

  pub first_fits : (P : Message → Type 0) (names : List Named) (ms : List Message) (m : Message) → All P ms
      → first_message names ms ≡ Some m → P m
  first_fits P names [] m a e = absurd (grind (arith, e))
  first_fits P names (n ∷ ms) m a e = by (names_method names n.method) refl (first_fits P names ms m (All-tail P n ms a))
    where
      by : (b : Bool) → names_method names n.method ≡ b → (first_message names ms ≡ Some m → P m) → P m
      by true i rest = let s : Some n ≡ Some m = rw i at e in let same : n ≡ m = cc in subst P same (All-head P n ms a)
      by false i rest = rest (rw i at e)

  rest_fits : (P : Message → Type 0) (names : List Named) (ms : List Message) → All P ms → All P (without_first names ms)
  rest_fits P names [] a = a
  rest_fits P names (n ∷ ms) a = by (names_method names n.method) (rest_fits P names ms (All-tail P n ms a))
    where
      by : (b : Bool) → All P (without_first names ms) → All P (if b then ms else n ∷ without_first names ms)
      by true rest = All-tail P n ms a
      by false rest = All-cons P n _ (All-head P n ms a) rest

  -- the arguments of a message that is taken
  pub taken_fit : (c : Configuration) (b : ℕ) (y : Object) (t : MethodTree) (first : Message) (m : ℕ) (args : List Value)
      → object_of c b ≡ Some y → FitsAt p c b first
      → first.method ≡ m → first.args ≡ args → method_of p y.class m (length args) ≡ Some t
      → FitValues (place p (classes c) y) t.params args
  taken_fit c b y t first m args h fit i j k =
      let z = fit.0 in
      let same : z ≡ y = same_some (sym fit.1 ∙ h) in
      let e : method_of p y.class m (length args) ≡ Some fit.2.0 =
      subst (λ (n : ℕ). method_of p y.class n (length args) ≡ Some fit.2.0) i
      (subst (λ (vs : List Value). method_of p y.class first.method (length vs) ≡ Some fit.2.0) j
      (subst (λ (w : Object). method_of p w.class first.method (length first.args) ≡ Some fit.2.0) same fit.2.1)) in
      let it : fit.2.0 ≡ t = same_some (sym e ∙ k) in
      let f : IsTrue (all_fit (scope p c y.class) args t.params) =
      subst (λ (n : MethodTree). IsTrue (all_fit (scope p c y.class) args n.params)) it
      (subst (λ (vs : List Value). IsTrue (all_fit (scope p c y.class) vs fit.2.0.params)) j
      (subst (λ (w : Object). IsTrue (all_fit (scope p c w.class) first.args fit.2.0.params)) same fit.2.2)) in
      fit_values_of (scope p c y.class) t.params args f

  take_step : (c : Configuration) (b s m : ℕ) (args : List Value) (y : Object) (v : Offer) (first : Message) (t : MethodTree)
      → Invariant p c → object_of c b ≡ Some y → y.fault ≡ None
      → offer (action p b y) m ≡ Some v → first_message v.names (messages_of c s b) ≡ Some first → first.method ≡ m
      → first.args ≡ args → method_of p y.class m (length args) ≡ Some t
      → Invariant p (put_messages (put_object c b (serving y t None args v.work)) s b (without_first v.names (messages_of c s b)))
  take_step c b s m args y v first t g h f o i j k l =
      let off = offers (classes c) y (action p b y) m v (object_typed_at p none written c b y g h) o in
      let fit = first_fits (FitsAt p c b) v.names (messages_of c s b) first (g.messages s b) i in
      let new : Object = serving y t None args v.work in
      let typed = serving_typed (classes c) y off.0 m t None args v.work l (taken_fit c b y t first m args h fit j k l) off.1 off.2 in
      let ms = without_first v.names (messages_of c s b) in
      let same : (q : ℕ) → serves q new.term ≡ serves q y.term = λ q. typed.1 q ∙ append-nil (serves q y.term) in
      let before : (n m : ℕ) → ¬ (action p b y ≡ A.Waits n m) = λ n m a. absurd (grind (arith, off.3, ap is_waits a)) in
      one_step p none written c b y new (put_list pair_cmp (s, b) ms c.messages) g h refl (stepped p (classes c) y new.term y.vars typed.0 (g.objects.typed b y h).vars)
      (no_fault p b new f) same before (does_not_wait p (classes c) b new typed.0)
      (record { objects = objects_in_order c b new g.order.objects; messages = messages_in_order c s b ms g.order.messages; no_empty = no_empty_messages c s b ms g.order.no_empty })
      (λ u w. messages ms (rest_fits (FitsAt p c b) v.names (messages_of c s b) (g.messages s b)) u w (put_messages_cases c s b ms u w))
    where
      messages : (ms : List Message) → MessagesFit p c s b ms → (u v : ℕ) → PutMessages c s b ms u v
          → MessagesFit p c u v (messages_of (put_messages c s b ms) u v)
      messages ms fit u v (NewMessages i j k) = rw (k, j) fit
      messages ms fit u v (OldMessages k) = rw k (g.messages u v)

  pub take_kept : (c d : Configuration) (b s : ℕ) (m : NameId) (args : List Value) → Invariant p c
      → transition p c (L.Take b s m args) ≡ Some d → Invariant p d
  take_kept c d b s m args g e =
      let a = given_by (running c b) _ d e in
      let r = running_is c b a.0 a.1 in
      let o = given_by (offer (action p b a.0) m.0) _ d a.2 in
      let i = given_by (first_message o.0.names (messages_of c s b)) _ d o.2 in
      let q = required (i.0.method == m.0 && are_same i.0.args args) _ d i.2 in
      let k = given_by (method_of p a.0.class m.0 (length args)) _ d q.1 in
      let whole = take_step c b s m.0 args a.0 o.0 i.0 k.0 g r.0 r.1 o.1 i.1 (equal i.0.method m.0 (first _ (are_same i.0.args args) q.0)) (same_values i.0.args args (second (i.0.method == m.0) _ q.0)) k.1 in
      let new : Configuration = put_messages (put_object c b (serving a.0 k.0 None args o.0.work)) s b (without_first o.0.names (messages_of c s b)) in
      subst (Invariant p) (same_some {x = new} k.2) whole
