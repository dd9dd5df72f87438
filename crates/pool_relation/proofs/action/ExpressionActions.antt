-- The next action of a typed object whose redex is an expression.
use Rattle.std.proofs.Common.{◌≡◌, refl, ap, IsTrue, ℕ, List, [], ◌∷◌, ◌++◌, length, Option, Some, None, is_some, true, false, ◌||◌, arith}
use Rattle.run_types.specs.declared.types.Value.{Value}
use Rattle.run_types.specs.declared.types.Value.TheVariants as V
use Rattle.run_types.specs.declared.types.Op.{Op}
use Rattle.pool_syntax.specs.Terms as T
use Rattle.pool_syntax.specs.Terms.{Store, Expression, Statements, MethodTree, ClassTree, ProgramTree, append}
use Rattle.pool_syntax.specs.Classes.{class_of, named_method}
use Rattle.run_types.specs.Sorts.{Sort, IntSort, BoolSort, ClassSort, NilSort, BrokenSort, is_same_sort, op_sort}
use Rattle.pool_syntax.specs.Typing.{is_open, methods_of, methods_of_class, params_of, sent_method, own_sort, inside, behind_value, Scope, value_sort, object_sort, is_dangling, send_sort, vars_of_class, faults, name_sort}
use Rattle.run_types.specs.Values.{Outcome, Gives, Fails, WrongSort, prefix_value, infix_value}
use Rattle.pool_relation.specs.Reducible as R
use Rattle.pool_relation.specs.Reducible.{Choice, Reducible, Found, Evaluated, At, Contractum, AsExpression, AsStatements, fill_statements, statements_redex}
use Rattle.pool_relation.specs.Action.{Object, redex_action, method_of, method_in, with_count, temps_of, value_of, literal, becomes_value, on_outcome, read}
use Rattle.pool_syntax.specs.Written.{is_written}
use Rattle.pool_relation.specs.Typed.{has_room}
use Rattle.pool_relation.specs.UnderWay.{Activity, Own, served_for}
use Rattle.pool_relation.proofs.typing.TypedTerm.{Methods, Waits, takes, is_destination, TypedExpression}
use Rattle.pool_relation.proofs.typing.Sorts.{MayBecome, Stays, Opens}
use Rattle.pool_relation.proofs.typing.MethodStart.{running_scope, method_begins, call_begun}
use Rattle.pool_relation.proofs.typing.DeclaredStores.{Valued, Has, Lacks, valued, fits_parts}
use Rattle.run_types.proofs.Laws.{equal, true_not}
use Rattle.pool_relation.proofs.redex.TypedRedex.{Spot, at, FitValues, AnExpression, Suits, Replacement, NewStatements}
use Rattle.pool_relation.proofs.redex.SendBecomesWait.{statements_wait}
use Rattle.pool_relation.proofs.typing.Outcomes.{HasOutcome, prefix_has, infix_has}
use Rattle.pool_relation.proofs.action.TypedAction.{place, VarsFit, CanReceive, TypedAction}
use Rattle.pool_relation.proofs.redex.Idle.{statements_idle, expression_idle}
use Rattle.pool_relation.proofs.redex.Activities.{is_statement}
use Rattle.pool_relation.proofs.action.AtRedex.{served_kept, grows_itself, ReplacementAt, ActivitiesAt, ServesNone, expression_step, statements_step, a_value}

pub own_name_typed : (p : ProgramTree) (f : ℕ → Option ℕ) (x : Object) (o : ℕ) (u : Store) → VarsFit p f x x.vars → f o ≡ Some x.class
    → ReplacementAt p f x R.OwnName u → ActivitiesAt p f x R.OwnName → TypedAction p f x (redex_action p o x u R.OwnName)
own_name_typed p f x o u vars here replacement activities = (
  expression_step p f x R.OwnName u replacement activities (λ q. rw activities.ends refl) f (grows_itself f) (literal (V.Ref o)) refl
      (a_value (at (place p f x) (replacement Methods f refl (grows_itself f)).spot) (ClassSort x.class) (V.Ref o) (rw here refl) (Stays (rw here refl))) (λ q. refl),
  vars,
)

pub fit_becomes : (s need : Sort) → (is_open s || is_same_sort s need) ≡ true → MayBecome need s
fit_becomes IntSort IntSort h = Stays refl
fit_becomes BoolSort BoolSort h = Stays refl
fit_becomes (ClassSort c) (ClassSort d) h = Stays (ap ClassSort (equal c d h))
fit_becomes NilSort need h = Opens refl
fit_becomes BrokenSort need h = Opens refl
fit_becomes s need h = absurd (grind (arith, h))

pub read_typed : (p : ProgramTree) (f : ℕ → Option ℕ) (x : Object) (o n : ℕ) (u : Store) → VarsFit p f x x.vars
    → ReplacementAt p f x (R.Read n) u → ActivitiesAt p f x (R.Read n) → TypedAction p f x (redex_action p o x u (R.Read n))
read_typed p f x o n u vars replacement activities = by (valued (place p f x) sp.spot.temps u n sp.store) (valued (place p f x) (vars_of_class (class_of p x.class)) x.vars n vars)
  where
    sp : Replacement Methods (place p f x) (R.Read n) u (NewStatements Methods (place p f x) x.term)
    sp = replacement Methods f refl (grows_itself f)

    value : (v : Value) → is_dangling (place p f x) v ≡ false
        → MayBecome (name_sort (at (place p f x) sp.spot) n) (value_sort (place p f x) v) → TypedAction p f x (becomes_value x v)
    value v d b = (expression_step p f x (R.Read n) u replacement activities (λ q. rw activities.ends refl) f (grows_itself f) (literal v) refl (a_value (at (place p f x) sp.spot) (name_sort (at (place p f x) sp.spot) n) v d b) (λ q. refl), vars)

    by : Valued (place p f x) sp.spot.temps u n → Valued (place p f x) (vars_of_class (class_of p x.class)) x.vars n
        → TypedAction p f x (read x (value_of u n) (value_of x.vars n))
    by (Has y v e i fit) own =
        let a = fits_parts (place p f x) v y fit in
        let b : MayBecome (name_sort (at (place p f x) sp.spot) n) (value_sort (place p f x) v) = rw e (fit_becomes _ _ a.1) in
        rw i (value v a.0 b)
    by (Lacks e i) (Has y v k l fit) =
        let a = fits_parts (place p f x) v y fit in
        let b : MayBecome (name_sort (at (place p f x) sp.spot) n) (value_sort (place p f x) v) = rw (e, k) (fit_becomes _ _ a.1) in
        rw (i, l) (value v a.0 b)
    by (Lacks e i) (Lacks k l) = absurd (grind (arith, rw (e, k) at sp.typed))

pub make_typed : (p : ProgramTree) (f : ℕ → Option ℕ) (x : Object) (o c : ℕ) (u : Store)
    → ReplacementAt p f x (R.Make c) u → ActivitiesAt p f x (R.Make c) → TypedAction p f x (redex_action p o x u (R.Make c))
make_typed p f x o c u replacement activities =
    let known : IsTrue (is_some (class_of p c)) = (replacement Methods f refl (grows_itself f)).typed in
    rw known (
      known,
      (λ f' n w e. expression_step p f x (R.Make c) u replacement activities (λ q. rw activities.ends refl) f' w (literal (V.Ref n)) refl
          (a_value (at (place p f' x) (replacement Methods f' refl w).spot) (ClassSort c) (V.Ref n) (rw e refl) (Stays (rw e refl))) (λ q. refl)),
    )

pub outcome_typed : (p : ProgramTree) (f : ℕ → Option ℕ) (x : Object) (r : Reducible) (u : Store) (s : Sort) (a : Outcome)
    → VarsFit p f x x.vars
    → (replacement : ReplacementAt p f x r u) (activities : ActivitiesAt p f x r) → ServesNone activities → is_statement r ≡ false
    → ((v : Value) → AnExpression Methods (at (place p f x) (replacement Methods f refl (grows_itself f)).spot) s (AsExpression (literal v)) → Suits Methods (at (place p f x) (replacement Methods f refl (grows_itself f)).spot) r (AsExpression (literal v)))
    → HasOutcome (place p f x) s a → TypedAction p f x (on_outcome x a)
outcome_typed p f x r u s (Gives v) vars replacement activities none i suits h =
    (expression_step p f x r u replacement activities none f (grows_itself f) (literal v) i (suits v (a_value (at (place p f x) (replacement Methods f refl (grows_itself f)).spot) s v h.0 (Stays h.1))) (λ q. refl), vars)
outcome_typed p f x r u s (Fails e) vars replacement activities none i suits h = tt
outcome_typed p f x r u s WrongSort vars replacement activities none i suits h = h

pub unary_typed : (p : ProgramTree) (f : ℕ → Option ℕ) (x : Object) (o : ℕ) (op : Op) (v : Value) (u : Store) → VarsFit p f x x.vars
    → ReplacementAt p f x (R.Unary op v) u → ActivitiesAt p f x (R.Unary op v) → TypedAction p f x (redex_action p o x u (R.Unary op v))
unary_typed p f x o op v u vars replacement activities =
    let d = (replacement Methods f refl (grows_itself f)).typed in
    outcome_typed p f x (R.Unary op v) u (op_sort op) (prefix_value op v) vars replacement activities (λ q. rw activities.ends refl) refl (λ w a. a)
    (prefix_has (place p f x) op v d.0 d.1 d.2)

pub binary_typed : (p : ProgramTree) (f : ℕ → Option ℕ) (x : Object) (o : ℕ) (op : Op) (v w : Value) (u : Store) → VarsFit p f x x.vars
    → ReplacementAt p f x (R.Binary op v w) u → ActivitiesAt p f x (R.Binary op v w) → TypedAction p f x (redex_action p o x u (R.Binary op v w))
binary_typed p f x o op v w u vars replacement activities =
    let d = (replacement Methods f refl (grows_itself f)).typed in
    outcome_typed p f x (R.Binary op v w) u (op_sort op) (infix_value op v w) vars replacement activities (λ q. rw activities.ends refl) refl (λ y a. a)
    (infix_has (place p f x) op v w d.0 d.1 d.2 d.3)

-- a method that takes so many arguments is there
pub has_method : (p : ProgramTree) (c m n : ℕ) → IsTrue (takes (named_method (methods_of p c) m) n)
    → (t : MethodTree) × (method_of p c m n ≡ Some t) × (named_method (methods_of p c) m ≡ Some t)
unfolding takes
has_method p c m n h = by (class_of p c) h
  where
    counted : (a : Option MethodTree) → IsTrue (takes a n) → (t : MethodTree) × (with_count n a ≡ Some t) × (a ≡ Some t)
    counted None i = absurd (grind (arith, i))
    counted (Some t) i = (t, rw i refl, refl)

    by : (k : Option ClassTree) → IsTrue (takes (named_method (methods_of_class k) m) n)
        → (t : MethodTree) × (method_in k m n ≡ Some t) × (named_method (methods_of_class k) m ≡ Some t)
    by None i = absurd (grind (arith, i))
    by (Some k) i = counted (named_method k.methods m) i

pub served_own : (q m : ℕ) (a b c : List Activity) → a ≡ [] → b ≡ [] → c ≡ [] → served_for q (Own m ∷ (a ++ (b ++ c))) ≡ []
served_own q m a b c e i j = rw (e, i, j) refl

pub invoke_typed : (p : ProgramTree) (f : ℕ → Option ℕ) (x : Object) (o m : ℕ) (args : List Value) (u : Store) → faults p ≡ []
    → IsTrue (is_written p) → VarsFit p f x x.vars
    → ReplacementAt p f x (R.Invoke m args) u → ActivitiesAt p f x (R.Invoke m args) → TypedAction p f x (redex_action p o x u (R.Invoke m args))
invoke_typed p f x o m args u none written vars replacement activities =
    let sp = replacement Methods f refl (grows_itself f) in
    let g : Scope = at (place p f x) sp.spot in
    let t = has_method p x.class m (length args) sp.typed.0 in
    let b = method_begins p x.class f m (length args) t.0 none written t.1 in
    let fit : FitValues g t.0.params args = rw t.2 at sp.typed.1 in
    let i = inside (place p f x) m in
    let whole : (h : ℕ) → IsTrue (has_room h) → TypedExpression Methods g h (T.Frame t.0.name.name.0 (temps_of t.0 args) t.0.body t.0.value t.0.post) =
    λ h room. call_begun p x.class f sp.spot h m t.0 args b.0 b.1 fit room in
    let sort : own_sort g t.0.name.name.0 ≡ own_sort g m = ap (own_sort g) b.0.named in
    rw t.1 (
      expression_step p f x (R.Invoke m args) u replacement activities (λ q. rw activities.ends refl) f (grows_itself f) (T.Frame t.0.name.name.0 (temps_of t.0 args) t.0.body t.0.value t.0.post) refl
          (T.Frame t.0.name.name.0 (temps_of t.0 args) t.0.body t.0.value t.0.post, refl, whole, Stays sort)
          (λ q. served_own q t.0.name.name.0 _ _ _ (statements_idle i t.0.body b.0.body) (expression_idle i 0 t.0.value b.0.value) (statements_idle (behind_value i) t.0.post b.0.post)),
      vars,
    )

-- the receiver of a typed send
pub receiver : (p : ProgramTree) (f : ℕ → Option ℕ) (c : ℕ) (ts : Spot) (b m : ℕ) (args : List Value)
    → is_dangling (running_scope p c f) (V.Ref b) ≡ false
    → IsTrue (is_destination (at (running_scope p c f) ts) (object_sort (f b)) m (length args))
    → FitValues (at (running_scope p c f) ts) (params_of (sent_method (at (running_scope p c f) ts) (object_sort (f b)) m)) args
    → CanReceive p f b m args
unfolding is_destination
receiver p f c ts b m args d to fit = by (f b) refl
  where
    by : (k : Option ℕ) → f b ≡ k → CanReceive p f b m args
    by None e = absurd (grind (arith, rw e at d))
    by (Some k) e =
        let t = has_method p k m (length args) (rw e at to) in
        let a : FitValues (running_scope p k f) t.0.params args = rw t.2 at (rw e at fit) in
        (k, t.0, e, t.1, a)

pub no_int : (g : Scope) (m n : ℕ) → ¬ (IsTrue (is_destination g IntSort m n))
unfolding is_destination
no_int g m n h = absurd (grind (arith, h))

pub no_bool : (g : Scope) (m n : ℕ) → ¬ (IsTrue (is_destination g BoolSort m n))
unfolding is_destination
no_bool g m n h = absurd (grind (arith, h))

pub request_typed : (p : ProgramTree) (f : ℕ → Option ℕ) (x : Object) (o : ℕ) (v : Value) (m : ℕ) (args : List Value) (u : Store)
    → statements_redex [] x.term ≡ At (R.SynchronousSend v m args) u
    → ReplacementAt p f x (R.SynchronousSend v m args) u → ActivitiesAt p f x (R.SynchronousSend v m args) → TypedAction p f x (redex_action p o x u (R.SynchronousSend v m args))
request_typed p f x o (V.Ref b) m args u q replacement activities =
    let sp = replacement Waits f refl (grows_itself f) in
    let there : IsTrue (is_some (f b)) = true_not _ sp.typed.0 in
    let w = statements_wait b m (R.SynchronousSend (V.Ref b) m args) u refl [] x.term q [] in (
      receiver p f x.class sp.spot b m args sp.typed.0 sp.typed.1 sp.typed.2,
      sp.filled (AsExpression (T.Wait b m)) (T.Wait b m, refl, (λ h room. (refl, room, there)), Stays refl),
      (λ n. served_kept n activities (AsExpression (T.Wait b m)) refl (rw activities.ends refl)),
      (λ n. rw w.1 refl),
    )
request_typed p f x o V.Nil m args u q replacement activities = tt
request_typed p f x o (V.Int z) m args u q replacement activities = no_int _ _ _ (replacement Waits f refl (grows_itself f)).typed.1
request_typed p f x o (V.Bool z) m args u q replacement activities = no_bool _ _ _ (replacement Waits f refl (grows_itself f)).typed.1

pub post_typed : (p : ProgramTree) (f : ℕ → Option ℕ) (x : Object) (o : ℕ) (v : Value) (m : ℕ) (args : List Value) (u : Store)
    → ReplacementAt p f x (R.Post v m args) u → ActivitiesAt p f x (R.Post v m args) → TypedAction p f x (redex_action p o x u (R.Post v m args))
post_typed p f x o (V.Ref b) m args u replacement activities =
    let sp = replacement Methods f refl (grows_itself f) in (
      receiver p f x.class sp.spot b m args sp.typed.0 sp.typed.1 sp.typed.2,
      statements_step p f x (R.Post (V.Ref b) m args) u replacement activities (λ q. rw activities.ends refl) T.Done refl (T.Done, refl, tt) (λ q. refl),
    )
post_typed p f x o V.Nil m args u replacement activities = tt
post_typed p f x o (V.Int z) m args u replacement activities = no_int _ _ _ (replacement Methods f refl (grows_itself f)).typed.1
post_typed p f x o (V.Bool z) m args u replacement activities = no_bool _ _ _ (replacement Methods f refl (grows_itself f)).typed.1

pub waiting_typed : (p : ProgramTree) (f : ℕ → Option ℕ) (x : Object) (o b m : ℕ) (u : Store)
    → ReplacementAt p f x (R.Waiting b m) u → ActivitiesAt p f x (R.Waiting b m) → TypedAction p f x (redex_action p o x u (R.Waiting b m))
waiting_typed p f x o b m u replacement activities =
    let sp = replacement Methods f refl (grows_itself f) in (
      sp.typed,
      (λ v d k. expression_step p f x (R.Waiting b m) u replacement activities (λ q. rw activities.ends refl) f (grows_itself f) (literal v) refl
          (a_value (at (place p f x) sp.spot) (send_sort p (object_sort (f b)) m) v d k) (λ q. refl)),
    )

pub leave_typed : (p : ProgramTree) (f : ℕ → Option ℕ) (x : Object) (o : ℕ) (v : Value) (u : Store) → VarsFit p f x x.vars
    → ReplacementAt p f x (R.Leave v) u → ActivitiesAt p f x (R.Leave v) → TypedAction p f x (redex_action p o x u (R.Leave v))
leave_typed p f x o v u vars replacement activities =
    (expression_step p f x (R.Leave v) u replacement activities (λ q. rw activities.ends.1 refl) f (grows_itself f) (literal v) refl refl (λ q. refl), vars)
