-- The terms of a program without class faults are a lawful language; the kept property is that configurations are
-- typed.
use Rattle.std.proofs.Common.{◌≡◌, ◌≢◌, ◌⊎◌, inl, inr, refl, sym, ap, subst, ◌∙◌, IsTrue, ℕ, ◌==◌, List, [], ◌∷◌, ◌++◌, length, Option, Some, None, is_some, All, Bool, true, false, if◌then◌else◌}
use Rattle.std.proofs.lemmas.List.Elements.{All-head, All-tail}
use Rattle.std.specs.List.{list_any}
use Rattle.run_types.specs.declared.types.Value.{Value}
use Rattle.run_types.specs.declared.types.Value.TheVariants as V
use Rattle.run_types.specs.declared.types.Error.{Error}
use Rattle.run_types.specs.declared.types.Error.TheVariants.{NilOperand, NoOpenGuard}
use Rattle.run_types.specs.declared.types.Label.TheVariants as L
use Rattle.pool_syntax.specs.Terms as T
use Rattle.pool_syntax.specs.Terms.{Store, Expression, Statements, MethodTree, ProgramTree}
use Rattle.pool_syntax.specs.Classes.{class_of}
use Rattle.pool_syntax.specs.Typing.{Scope, faults}
use Rattle.pool_relation.specs.Reducible as R
use Rattle.pool_relation.specs.Reducible.{Choice, Reducible, Found, Evaluated, At, AsExpression, AsStatements, statements_redex, set_value}
use Rattle.pool_relation.specs.Action as A
use Rattle.run_types.specs.Values.{is_nil, not_bool, is_true}
use Rattle.pool_relation.specs.Action.{Object, Action, action, redex_action, literal, method_of, value_of}
use Rattle.run_types.specs.Message.{Message}
use Rattle.pool_relation.specs.UnderWay.{Activity, Serving, in_expression, in_statements, served_for, serves, frames_of}
use Rattle.pool_relation.specs.Typed.{class_at, Typed}
use Rattle.pool_syntax.specs.Written.{is_written}
use Rattle.pool_relation.specs.Transition as X
use Rattle.run_types.specs.Partial.{◌>>=◌}
use Rattle.pool_relation.specs.Transition.{transition, refilled, running}
use Rattle.run_types.proofs.Laws.{equals, decide, differ, same_some, find_put_same, find_put_other, value_itself}
use Rattle.mesh_semantics.proofs.Laws.{no_part, one_part}
use Rattle.pool_relation.proofs.Laws.{Ends, is_statement, statements_activities, place, TypedAction, TypedObject, FitsAt, classes, invariant_of, does_not_wait, object_typed_at, typed_kept}
use Rattle.mesh_semantics.specs.Kind as K
use Rattle.mesh_semantics.specs.Kind.{Kind}
use Rattle.mesh_semantics.specs.Config.{Config, object_of, put_object, messages_of}
use Rattle.mesh_semantics.specs.Moves.{first_message}
use Rattle.mesh_semantics.specs.Sound.{is_wait}
use Rattle.mesh_semantics.specs.Lawful.{Lawful, CanServe}
use Rattle.mesh_of_terms.specs.Terms.{kind_of, work_of, terms, plain}
use Rattle.mesh_of_terms.specs.OneEvent.{as_plain}
use Rattle.mesh_of_terms.proofs.Instance.{move_is}

-- an action from its kind
pub new_is : (a : Action) (k : ℕ) → kind_of a ≡ K.New k → a ≡ A.New k
new_is (A.New c) k e = let s : c ≡ k = cc in ap A.New s
new_is _ k e = absurd (cc)

pub send_is : (a : Action) (b m : ℕ) (args : List Value) → kind_of a ≡ K.Send b m args → a ≡ A.Send b m args
send_is (A.Send r n vs) b m args e = cc
send_is _ b m args e = absurd (cc)

pub async_is : (a : Action) (b m : ℕ) (args : List Value) → kind_of a ≡ K.Async b m args → a ≡ A.Async b m args
async_is (A.Async r n vs) b m args e = cc
async_is _ b m args e = absurd (cc)

pub return_is : (a : Action) (k : ℕ) (v : Value) → kind_of a ≡ K.Return k v → a ≡ A.Return k v
return_is (A.Return o w) k v e = cc
return_is _ k v e = absurd (cc)

pub waits_is : (a : Action) (b m : ℕ) → kind_of a ≡ K.Waits b m → a ≡ A.Waits b m
waits_is (A.Waits r n) b m e = cc
waits_is _ b m e = absurd (cc)

-- where another part takes the place of an expression that meets another object
abbrev meets : Action → Bool
meets (A.New c) = true
meets (A.Send b m args) = true
meets (A.Waits b m) = true
meets _ = false

chosen : (b : Bool) (a c : Action) → meets a ≡ false → meets c ≡ false → meets (if b then a else c) ≡ false
chosen true a c e f = e
chosen false a c e f = f

never : (a : Action) → meets a ≡ true → meets a ≡ false → ⊥
never a e f = let z = sym e ∙ f in cc

-- such a redex is an expression, and holds nothing under way
at_meeting : (p : ProgramTree) (o : ℕ) (x : Object) (u : Store) (g : Scope) (r : Reducible) (now : List Activity) → meets (redex_action p o x u r) ≡ true → Ends g r now
    → (is_statement r ≡ false) × (now ≡ [])
at_meeting p o x u g R.OwnName now h e = (refl, e)
at_meeting p o x u g (R.Read n) now h e = (refl, e)
at_meeting p o x u g (R.Make c) now h e = (refl, e)
at_meeting p o x u g (R.Unary op v) now h e = (refl, e)
at_meeting p o x u g (R.Binary op v w) now h e = (refl, e)
at_meeting p o x u g (R.Invoke m args) now h e = (refl, e)
at_meeting p o x u g (R.SynchronousSend v m args) now h e = (refl, e)
at_meeting p o x u g (R.Leave v) now h e = absurd (let z : false ≡ true = h in cc)
at_meeting p o x u g (R.Waiting b m) now h e = (refl, e)
at_meeting p o x u g (R.Set n v) now h e = absurd (never (redex_action p o x u (R.Set n v)) h (chosen (is_some (value_of u n)) _ _ refl (chosen (is_some (value_of x.vars n)) _ _ refl refl)))
at_meeting p o x u g (R.Print item) now h e = absurd (let z : false ≡ true = h in cc)
at_meeting p o x u g (R.Drop v) now h e = absurd (let z : false ≡ true = h in cc)
at_meeting p o x u g (R.Post (V.Ref b) m args) now h e = absurd (let z : false ≡ true = h in cc)
at_meeting p o x u g (R.Post V.Nil m args) now h e = absurd (let z : false ≡ true = h in cc)
at_meeting p o x u g (R.Post (V.Int i) m args) now h e = absurd (let z : false ≡ true = h in cc)
at_meeting p o x u g (R.Post (V.Bool b) m args) now h e = absurd (let z : false ≡ true = h in cc)
at_meeting p o x u g (R.Branch (V.Bool true) these those) now h e = absurd (let z : false ≡ true = h in cc)
at_meeting p o x u g (R.Branch (V.Bool false) these those) now h e = absurd (let z : false ≡ true = h in cc)
at_meeting p o x u g (R.Branch V.Nil these those) now h e = absurd (let z : false ≡ true = h in cc)
at_meeting p o x u g (R.Branch (V.Int i) these those) now h e = absurd (let z : false ≡ true = h in cc)
at_meeting p o x u g (R.Branch (V.Ref b) these those) now h e = absurd (let z : false ≡ true = h in cc)
at_meeting p o x u g (R.Loop c ss) now h e = absurd (let z : false ≡ true = h in cc)
at_meeting p o x u g (R.Accept names) now h e = absurd (let z : false ≡ true = h in cc)
at_meeting p o x u g (R.Choose cs) now h e = absurd (never (redex_action p o x u (R.Choose cs)) h
    (chosen (list_any (λ c. is_nil c.guard) cs) (A.Fault NilOperand) _ refl (chosen (list_any (λ c. not_bool c.guard) cs) A.Stuck _ refl (chosen (list_any (λ c. is_true c.guard) cs) (A.Select cs) (A.Fault NoOpenGuard) refl refl))))
at_meeting p o x u g (R.Finish None v work) now h e = absurd (let z : false ≡ true = h in cc)
at_meeting p o x u g (R.Finish (Some k) v work) now h e = absurd (let z : false ≡ true = h in cc)

module _ (p : ProgramTree) (none : faults p ≡ []) (written : IsTrue (is_written p)) where
  -- what is kept of a configuration of terms
  abbrev pub W : Config Object → Type 0
  W c = Typed p (plain c)

  fine : (c : Config Object) (o : ℕ) (x : Object) → W c → object_of c o ≡ Some x → TypedAction p (classes (plain c)) x (action p o x)
  fine c o x w h = object_typed_at p none written (plain c) o x (invariant_of p (plain c) w) h

  -- what is under way stays
  under_way_kept : (c : Config Object) (o : ℕ) (x : Object) (e : Expression) → W c → object_of c o ≡ Some x → meets (action p o x) ≡ true → in_expression e ≡ []
      → in_statements (refilled x (AsExpression e)).term ≡ in_statements x.term
  under_way_kept c o x e w h m i = by (statements_redex [] x.term) refl
    where
      typed : TypedObject p (classes (plain c)) x
      typed = (invariant_of p (plain c) w).objects.typed o x h

      by : (a : Found (Unit {0})) → statements_redex [] x.term ≡ a → in_statements (refilled x (AsExpression e)).term ≡ in_statements x.term
      by (Evaluated v) q = absurd (let z : false ≡ true = rw q at m in cc)
      by (At r u) q =
          let b = statements_activities (place p (classes (plain c)) x) [] x.term typed.term r u q in
          let k = at_meeting p o x u (place p (classes (plain c)) x) r b.now (rw q at m) b.ends in
          b.new_is (AsExpression e) k.0 ∙ ap (λ z. b.before ++ z) i ∙ sym (b.old_is ∙ ap (λ z. b.before ++ z) k.1)

  frames_kept : (c : Config Object) (o : ℕ) (x : Object) (e : Expression) → W c → object_of c o ≡ Some x → meets (action p o x) ≡ true → in_expression e ≡ []
      → frames_of (refilled x (AsExpression e)).term ≡ frames_of x.term
  frames_kept c o x e w h m i = ap length (under_way_kept c o x e w h m i)

  no_wait : (a : Action) → ((b m : ℕ) → a ≢ A.Waits b m) → is_wait (kind_of a) ≡ false
  no_wait (A.Waits b m) n = absurd (n b m refl)
  no_wait A.Finished n = refl
  no_wait (A.Local term vars) n = refl
  no_wait (A.Fault e) n = refl
  no_wait (A.New c) n = refl
  no_wait (A.Send b m args) n = refl
  no_wait (A.Async b m args) n = refl
  no_wait (A.Write item) n = refl
  no_wait (A.Answer names) n = refl
  no_wait (A.Select cs) n = refl
  no_wait (A.Return k v) n = refl
  no_wait A.Stuck n = refl

  bound : {M : Type 0} (z : Option M) (t : M) (f : M → Object) → z ≡ Some t → (y : Object) × ((z >>= λ m. Some (f m)) ≡ Some y)
  bound z t f e = (f t, ap (λ u. u >>= λ m. Some (f m)) e)

  made_of : {M : Type 0} (z : Option M) (f : M → Object) → IsTrue (is_some z) → (y : Object) × ((z >>= λ m. Some (f m)) ≡ Some y)
  made_of None f h = absurd (let q : false ≡ true = h in cc)
  made_of (Some t) f h = (f t, refl)

  -- an object of a known class, and its method
  served_by : (c : Config Object) (b m : ℕ) (args : List Value) → (k : ℕ) × (t : MethodTree) × (classes (plain c) b ≡ Some k) × (method_of p k m (length args) ≡ Some t) → CanServe (terms p) c b m args
  served_by c b m args (k, t, i, j) = by (object_of c b) refl
    where
      by : (z : Option Object) → object_of c b ≡ z → CanServe (terms p) c b m args
      by None e = absurd (let q : class_at None ≡ Some k = ap class_at (sym e) ∙ i in cc)
      by (Some y) e =
          let same : y.class ≡ k = same_some (ap class_at (sym e) ∙ i) in
          let has : method_of p y.class m (length args) ≡ Some t = ap (λ n. method_of p n m (length args)) same ∙ j in
          (y, e, λ n names caller off. bound (method_of p y.class m (length args)) t (λ method. X.serving y method caller args (work_of (action p b y) n)) has)

  earliest : (P : Message → Type 0) (names : List ℕ) (ms : List Message) (f : Message) → All P ms → first_message names ms ≡ Some f → P f
  earliest P names [] f a e = absurd (cc)
  earliest P names (m ∷ ms) f a e = by (K.has_name names m.method) refl (earliest P names ms f (All-tail P m ms a))
    where
      by : (b : Bool) → K.has_name names m.method ≡ b → (first_message names ms ≡ Some f → P f) → P f
      by true i k = subst P (same_some (rw i at e)) (All-head P m ms a)
      by false i k = k (rw i at e)

  some_more : (xs : List ℕ) (m : ℕ) → (n : ℕ) × (ns : List ℕ) × (xs ++ m ∷ [] ≡ n ∷ ns)
  some_more [] m = (m, [], refl)
  some_more (x ∷ xs) m = (x, xs ++ m ∷ [], refl)

  serves_it : (m k : ℕ) → served_for k (Serving m (Some k) ∷ []) ≡ m ∷ []
  serves_it m k = rw (equals k) refl

  returning : (c : Config Object) (b : ℕ) (y : Object) (k : ℕ) (v : Value) → W c → object_of c b ≡ Some y → kind_of (action p b y) ≡ K.Return k v → TypedAction p (classes (plain c)) y (A.Return k v)
  returning c b y k v w h i = subst (TypedAction p (classes (plain c)) y) (return_is (action p b y) k v i) (fine c b y w h)

  has_wait : (c : Config Object) (b : ℕ) (y : Object) (k : ℕ) (v : Value) → W c → object_of c b ≡ Some y → kind_of (action p b y) ≡ K.Return k v
      → (x : Object) × (m : ℕ) × (object_of c k ≡ Some x) × (kind_of (action p k x) ≡ K.Waits b m)
  has_wait c b y k v w h i =
      let r = returning c b y k v w h i in
      let n = some_more (served_for k r.1) r.0 in
      let s : serves k y.term ≡ n.0 ∷ n.1 = r.3 k ∙ ap (λ z. served_for k r.1 ++ z) (serves_it r.0 k) ∙ n.2 in
      let t = w.served k b n.0 n.1 y h s in (t.0, n.0, t.1, ap kind_of t.2)

  given_name : (c : Config Object) (o : ℕ) (x : Object) (k n : ℕ) → W c → object_of c o ≡ Some x → kind_of (action p o x) ≡ K.New k → object_of c n ≡ None
      → (frames_of (X.given x (V.Ref n)).term ≡ frames_of x.term) × ((X.given x (V.Ref n)).fault ≡ x.fault) × (is_wait (kind_of (action p o (X.given x (V.Ref n)))) ≡ false)
  given_name c o x k n w h i f =
      let a = new_is (action p o x) k i in
      let r = subst (TypedAction p (classes (plain c)) x) a (fine c o x w h) in
      let steps = r.1 more n (record { kept = λ q j e. grows q j e (decide q n) }) (rw (equals n) refl) in (
        frames_kept c o x (literal (V.Ref n)) w h (rw a refl) refl,
        refl,
        no_wait (action p o (X.given x (V.Ref n))) (does_not_wait p more o (X.given x (V.Ref n)) steps.0),
      )
    where
      more : ℕ → Option ℕ
      more q = if q == n then Some k else classes (plain c) q

      grows : (q j : ℕ) → classes (plain c) q ≡ Some j → (q ≡ n) ⊎ (q ≢ n) → (if q == n then Some k else classes (plain c) q) ≡ Some j
      grows q j e (inl s) = absurd (let z : None ≡ Some j = sym (ap class_at (ap (object_of c) s ∙ f)) ∙ e in cc)
      grows q j e (inr s) = rw (differ q n s) e

  given_back : (c : Config Object) (b o m : ℕ) (y x : Object) (v : Value) → W c → object_of c b ≡ Some y → kind_of (action p b y) ≡ K.Return o v
      → object_of c o ≡ Some x → kind_of (action p o x) ≡ K.Waits b m
      → (frames_of (X.given x v).term ≡ frames_of x.term) × ((X.given x v).fault ≡ x.fault) × (is_wait (kind_of (action p o (X.given x v))) ≡ false)
  given_back c b o m y x v w hy iy hx ix = (frames_kept c o x (literal v) w hx (rw wait refl) refl, refl, no_wait (action p o (X.given x v)) still)
    where
      wait : action p o x ≡ A.Waits b m
      wait = waits_is (action p o x) b m ix

      back : action p b y ≡ A.Return o v
      back = return_is (action p b y) o v iy

      r : TypedAction p (classes (plain c)) y (A.Return o v)
      r = returning c b y o v w hy iy

      apart : b ≢ o
      apart e = let q : Some y ≡ Some x = sym hy ∙ ap (object_of c) e ∙ hx in
          let s : y ≡ x = same_some q in
          let z : A.Return o v ≡ A.Waits b m = sym back ∙ ap (action p b) s ∙ ap (λ n. action p n x) e ∙ wait in cc

      no_fault : (q : ℕ) (z : Object) → object_of c q ≡ Some z → ((e : Error) → action p q z ≢ A.Fault e) → z.fault ≡ None
      no_fault q z h n = by z.fault refl
        where
          by : (t : Option Error) → z.fault ≡ t → t ≡ None
          by None j = refl
          by (Some e) j = absurd (n e (w.fault q z e h j))

      d : Config Object
      d = put_object (put_object c b (X.returned y)) o (X.given x v)

      go : transition p (plain c) (L.Return b o v) ≡ Some (plain (put_object (put_object c b (X.returned y)) o (X.given x v)))
      go = rw (hy, no_fault b y hy (λ e j. let z = sym back ∙ j in cc), hx, no_fault o x hx (λ e j. let z = sym wait ∙ j in cc), back, wait, equals o, value_itself v, equals b) refl

      after : Typed p (plain (put_object (put_object c b (X.returned y)) o (X.given x v)))
      after = typed_kept p (plain c) (plain (put_object (put_object c b (X.returned y)) o (X.given x v))) (L.Return b o v) none written w go

      at_o : object_of (put_object (put_object c b (X.returned y)) o (X.given x v)) o ≡ Some (X.given x v)
      at_o = find_put_same o (X.given x v) (put_object c b (X.returned y)).objects

      at_b : object_of (put_object (put_object c b (X.returned y)) o (X.given x v)) b ≡ Some (X.returned y)
      at_b = find_put_other b o (X.given x v) (put_object c b (X.returned y)).objects apart ∙ find_put_same b (X.returned y) c.objects

      -- before it was given back, this was all that was served for o
      all : served_for o r.1 ≡ []
      all = let u = w.waits o b m x hx wait in
          let same : u.0 ≡ y = same_some (sym u.1 ∙ hy) in
          let one : served_for o r.1 ++ r.0 ∷ [] ≡ m ∷ [] = ap (λ z. served_for o r.1 ++ z) (sym (serves_it r.0 o)) ∙ sym (r.3 o) ∙ ap (λ (z : Object). serves o z.term) (sym same) ∙ u.2 in
          (no_part (served_for o r.1) [] (one_part (served_for o r.1) [] r.0 m one).1).0

      still : (b' m' : ℕ) → action p o (X.given x v) ≢ A.Waits b' m'
      still b' m' e = let t = after.waits o b' m' (X.given x v) at_o e in by t.0 t.1 t.2 (decide b' o) (decide b' b)
        where
          by : (z : Object) → object_of (put_object (put_object c b (X.returned y)) o (X.given x v)) b' ≡ Some z → serves o z.term ≡ m' ∷ [] → (b' ≡ o) ⊎ (b' ≢ o) → (b' ≡ b) ⊎ (b' ≢ b) → ⊥
          by z f s (inl i) k =
              let same : z ≡ X.given x v = same_some (sym f ∙ ap (object_of (put_object (put_object c b (X.returned y)) o (X.given x v))) i ∙ at_o) in
              let before : serves o x.term ≡ m' ∷ [] = sym (ap (served_for o) (under_way_kept c o x (literal v) w hx (rw wait refl) refl)) ∙ ap (λ (q : Object). serves o q.term) (sym same) ∙ s in
              let t = w.served o o m' [] x hx before in
              let q : A.Waits b m ≡ A.Waits o m' = sym wait ∙ ap (action p o) (same_some (sym hx ∙ t.1)) ∙ t.2 in
              apart (let u : b ≡ o = cc in u)
          by z f s (inr i) (inl k) =
              let same : z ≡ X.returned y = same_some (sym f ∙ ap (object_of (put_object (put_object c b (X.returned y)) o (X.given x v))) k ∙ at_b) in
              let nothing : m' ∷ [] ≡ [] = sym s ∙ ap (λ (q : Object). serves o q.term) same ∙ r.4 o ∙ all in cc
          by z f s (inr i) (inr k) =
              let old : object_of c b' ≡ Some z = sym (find_put_other b' o (X.given x v) (put_object c b (X.returned y)).objects i ∙ find_put_other b' b (X.returned y) c.objects k) ∙ f in
              let t = w.served o b' m' [] z old s in
              let q : A.Waits b m ≡ A.Waits b' m' = sym wait ∙ ap (action p o) (same_some (sym hx ∙ t.1)) ∙ t.2 in
              k (let u : b ≡ b' = cc in sym u)

  pub lawful : Lawful (terms p) (λ c. Typed p (plain c))
  lawful = record {
    sorted = λ c w. w.in_order.0;
    kept = λ c d lab w e. typed_kept p (plain c) (plain d) lab none written w (sym (move_is p c lab) ∙ ap as_plain e);
    fault_kind = λ c o x e w h f. ap kind_of (w.fault o x e h f);
    can_make = λ c o x k w h i. made_of (class_of p k) X.new_object (subst (TypedAction p (classes (plain c)) x) (new_is (action p o x) k i) (fine c o x w h)).0;
    can_call = λ c o x b m args w h i. let r = subst (TypedAction p (classes (plain c)) x) (send_is (action p o x) b m args i) (fine c o x w h) in served_by c b m args (r.0.0, r.0.1, r.0.2, r.0.3);
    can_send = λ c o x b m args w h i. let r = subst (TypedAction p (classes (plain c)) x) (async_is (action p o x) b m args i) (fine c o x w h) in served_by c b m args (r.0.0, r.0.1, r.0.2, r.0.3);
    can_take = λ c names s r f w h. let z = earliest (FitsAt p (plain c) r) names (messages_of c s r) f (w.messages s r) h in
        served_by c r f.method f.args (z.0.class, z.2.0, ap class_at z.1, z.2.1);
    has_wait = has_wait;
    given_name = given_name;
    given_back = given_back;
    waiting = λ c o x b m args w h i. frames_kept c o x (T.Wait b m) w h (rw (send_is (action p o x) b m args i) refl) refl;
  }
