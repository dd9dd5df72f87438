-- The arguments of a call fit the method.
use Rattle.std.proofs.Common.{◌≡◌, inl, inr, refl, sym, ap, subst, ◌∙◌, IsTrue, ℕ, ◌==◌, List, [], ◌∷◌, length, Some, All, Bool, true, false}
use Rattle.std.proofs.lemmas.List.Elements.{All-head, All-tail}
use Rattle.run_types.specs.declared.types.Value.{Value}
use Rattle.pool_syntax.specs.Terms.{MethodTree, ProgramTree}
use Rattle.pool_syntax.specs.Typing.{faults}
use Rattle.pool_relation.specs.Action as A
use Rattle.pool_relation.specs.Action.{Object, action, method_of}
use Rattle.run_types.specs.Message.{Message}
use Rattle.run_types.specs.Same.{are_same}
use Rattle.pool_syntax.specs.Written.{is_written}
use Rattle.pool_relation.specs.Typed.{Typed, class_at, scope, all_fit}
use Rattle.run_types.proofs.Laws.{first, second, equal, same_some, same_values}
use Rattle.pool_relation.proofs.Laws.{FitValues, running_scope, place, CanReceive, FitsAt, classes, fit_values_of}
use Rattle.mesh_semantics.specs.Kind as K
use Rattle.mesh_semantics.specs.Kind.{calls}
use Rattle.mesh_semantics.specs.Config.{Config, object_of, messages_of}
use Rattle.mesh_semantics.specs.Moves.{first_message}
use Rattle.mesh_semantics.specs.Simulates.{IsCalled}
use Rattle.mesh_of_terms.specs.Terms.{kind_of, terms, plain}
use Rattle.compiler_correctness.proofs.SameKinds.{calls_is, posts_is}
use Rattle.compiler_correctness.proofs.WaitFreeNotStuck.{is_next}

earliest : (P : Message → Type 0) (names : List ℕ) (ms : List Message) (f : Message) → All P ms → first_message names ms ≡ Some f → P f
earliest P names [] f a e = absurd (cc)
earliest P names (m ∷ ms) f a e = by (K.has_name names m.method) refl (earliest P names ms f (All-tail P m ms a))
  where
    by : (b : Bool) → K.has_name names m.method ≡ b → (first_message names ms ≡ Some f → P f) → P f
    by true i k = subst P (same_some (rw i at e)) (All-head P m ms a)
    by false i k = k (rw i at e)

module _ (p : ProgramTree) (none : faults p ≡ []) (written : IsTrue (is_written p)) (c : Config Object) (o : ℕ) (x : Object) (w : Typed p (plain c)) (h : object_of c o ≡ Some x) where
  abbrev Fits : ℕ → List Value → Type 0
  Fits m args = (t : MethodTree) × (method_of p x.class m (length args) ≡ Some t) × FitValues (place p (classes (plain c)) x) t.params args

  received : (m : ℕ) (args : List Value) → CanReceive p (classes (plain c)) o m args → Fits m args
  received m args (k, t, i, j, fit) =
      let same : k ≡ x.class = same_some (sym i ∙ ap class_at h) in
      (t, subst (λ n. method_of p n m (length args) ≡ Some t) same j, subst (λ n. FitValues (running_scope p n (classes (plain c))) t.params args) same fit)

  message : (m : ℕ) (args : List Value) (f : Message) → FitsAt p (plain c) o f → f.method ≡ m → f.args ≡ args → Fits m args
  message m args f z i j =
      subst (λ n. Fits n args) i (subst (λ vs. Fits f.method vs) j (by z.0 (same_some (sym z.1 ∙ h)) z.2.0 z.2.1 z.2.2))
    where
      by : (y : Object) → y ≡ x → (t : MethodTree) → method_of p y.class f.method (length f.args) ≡ Some t → IsTrue (all_fit (scope p (plain c) y.class) f.args t.params) → Fits f.method f.args
      by y s t k fit = subst (λ (z : Object). (method_of p z.class f.method (length f.args) ≡ Some t) → IsTrue (all_fit (scope p (plain c) z.class) f.args t.params) → Fits f.method f.args) (sym s)
          (λ k fit. (t, k, fit_values_of (scope p (plain c) x.class) t.params f.args fit)) k fit

  pub fits : (m : ℕ) (args : List Value) → IsCalled (terms p) c o m args → Fits m args
  fits m args (inl (k, z, i, t)) = by (calls (kind_of (action p k z)) o m args) refl
    where
      by : (b : Bool) → calls (kind_of (action p k z)) o m args ≡ b → Fits m args
      by true j = received m args (is_next p none written c k z w i (A.Send o m args) (calls_is (action p k z) o m args j)).0
      by false j = received m args (is_next p none written c k z w i (A.Async o m args) (posts_is (action p k z) o m args (rw j at t))).0
  fits m args (inr (s, names, f, e, q)) =
      message m args f (earliest (FitsAt p (plain c) o) names (messages_of c s o) f (w.messages s o) e) (equal f.method m (first (f.method == m) (are_same f.args args) q)) (same_values f.args args (second (f.method == m) (are_same f.args args) q))
