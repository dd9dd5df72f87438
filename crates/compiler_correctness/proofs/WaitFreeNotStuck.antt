-- Typed objects whose term has no wait are neither stuck nor waiting.
use Rattle.std.proofs.Common.{◌≡◌, ◌≢◌, ◌⊎◌, inl, inr, refl, sym, ap, subst, ◌∙◌, IsTrue, ℕ, zero, suc, ◌==◌, List, [], ◌∷◌, length, Option, Some, None, is_none, Bool, true, false, if◌then◌else◌}
use Rattle.std.specs.Prelude.{slice_get, ◌&&◌}
use Rattle.run_types.specs.declared.types.Value.{Value}
use Rattle.run_types.specs.declared.types.Value.TheVariants as V
use Rattle.run_types.specs.declared.types.Error.{Error}
use Rattle.pool_syntax.specs.Terms.{Store, Statements, MethodTree, ProgramTree}
use Rattle.pool_syntax.specs.Typing.{Scope, faults}
use Rattle.pool_relation.specs.Reducible.{Choice, AsStatements}
use Rattle.pool_relation.specs.Action as A
use Rattle.pool_relation.specs.Action.{Object, Action, action, method_of}
use Rattle.run_types.specs.Values.{is_true}
use Rattle.pool_syntax.specs.Written.{is_written}
use Rattle.pool_relation.specs.Typed.{Typed, class_at}
use Rattle.pool_relation.specs.Transition as X
use Rattle.pool_relation.specs.Transition.{refilled, plain_choice}
use Rattle.run_types.specs.Partial.{◌>>◌, require}
use Rattle.run_types.proofs.Laws.{equals, decide, differ, same_some}
use Rattle.pool_relation.proofs.Laws.{Nothing, Methods, TypedStatements, statements_weaker, nothing_below, at, FitValues, TypedChoices, place, VarsFit, TypedAction, TypedObject, classes, invariant_of, object_grown, action_typed, does_not_wait, stepped, object_typed_at, offers, serving_typed}
use Rattle.mesh_semantics.specs.Config.{Config, object_of}
use Rattle.mesh_of_terms.specs.Terms.{plain}
use Rattle.compiler_correctness.proofs.SameKinds.{calm}

plain_typed : (g : Scope) (c : Choice) (ss : Statements) → plain_choice (Some c) ≡ Some ss → TypedStatements Nothing g c.work → TypedStatements Nothing g ss
plain_typed g c ss e d = by (is_true c.guard && is_none c.answer) e
  where
    by : (b : Bool) → (require b >> Some c.work) ≡ Some ss → TypedStatements Nothing g ss
    by true i = subst (TypedStatements Nothing g) (same_some i) d
    by false i = absurd (cc)

-- the work that is picked is typed
work_at : (g : Scope) (cs : List Choice) (i : ℕ) (ss : Statements) → TypedChoices g cs → plain_choice (slice_get cs i) ≡ Some ss → TypedStatements Nothing g ss
work_at g [] i ss d e = absurd (cc)
work_at g (c ∷ cs) zero ss d e = plain_typed g c ss e d.3
work_at g (c ∷ cs) (suc i) ss d e = work_at g cs i ss d.4 e

module _ (p : ProgramTree) (none : faults p ≡ []) (written : IsTrue (is_written p)) where
  pub not_stuck : (f : ℕ → Option ℕ) (o : ℕ) (x : Object) → f o ≡ Some x.class → TypedObject p f x → action p o x ≡ A.Stuck → ⊥
  not_stuck f o x here object e = subst (TypedAction p f x) e (action_typed p f x o none written here object)

  calm_is : (a : Action) → (a ≡ A.Stuck → ⊥) → ((b m : ℕ) → a ≡ A.Waits b m → ⊥) → calm a ≡ true
  calm_is A.Stuck n w = absurd (n refl)
  calm_is (A.Waits b m) n w = absurd (w b m refl)
  calm_is A.Finished n w = refl
  calm_is (A.Local term vars) n w = refl
  calm_is (A.Fault e) n w = refl
  calm_is (A.New c) n w = refl
  calm_is (A.Send b m args) n w = refl
  calm_is (A.Async b m args) n w = refl
  calm_is (A.Write item) n w = refl
  calm_is (A.Answer names) n w = refl
  calm_is (A.Select cs) n w = refl
  calm_is (A.Return k v) n w = refl

  pub calm_at : (f : ℕ → Option ℕ) (o : ℕ) (x : Object) → f o ≡ Some x.class → TypedObject p f x → TypedStatements Methods (place p f x) x.term → calm (action p o x) ≡ true
  calm_at f o x here object d = calm_is (action p o x) (not_stuck f o x here object) (does_not_wait p f o x d)

  module _ (c : Config Object) (o : ℕ) (x : Object) (w : Typed p (plain c)) (h : object_of c o ≡ Some x) where
    abbrev f : ℕ → Option ℕ
    f = classes (plain c)

    object : TypedObject p (classes (plain c)) x
    object = (invariant_of p (plain c) w).objects.typed o x h

    pub next : TypedAction p (classes (plain c)) x (action p o x)
    next = object_typed_at p none written (plain c) o x (invariant_of p (plain c) w) h

    pub is_next : (a : Action) → action p o x ≡ a → TypedAction p (classes (plain c)) x a
    is_next a e = subst (TypedAction p (classes (plain c)) x) e next

    pub here_not_stuck : action p o x ≡ A.Stuck → ⊥
    here_not_stuck = not_stuck (classes (plain c)) o x (ap class_at h) object

    pub faulted_not_stuck : (e : Option Error) → action p o (record x { fault = e }) ≡ A.Stuck → ⊥
    faulted_not_stuck e = not_stuck (classes (plain c)) o (record x { fault = e }) (ap class_at h) (record { vars = object.vars; term = object.term })

    -- with this term and these variables
    pub calm_with : (ss : Statements) (vars : Store) → TypedStatements Methods (place p (classes (plain c)) x) ss → VarsFit p (classes (plain c)) x vars
        → calm (action p o (record x { term = ss; vars = vars })) ≡ true
    calm_with ss vars d v = calm_at (classes (plain c)) o (record x { term = ss; vars = vars }) (ap class_at h) (stepped p (classes (plain c)) x ss vars d v) d

    pub calm_term : (ss : Statements) → TypedStatements Methods (place p (classes (plain c)) x) ss → calm (action p o (record x { term = ss })) ≡ true
    calm_term ss d = calm_with ss x.vars d object.vars

    pub calm_named : (k n : ℕ) → action p o x ≡ A.New k → object_of c n ≡ None → calm (action p o (X.given x (V.Ref n))) ≡ true
    calm_named k n e free =
        let steps = (is_next (A.New k) e).1 more n (record { kept = λ q j i. grows q j i (decide q n) }) (rw (equals n) refl) in
        calm_at more o (X.given x (V.Ref n)) (grows o x.class (ap class_at h) (decide o n))
        (stepped p more x (X.given x (V.Ref n)).term x.vars steps.0 (object_grown p (classes (plain c)) more x (record { kept = λ q j i. grows q j i (decide q n) }) object).vars) steps.0
      where
        more : ℕ → Option ℕ
        more q = if q == n then Some k else classes (plain c) q

        grows : (q j : ℕ) → classes (plain c) q ≡ Some j → (q ≡ n) ⊎ (q ≢ n) → (if q == n then Some k else classes (plain c) q) ≡ Some j
        grows q j i (inl s) = absurd (let z : None ≡ Some j = sym (ap class_at (ap (object_of c) s ∙ free)) ∙ i in cc)
        grows q j i (inr s) = rw (differ q n s) i

    pub calm_picked : (i : ℕ) (ss : Statements) (a : Action) → action p o x ≡ a → X.picked a i ≡ Some ss → calm (action p o (refilled x (AsStatements ss))) ≡ true
    calm_picked (suc i) ss (A.Select cs) e q =
        let r = is_next (A.Select cs) e in
        calm_term _ (r.2.0 ss (statements_weaker Nothing Methods (at (place p (classes (plain c)) x) r.0) ss (nothing_below Methods) (work_at (at (place p (classes (plain c)) x) r.0) cs i ss r.1 q)))
    calm_picked zero ss (A.Select cs) e q = absurd (cc)
    calm_picked i ss _ e q = absurd (cc)

    pub calm_serving : (m : ℕ) (v : X.Offer) (t : MethodTree) (caller : Option ℕ) (args : List Value) → X.offer (action p o x) m ≡ Some v → method_of p x.class m (length args) ≡ Some t
        → FitValues (place p (classes (plain c)) x) t.params args → calm (action p o (X.serving x t caller args v.work)) ≡ true
    calm_serving m v t caller args e known fit =
        let off = offers p none written (classes (plain c)) x (action p o x) m v next e in
        calm_term _ (serving_typed p none written (classes (plain c)) x off.0 m t caller args v.work known fit off.1 off.2).0
