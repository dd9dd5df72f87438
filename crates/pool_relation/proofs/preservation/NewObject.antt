-- A new object keeps a configuration typed.
use Rattle.std.proofs.Common.{◌≡◌, refl, sym, ap, ◌∙◌, subst, IsTrue, ℕ, [], Option, Some, None, is_some, is_none, ◌&&◌, ◌⊎◌, inl, inr, arith}
use Rattle.run_types.specs.declared.types.Value.TheVariants as V
use Rattle.run_types.specs.declared.types.NameId.{NameId}
use Rattle.run_types.specs.declared.types.Label.TheVariants as L
use Rattle.pool_syntax.specs.Terms.{ClassTree, ProgramTree}
use Rattle.pool_syntax.specs.Classes.{class_of}
use Rattle.pool_syntax.specs.Typing.{faults, vars_of_class}
use Rattle.pool_relation.specs.Action as A
use Rattle.pool_relation.specs.Action.{Object, Action, action, nil_store}
use Rattle.pool_relation.specs.Configuration.{Configuration, object_of, put_object}
use Rattle.pool_relation.specs.Transition.{running, makes, given, new_object, transition}
use Rattle.pool_relation.specs.UnderWay.{serves}
use Rattle.pool_relation.specs.Typed.{class_at, is_store_of}
use Rattle.pool_syntax.specs.Written.{is_written}
use Rattle.run_types.proofs.Laws.{first, second, equal, same_some, given_by, required}
use Rattle.pool_relation.proofs.typing.TypedTerm.{Nothing, Methods, Waits, TypedStatements}
use Rattle.pool_relation.proofs.typing.Weakening.{nothing_below, statements_weaker}
use Rattle.pool_relation.proofs.typing.AddedObjects.{Grows}
use Rattle.pool_relation.proofs.typing.CheckedProgram.{class_checked}
use Rattle.pool_relation.proofs.typing.MethodStart.{body_begun, new_store_fits}
use Rattle.pool_relation.proofs.redex.Idle.{statements_idle}
use Rattle.pool_relation.proofs.action.TypedAction.{place, Steps, TypedAction, TypedObject}
use Rattle.pool_relation.proofs.Lookup.{objects_in_order}
use Rattle.pool_relation.proofs.Invariant.{classes, Invariant}
use Rattle.pool_relation.proofs.preservation.LookupOfTwo.{Lookup, Added, Replaced, AsBefore, look_up}
use Rattle.pool_relation.proofs.preservation.ObjectUpdates.{Anew, Moves, forward_grows, object_grown, objects_kept, messages_kept, Calm, serving_kept}
use Rattle.pool_relation.proofs.FaultlessObject.{running_is}
use Rattle.pool_relation.proofs.action.NextWaits.{is_waits, does_not_wait}
use Rattle.pool_relation.proofs.preservation.OneObject.{object_typed_at, stepped, no_fault}

module _ (p : ProgramTree) (none : faults p ≡ []) (written : IsTrue (is_written p)) where
  -- a new object is typed
  pub new_object_typed : (f : ℕ → Option ℕ) (k : ℕ) (class : ClassTree) → class_of p k ≡ Some class
      → (TypedObject p f (new_object class)) × TypedStatements Methods (place p f (new_object class)) class.body × TypedStatements Nothing (place p f (new_object class)) class.body
  new_object_typed f k class e =
      let a = class_checked p k class none written e in
      let is : class_of p class.name.name.0 ≡ Some class = ap (class_of p) a.1 ∙ e in
      let body = body_begun p class.name.name.0 class f none written is in
      let store : IsTrue (is_store_of (place p f (new_object class)) (vars_of_class (class_of p class.name.name.0)) (nil_store class.vars)) =
      subst (λ (o : Option ClassTree). IsTrue (is_store_of (place p f (new_object class)) (vars_of_class o) (nil_store class.vars))) (sym is) (new_store_fits (place p f (new_object class)) class.vars) in (
        record { vars = store; term = statements_weaker Nothing Waits (place p f (new_object class)) class.body (nothing_below Waits) body },
        statements_weaker Nothing Methods (place p f (new_object class)) class.body (nothing_below Methods) body,
        body,
      )

  new_step : (c : Configuration) (o n k : ℕ) (x : Object) (class : ClassTree) → Invariant p c → object_of c o ≡ Some x
      → x.fault ≡ None → action p o x ≡ A.New k → object_of c n ≡ None → class_of p k ≡ Some class
      → Invariant p (put_object (put_object c o (given x (V.Ref n))) n (new_object class))
  new_step c o n k x class g h f a free known =
      record {
        order = record { objects = objects_in_order (put_object c o y) n z (objects_in_order c o y g.order.objects); messages = g.order.messages; no_empty = g.order.no_empty };
        objects = objects_kept p c d g.objects moves;
        messages = λ s r. messages_kept p c d s r _ moves (g.messages s r);
        serving = serving_kept p c d g.serving calm;
      }
    where
      y : Object
      y = given x (V.Ref n)

      z : Object
      z = new_object class

      d : Configuration
      d = put_object (put_object c o y) n z

      not_new : (q : ℕ) (w : Object) → object_of c q ≡ Some w → q ≡ n → ⊥
      not_new q w e s = absurd (grind (arith, sym e ∙ ap (object_of c) s ∙ free))

      forward : (q : ℕ) (w : Object) → object_of c q ≡ Some w → (v : Object) × (object_of d q ≡ Some v) × (v.class ≡ w.class)
      forward q w e = by (look_up c o y n z q)
        where
          by : Lookup c o y n z q → (v : Object) × (object_of d q ≡ Some v) × (v.class ≡ w.class)
          by (Added s i) = absurd (not_new q w e s)
          by (Replaced s i) = let same : x ≡ w = same_some (sym (ap (object_of c) s ∙ h) ∙ e) in (y, i, ap (λ o. o.class) same)
          by (AsBefore s t i) = (w, i ∙ e, refl)

      grows : Grows (classes c) (classes d)
      grows = forward_grows c d forward

      named : z.class ≡ k
      named = (class_checked p k class none written known).1

      added : object_of d n ≡ Some z
      added = by (look_up c o y n z n)
        where
          by : Lookup c o y n z n → object_of d n ≡ Some z
          by (Added s i) = i
          by (Replaced s i) = absurd (not_new o x h (sym s))
          by (AsBefore s t i) = absurd (s refl)

      step : Steps p (classes d) x y.term
      step = (subst (TypedAction p (classes c) x) a (object_typed_at p none written c o x g h)).1 (classes d) n grows (ap class_at added ∙ ap Some named)

      new_one : (TypedObject p (classes d) z) × TypedStatements Methods (place p (classes d) z) class.body × TypedStatements Nothing (place p (classes d) z) class.body
      new_one = new_object_typed (classes d) k class known

      anew_y : Anew p (classes d) o y
      anew_y = record { class = g.objects.class o x h; typed = stepped p (classes d) x y.term x.vars step.0 (object_grown p (classes c) (classes d) x grows (g.objects.typed o x h)).vars; fault = no_fault p o y f }

      anew_z : Anew p (classes d) n z
      anew_z = record { class = subst (λ (j : ℕ). IsTrue (is_some (class_of p j))) (sym named) (rw known refl); typed = new_one.0; fault = no_fault p n z refl }

      moves : Moves p c d
      moves = record { forward = forward; backward = back }
        where
          back : (q : ℕ) (w : Object) → object_of d q ≡ Some w → (object_of c q ≡ Some w) ⊎ (Anew p (classes d) q w)
          back q w e = by (look_up c o y n z q)
            where
              by : Lookup c o y n z q → (object_of c q ≡ Some w) ⊎ (Anew p (classes d) q w)
              by (Added s i) = inr (subst (λ (v : Object). Anew p (classes d) q v) (same_some (sym i ∙ e)) (subst (λ (j : ℕ). Anew p (classes d) j z) (sym s) anew_z))
              by (Replaced s i) = inr (subst (λ (v : Object). Anew p (classes d) q v) (same_some (sym i ∙ e)) (subst (λ (j : ℕ). Anew p (classes d) j y) (sym s) anew_y))
              by (AsBefore s t i) = inl (sym i ∙ e)

      before : (b m : ℕ) → ¬ (action p o x ≡ A.Waits b m)
      before b m i = absurd (grind (arith, ap is_waits a, ap is_waits i))

      calm : Calm p c d
      calm = record { forward = λ q w e. ahead q w e (look_up c o y n z q); backward = λ q w e. back q w e (look_up c o y n z q) }
        where
          ahead : (q : ℕ) (w : Object) → object_of c q ≡ Some w → Lookup c o y n z q
              → (v : Object) × (object_of d q ≡ Some v) × ((k : ℕ) → serves k v.term ≡ serves k w.term) × ((b m : ℕ) → action p q w ≡ A.Waits b m → action p q v ≡ A.Waits b m)
          ahead q w e (Added s i) = absurd (not_new q w e s)
          ahead q w e (Replaced s i) =
              let same : x ≡ w = same_some (sym (ap (object_of c) s ∙ h) ∙ e) in
              (y, i, (λ k. step.1 k ∙ ap (λ o. serves k o.term) same), (λ b m j. absurd (before b m (ap (λ n. action p n x) (sym s) ∙ ap (action p q) same ∙ j))))
          ahead q w e (AsBefore s t i) = (w, i ∙ e, (λ k. refl), (λ b m j. j))

          back : (q : ℕ) (w : Object) → object_of d q ≡ Some w → Lookup c o y n z q
              → ((v : Object) × (object_of c q ≡ Some v) × ((k : ℕ) → serves k w.term ≡ serves k v.term) × ((b m : ℕ) → action p q w ≡ A.Waits b m → action p q v ≡ A.Waits b m))
              ⊎ (((k : ℕ) → serves k w.term ≡ []) × ((b m : ℕ) → ¬ (action p q w ≡ A.Waits b m)))
          back q w e (Added s i) =
              let same : z ≡ w = same_some (sym i ∙ e) in
              let idle : (k : ℕ) → serves k class.body ≡ [] = λ k. rw (statements_idle (place p (classes d) z) class.body new_one.2) refl in
              inr ((λ k. ap (λ o. serves k o.term) (sym same) ∙ idle k), (λ b m j. does_not_wait p (classes d) q z new_one.1 b m (ap (action p q) same ∙ j)))
          back q w e (Replaced s i) =
              let same : y ≡ w = same_some (sym i ∙ e) in
              inl (x, ap (object_of c) s ∙ h, (λ k. ap (λ o. serves k o.term) (sym same) ∙ step.1 k), (λ b m j. absurd (does_not_wait p (classes d) q y step.0 b m (ap (action p q) same ∙ j))))
          back q w e (AsBefore s t i) = inl (w, sym i ∙ e, (λ k. refl), (λ b m j. j))

  none_there : {X : Type 0} (o : Option X) → IsTrue (is_none o) → o ≡ None
  none_there None h = refl
  none_there (Some x) h = absurd (grind (arith, h))

  pub new_kept : (c d : Configuration) (o n : ℕ) (k : NameId) → Invariant p c → transition p c (L.New o n k) ≡ Some d → Invariant p d
  new_kept c d o n k g e =
      let a = given_by (running c o) _ d e in
      let r = running_is c o a.0 a.1 in
      let q = required (makes (action p o a.0) k.0 && is_none (object_of c n)) _ d a.2 in
      let b = given_by (class_of p k.0) _ d q.1 in
      by a.0 (action p o a.0) refl r.0 r.1 (first _ (is_none (object_of c n)) q.0) (none_there (object_of c n) (second (makes (action p o a.0) k.0) _ q.0)) b.0 b.1 b.2
    where
      by : (x : Object) (j : Action) → action p o x ≡ j → object_of c o ≡ Some x → x.fault ≡ None → IsTrue (makes j k.0)
          → object_of c n ≡ None → (class : ClassTree) → class_of p k.0 ≡ Some class
          → Some (put_object (put_object c o (given x (V.Ref n))) n (new_object class)) ≡ Some d → Invariant p d
      by x (A.New m) i h f s free class known z =
          let same : m ≡ k.0 = equal m k.0 s in
          subst (Invariant p) (same_some z) (new_step c o n k.0 x class g h f (i ∙ ap A.New same) free known)
      by x _ i h f s free class known z = absurd (grind (arith, s))
