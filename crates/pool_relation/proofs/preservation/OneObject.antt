-- A transition of one object alone keeps a configuration typed.
use Rattle.std.proofs.Common.{◌≡◌, refl, sym, ap, ◌∙◌, subst, IsTrue, ℕ, suc, zero, List, [], ◌∷◌, Option, Some, None, is_none, false, ◌&&◌, slice_get, append-nil, arith}
use Rattle.run_types.specs.declared.types.Error.{Error}
use Rattle.run_types.specs.declared.types.Item.{Item}
use Rattle.run_types.specs.declared.types.Label.TheVariants as L
use Rattle.pool_syntax.specs.Terms.{Store, Statements, ProgramTree}
use Rattle.pool_syntax.specs.Typing.{Scope, faults}
use Rattle.pool_relation.specs.Action as A
use Rattle.pool_relation.specs.Action.{Object, Action, action}
use Rattle.run_types.specs.Values.{is_true}
use Rattle.pool_relation.specs.Reducible.{Choice, AsStatements}
use Rattle.run_types.specs.Tables.{Pair}
use Rattle.run_types.specs.Message.{Message}
use Rattle.pool_relation.specs.Configuration.{Configuration, object_of, put_object, messages_of}
use Rattle.pool_relation.specs.Transition.{running, local_step, writes, fails, picked, plain_choice, done, refilled, transition}
use Rattle.pool_relation.specs.UnderWay.{serves}
use Rattle.pool_relation.specs.Typed.{class_at}
use Rattle.pool_syntax.specs.Written.{is_written}
use Rattle.pool_relation.proofs.typing.TypedTerm.{Nothing, Methods, Waits, TypedStatements}
use Rattle.pool_relation.proofs.typing.Weakening.{Below, nothing_below, statements_weaker}
use Rattle.pool_relation.proofs.redex.TypedRedex.{at, TypedChoices}
use Rattle.pool_relation.proofs.action.TypedAction.{place, VarsFit, Steps, TypedAction, TypedObject}
use Rattle.pool_relation.proofs.action.NextAction.{action_typed}
use Rattle.pool_relation.proofs.redex.Idle.{statements_idle}
use Rattle.pool_relation.proofs.Lookup.{objects_in_order}
use Rattle.pool_relation.proofs.Invariant.{classes, MessagesFit, InOrder, Invariant}
use Rattle.pool_relation.proofs.preservation.ObjectUpdates.{objects_kept, messages_kept, serving_kept, after_put, put_moves, put_calm}
use Rattle.run_types.proofs.Laws.{given_by, required, same_error}
use Rattle.pool_relation.proofs.FaultlessObject.{running_is}
use Rattle.pool_relation.proofs.action.NextWaits.{is_waits, does_not_wait}

pub methods_below : Below Methods Waits
methods_below = record { methods = λ h. refl; waits = λ h. absurd (grind (arith, h)) }

-- an object with another term
pub stepped : (p : ProgramTree) (f : ℕ → Option ℕ) (x : Object) (ss : Statements) (vars : Store)
    → TypedStatements Methods (place p f x) ss
    → VarsFit p f x vars → TypedObject p f (record x { term = ss; vars = vars })
stepped p f x ss vars d v = record { vars = v; term = statements_weaker Methods Waits (place p f x) ss methods_below d }

-- an object without fault
pub no_fault : (p : ProgramTree) (o : ℕ) (y : Object) → y.fault ≡ None → (e : Error) → y.fault ≡ Some e → action p o y ≡ A.Fault e
no_fault p o y n e s = absurd (grind (arith, sym n ∙ s))

module _ (p : ProgramTree) (none : faults p ≡ []) (written : IsTrue (is_written p)) where
  -- what an object of the configuration does next
  pub object_typed_at : (c : Configuration) (o : ℕ) (x : Object) → Invariant p c → object_of c o ≡ Some x → TypedAction p (classes c) x (action p o x)
  object_typed_at c o x g e = action_typed p (classes c) x o none written (ap class_at e) (g.objects.typed o x e)

  pub one_step : (c : Configuration) (o : ℕ) (x y : Object) (ms : List (Pair × List Message)) → Invariant p c
      → object_of c o ≡ Some x → y.class ≡ x.class → TypedObject p (classes c) y
      → ((e : Error) → y.fault ≡ Some e → action p o y ≡ A.Fault e) → ((k : ℕ) → serves k y.term ≡ serves k x.term)
      → ((b m : ℕ) → ¬ (action p o x ≡ A.Waits b m)) → ((b m : ℕ) → ¬ (action p o y ≡ A.Waits b m)) → InOrder (after_put c o y ms)
      → ((s r : ℕ) → MessagesFit p c s r (messages_of (after_put c o y ms) s r)) → Invariant p (after_put c o y ms)
  one_step c o x y ms g e k f a s b w order fit =
      let m = put_moves p c o x y ms e k (g.objects.class o x e) f a in
      record {
        order = order;
        objects = objects_kept p c (after_put c o y ms) g.objects m;
        messages = λ i j. messages_kept p c (after_put c o y ms) i j _ m (fit i j);
        serving = serving_kept p c (after_put c o y ms) g.serving (put_calm p c o x y ms e s b w);
      }

  -- with the same messages
  same_messages : (c : Configuration) (o : ℕ) (y : Object) → Invariant p c → InOrder (put_object c o y)
  same_messages c o y g = record { objects = objects_in_order c o y g.order.objects; messages = g.order.messages; no_empty = g.order.no_empty }

  -- an object without fault goes on with this term and these variables
  goes_on : (c : Configuration) (o : ℕ) (x : Object) (ss : Statements) (vars : Store) → Invariant p c → object_of c o ≡ Some x
      → x.fault ≡ None → is_waits (action p o x) ≡ false
      → Steps p (classes c) x ss → VarsFit p (classes c) x vars → Invariant p (put_object c o (record x { term = ss; vars = vars }))
  goes_on c o x ss vars g e n w d v =
      one_step c o x (record x { term = ss; vars = vars }) c.messages g e refl (stepped p (classes c) x ss vars d.0 v) (no_fault p o (record x { term = ss; vars = vars }) n) d.1
      (λ b m a. absurd (grind (arith, w, ap is_waits a))) (does_not_wait p (classes c) o (record x { term = ss; vars = vars }) d.0)
      (same_messages c o (record x { term = ss; vars = vars }) g) g.messages

  pub local_kept : (c d : Configuration) (o : ℕ) → Invariant p c → transition p c (L.Local o) ≡ Some d → Invariant p d
  local_kept c d o g e =
      let a = given_by (running c o) _ d e in
      let r = running_is c o a.0 a.1 in
      let b = given_by (local_step a.0 (action p o a.0)) _ d a.2 in
      by a.0 (action p o a.0) refl r.0 r.1 (object_typed_at c o a.0 g r.0) b.0 b.1 b.2
    where
      by : (x : Object) (k : Action) → action p o x ≡ k → object_of c o ≡ Some x → x.fault ≡ None → TypedAction p (classes c) x k
          → (y : Object) → local_step x k ≡ Some y → Some (put_object c o y) ≡ Some d → Invariant p d
      by x (A.Local term vars) i h n f y s z =
          let same : record x { term = term; vars = vars } ≡ y = cc in
          let there : put_object c o y ≡ d = cc in
          subst (Invariant p) there (subst (λ (w : Object). Invariant p (put_object c o w)) same (goes_on c o x term vars g h n (ap is_waits i) f.0 f.1))
      by x _ i h n f y s z = absurd (grind (arith, s))

  pub write_kept : (c d : Configuration) (o : ℕ) (item : Item) → Invariant p c → transition p c (L.Write o item) ≡ Some d → Invariant p d
  write_kept c d o item g e =
      let a = given_by (running c o) _ d e in
      let r = running_is c o a.0 a.1 in
      let b = required (writes (action p o a.0) item) _ d a.2 in
      by a.0 (action p o a.0) refl r.0 r.1 (object_typed_at c o a.0 g r.0) b.0 b.1
    where
      by : (x : Object) (k : Action) → action p o x ≡ k → object_of c o ≡ Some x → x.fault ≡ None → TypedAction p (classes c) x k
          → IsTrue (writes k item) → Some (put_object c o (done x)) ≡ Some d → Invariant p d
      by x (A.Write j) i h n f s z =
          let there : put_object c o (done x) ≡ d = cc in
          subst (Invariant p) there (goes_on c o x (done x).term x.vars g h n (ap is_waits i) f (g.objects.typed o x h).vars)
      by x _ i h n f s z = absurd (grind (arith, s))

  -- what an object does next does not depend on its fault
  same_action : (o : ℕ) (x : Object) (e : Option Error) → action p o (record x { fault = e }) ≡ action p o x
  same_action o x e = refl

  pub fault_kept : (c d : Configuration) (o : ℕ) (error : Error) → Invariant p c → transition p c (L.Fault o error) ≡ Some d → Invariant p d
  fault_kept c d o error g e =
      let a = given_by (running c o) _ d e in
      let r = running_is c o a.0 a.1 in
      let b = required (fails (action p o a.0) error) _ d a.2 in
      by a.0 (action p o a.0) refl r.0 b.0 b.1
    where
      by : (x : Object) (k : Action) → action p o x ≡ k → object_of c o ≡ Some x → IsTrue (fails k error)
          → Some (put_object c o (record x { fault = Some error })) ≡ Some d → Invariant p d
      by x (A.Fault f) i h s z =
          let y : Object = record x { fault = Some error } in
          let same : f ≡ error = same_error f error s in
          let a : action p o y ≡ A.Fault error = same_action o x (Some error) ∙ i ∙ ap A.Fault same in
          let there : put_object c o y ≡ d = cc in
          let fault : (e : Error) → y.fault ≡ Some e → action p o y ≡ A.Fault e = λ e q. let t : error ≡ e = cc in a ∙ ap A.Fault t in
          subst (Invariant p) there (one_step c o x y c.messages g h refl (record { vars = (g.objects.typed o x h).vars; term = (g.objects.typed o x h).term }) fault (λ k. refl)
          (λ b m q. absurd (grind (arith, ap is_waits i, ap is_waits q))) (λ b m q. absurd (grind (arith, ap is_waits a, ap is_waits q))) (same_messages c o y g) g.messages)
      by x _ i h s z = absurd (grind (arith, s))

  work_typed : (g : Scope) (cs : List Choice) (i : ℕ) (ss : Statements) → TypedChoices g cs
      → plain_choice (slice_get cs i) ≡ Some ss → TypedStatements Nothing g ss
  work_typed g [] i ss d e = absurd (grind (arith, e))
  work_typed g (c ∷ cs) zero ss d e =
      let a = required (is_true c.guard && is_none c.answer) (Some c.work) ss e in
      let s : c.work ≡ ss = cc in
      subst (TypedStatements Nothing g) s d.3
  work_typed g (c ∷ cs) (suc i) ss d e = work_typed g cs i ss d.4 e

  pub pick_kept : (c d : Configuration) (o n : ℕ) → Invariant p c → transition p c (L.Pick o n) ≡ Some d → Invariant p d
  pick_kept c d o n g e =
      let a = given_by (running c o) _ d e in
      let r = running_is c o a.0 a.1 in
      let b = given_by (picked (action p o a.0) n) _ d a.2 in
      by a.0 (action p o a.0) n refl r.0 r.1 (object_typed_at c o a.0 g r.0) b.0 b.1 b.2
    where
      by : (x : Object) (k : Action) (n : ℕ) → action p o x ≡ k → object_of c o ≡ Some x → x.fault ≡ None
          → TypedAction p (classes c) x k → (ss : Statements) → picked k n ≡ Some ss
          → Some (put_object c o (refilled x (AsStatements ss))) ≡ Some d → Invariant p d
      by x (A.Select cs) (suc i) k h n f ss s z =
          let t = work_typed (at (place p (classes c) x) f.0) cs i ss f.1 s in
          let new = statements_weaker Nothing Methods (at (place p (classes c) x) f.0) ss (nothing_below Methods) t in
          let there : put_object c o (refilled x (AsStatements ss)) ≡ d = cc in
          let serve : (q : ℕ) → serves q (refilled x (AsStatements ss)).term ≡ serves q x.term = λ q. f.2.1 ss q ∙ rw (statements_idle (at (place p (classes c) x) f.0) ss t) (append-nil (serves q x.term)) in
          subst (Invariant p) there (goes_on c o x (refilled x (AsStatements ss)).term x.vars g h n (ap is_waits k) (f.2.0 ss new, serve) (g.objects.typed o x h).vars)
      by x (A.Select cs) zero k h n f ss s z = absurd (grind (arith, s))
      by x _ i k h n f ss s z = absurd (grind (arith, s))
