-- A write keeps the methods under way of its object.
use Rattle.std.proofs.Common.{◌≡◌, refl, sym, ap, ◌∙◌, IsTrue, ℕ, List, [], ◌++◌, length, Option, Some, None, Bool, true, false, if◌then◌else◌}
use Rattle.std.specs.Prelude.{is_some}
use Rattle.std.specs.List.{list_any}
use Rattle.run_types.specs.declared.types.Value.{Value}
use Rattle.run_types.specs.declared.types.Value.TheVariants as V
use Rattle.run_types.specs.declared.types.Error.TheVariants.{NilOperand, NoOpenGuard}
use Rattle.run_types.specs.declared.types.Item.{Item}
use Rattle.pool_syntax.specs.Terms as T
use Rattle.pool_syntax.specs.Terms.{Store, Statements, MethodTree, ProgramTree}
use Rattle.pool_syntax.specs.Classes.{class_of}
use Rattle.pool_syntax.specs.Typing.{Scope, faults}
use Rattle.run_types.specs.Values.{Outcome, Gives, Fails, WrongSort, prefix_value, infix_value, is_true, is_nil, not_bool}
use Rattle.pool_relation.specs.Reducible as R
use Rattle.pool_relation.specs.Reducible.{Choice, Reducible, Found, Evaluated, At, AsStatements, statements_redex}
use Rattle.pool_relation.specs.Action as A
use Rattle.pool_relation.specs.Action.{Object, Action, action, read, on_outcome, on_call, redex_action, value_of, method_of}
use Rattle.pool_relation.specs.Configuration.{Configuration, object_of}
use Rattle.pool_relation.specs.UnderWay.{Activity, in_statements, frames_of}
use Rattle.pool_relation.specs.Transition.{done}
use Rattle.pool_relation.specs.Typed.{Typed}
use Rattle.pool_syntax.specs.Written.{is_written}
use Rattle.pool_relation.proofs.Laws.{Ends, is_statement, statements_activities, place, TypedObject, classes, invariant_of}

abbrev is_write : Action → Bool
is_write (A.Write item) = true
is_write _ = false

chosen : (b : Bool) (a c : Action) → is_write a ≡ false → is_write c ≡ false → is_write (if b then a else c) ≡ false
chosen true a c e f = e
chosen false a c e f = f

no_read : (x : Object) (a b : Option Value) → is_write (read x a b) ≡ false
no_read x (Some v) b = refl
no_read x None (Some v) = refl
no_read x None None = refl

no_outcome : (x : Object) (r : Outcome) → is_write (on_outcome x r) ≡ false
no_outcome x (Gives v) = refl
no_outcome x (Fails e) = refl
no_outcome x WrongSort = refl

no_call : (x : Object) (args : List Value) (m : Option MethodTree) → is_write (on_call x args m) ≡ false
no_call x args None = refl
no_call x args (Some m) = refl

never : {X : Type 0} (a : Action) → is_write a ≡ true → is_write a ≡ false → X
never a e f = absurd (let z = sym e ∙ f in cc)

-- its redex is a statement, in which nothing is under way
at_write : (p : ProgramTree) (o : ℕ) (x : Object) (u : Store) (g : Scope) (r : Reducible) (now : List Activity) → is_write (redex_action p o x u r) ≡ true → Ends g r now
    → (is_statement r ≡ true) × (now ≡ [])
at_write p o x u g (R.Print item) now h e = (refl, e)
at_write p o x u g R.OwnName now h e = absurd (let z : false ≡ true = h in cc)
at_write p o x u g (R.Read n) now h e = never (redex_action p o x u (R.Read n)) h (no_read x (value_of u n) (value_of x.vars n))
at_write p o x u g (R.Make c) now h e = never (redex_action p o x u (R.Make c)) h (chosen (is_some (class_of p c)) (A.New c) A.Stuck refl refl)
at_write p o x u g (R.Unary op v) now h e = never (redex_action p o x u (R.Unary op v)) h (no_outcome x (prefix_value op v))
at_write p o x u g (R.Binary op v w) now h e = never (redex_action p o x u (R.Binary op v w)) h (no_outcome x (infix_value op v w))
at_write p o x u g (R.Invoke m args) now h e = never (redex_action p o x u (R.Invoke m args)) h (no_call x args (method_of p x.class m (length args)))
at_write p o x u g (R.SynchronousSend (V.Ref b) m args) now h e = absurd (let z : false ≡ true = h in cc)
at_write p o x u g (R.SynchronousSend V.Nil m args) now h e = absurd (let z : false ≡ true = h in cc)
at_write p o x u g (R.SynchronousSend (V.Int i) m args) now h e = absurd (let z : false ≡ true = h in cc)
at_write p o x u g (R.SynchronousSend (V.Bool b) m args) now h e = absurd (let z : false ≡ true = h in cc)
at_write p o x u g (R.Leave v) now h e = absurd (let z : false ≡ true = h in cc)
at_write p o x u g (R.Waiting b m) now h e = absurd (let z : false ≡ true = h in cc)
at_write p o x u g (R.Set n v) now h e = never (redex_action p o x u (R.Set n v)) h (chosen (is_some (value_of u n)) _ _ refl (chosen (is_some (value_of x.vars n)) _ _ refl refl))
at_write p o x u g (R.Drop v) now h e = absurd (let z : false ≡ true = h in cc)
at_write p o x u g (R.Post (V.Ref b) m args) now h e = absurd (let z : false ≡ true = h in cc)
at_write p o x u g (R.Post V.Nil m args) now h e = absurd (let z : false ≡ true = h in cc)
at_write p o x u g (R.Post (V.Int i) m args) now h e = absurd (let z : false ≡ true = h in cc)
at_write p o x u g (R.Post (V.Bool b) m args) now h e = absurd (let z : false ≡ true = h in cc)
at_write p o x u g (R.Branch (V.Bool true) these those) now h e = absurd (let z : false ≡ true = h in cc)
at_write p o x u g (R.Branch (V.Bool false) these those) now h e = absurd (let z : false ≡ true = h in cc)
at_write p o x u g (R.Branch V.Nil these those) now h e = absurd (let z : false ≡ true = h in cc)
at_write p o x u g (R.Branch (V.Int i) these those) now h e = absurd (let z : false ≡ true = h in cc)
at_write p o x u g (R.Branch (V.Ref b) these those) now h e = absurd (let z : false ≡ true = h in cc)
at_write p o x u g (R.Loop c ss) now h e = absurd (let z : false ≡ true = h in cc)
at_write p o x u g (R.Accept names) now h e = absurd (let z : false ≡ true = h in cc)
at_write p o x u g (R.Choose cs) now h e = never (redex_action p o x u (R.Choose cs)) h
    (chosen (list_any (λ c. is_nil c.guard) cs) (A.Fault NilOperand) _ refl (chosen (list_any (λ c. not_bool c.guard) cs) A.Stuck _ refl (chosen (list_any (λ c. is_true c.guard) cs) (A.Select cs) (A.Fault NoOpenGuard) refl refl)))
at_write p o x u g (R.Finish None v work) now h e = absurd (let z : false ≡ true = h in cc)
at_write p o x u g (R.Finish (Some k) v work) now h e = absurd (let z : false ≡ true = h in cc)

module _ (p : ProgramTree) (none : faults p ≡ []) (written : IsTrue (is_written p)) where
  -- as many methods are under way after a write
  pub write_keeps_frames : (c : Configuration) (o : ℕ) (x : Object) (item : Item) → Typed p c → object_of c o ≡ Some x → action p o x ≡ A.Write item → frames_of (done x).term ≡ frames_of x.term
  write_keeps_frames c o x item w h a = ap length (by (statements_redex [] x.term) refl)
    where
      typed : TypedObject p (classes c) x
      typed = (invariant_of p c w).objects.typed o x h

      is : is_write (action p o x) ≡ true
      is = rw a refl

      by : (f : Found (Unit {0})) → statements_redex [] x.term ≡ f → in_statements (done x).term ≡ in_statements x.term
      by (Evaluated v) q = absurd (let z : false ≡ true = rw q at is in cc)
      by (At r u) q =
          let b = statements_activities (place p (classes c) x) [] x.term typed.term r u q in
          let k = at_write p o x u (place p (classes c) x) r b.now (rw q at is) b.ends in
          b.new_is (AsStatements T.Done) k.0 ∙ ap (λ z. b.before ++ z) (sym k.1) ∙ sym b.old_is
