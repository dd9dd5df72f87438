-- A local step of the term is a local step of the code.
use Rattle.run_types.specs.declared.frames.CodeObject.{CodeObject}
use Rattle.std.proofs.Common.{◌≡◌, refl, sym, ap, ◌∙◌, subst, ℕ, ◌==◌, List, [], length, Option, Some, None, is_some, Bool, true, false, arith}
use Rattle.std.specs.Prelude.{slice_get, if◌then◌else◌}
use Rattle.run_types.specs.declared.types.Value.{Value}
use Rattle.run_types.specs.declared.types.Value.TheVariants as V
use Rattle.run_types.specs.declared.types.Error.{Error}
use Rattle.run_types.specs.declared.types.Error.TheVariants.{NilOperand, NoOpenGuard}
use Rattle.pool_syntax.specs.Terms as T
use Rattle.pool_syntax.specs.Terms.{Store, Expression, Statement, Statements, MethodTree, ClassTree, ProgramTree}
use Rattle.pool_syntax.specs.Classes.{class_of, named_method}
use Rattle.run_types.specs.Values.{Outcome, Gives, Fails, WrongSort, prefix_value, infix_value}
use Rattle.pool_relation.specs.Reducible as R
use Rattle.pool_relation.specs.Reducible.{Choice, Reducible, Contractum, AsExpression, AsStatements, fill_statements, set_value}
use Rattle.pool_relation.specs.Action as A
use Rattle.pool_relation.specs.Action.{Object, Action, value_of, literal, temps_of, becomes, on_outcome, read, on_call, on_assignment, on_branch, on_select, on_finish, on_object, method_of, method_in, with_count, redex_action}
use Rattle.code_semantics.specs.declared.unit.Instr.TheVariants as I
use Rattle.run_types.specs.declared.types.Serves.TheVariants as S
use Rattle.code_semantics.specs.declared.unit.ClassCode.{ClassCode}
use Rattle.code_semantics.specs.Frames.{code_of}
use Rattle.code_semantics.specs.Step.{frames_stepped}
use Rattle.pool_compile.specs.Code.{Numbering, names_of, class_code}
use Rattle.pool_compile.specs.StandsFor.{Head, keys, values}
use Rattle.pool_compile.proofs.Focus.{Focus}
use Rattle.pool_compile.proofs.MethodPositions.{set_keys}
use Rattle.pool_compile.specs.TextPrograms.{are_text_methods}
use Rattle.pool_compile.proofs.Methods.{begins}
use Rattle.pool_compile.proofs.StepResults.{Target, Lands, own_name, drop, loop, branch, unary, binary, leave, finish, read_temp, read_var, set_temp, set_var}
use Rattle.pool_compile.proofs.ValueAndRendezvousSteps.{calls}

term_same : (a b : Statements) (v w : Store) → A.Local a v ≡ A.Local b w → a ≡ b
term_same a b v w e = ap (λ x. elim x as (λ _. Statements) [ A.Local t u ↦ t | _ ↦ a ]) e

vars_same : (a b : Statements) (v w : Store) → A.Local a v ≡ A.Local b w → v ≡ w
vars_same a b v w e = ap (λ x. elim x as (λ _. Store) [ A.Local t u ↦ u | _ ↦ v ]) e

-- a method that is found, with as many parameters
count_by : (m : Option MethodTree) (n : ℕ) (mt : MethodTree) → with_count n m ≡ Some mt → (m ≡ Some mt) × (length mt.params ≡ n)
count_by None n mt h = absurd (grind (arith, h))
count_by (Some k) n mt h = by (length k.params == n) refl h
  where
    by : (q : Bool) → (length k.params == n) ≡ q → (if q then Some k else None) ≡ Some mt → (Some k ≡ Some mt) × (length mt.params ≡ n)
    by true e h = (h, (let f : k ≡ mt = grind (arith, h) in subst (λ x. length x.params ≡ n) f (let i : length k.params ≡ n = grind (arith, e) in i)))
    by false e h = absurd (grind (arith, h))

pub method_found : (p : ProgramTree) (c : ℕ) (tree : ClassTree) (m n : ℕ) (mt : MethodTree) → class_of p c ≡ Some tree → method_of p c m n ≡ Some mt
    → (named_method tree.methods m ≡ Some mt) × (length mt.params ≡ n)
method_found p c tree m n mt e h = count_by (named_method tree.methods m) n mt (ap (λ o. method_in o m n) (sym e) ∙ h)

module _ (p : ProgramTree) (x : Object) (y : CodeObject) (tree : ClassTree) (class : class_of p x.class ≡ Some tree) (text : are_text_methods tree.methods ≡ true)
    (h : Head) (end : ℕ) (halt : slice_get (code_of (Some (class_code tree)) h.method) end ≡ Some I.Halt) (yv : y.vars ≡ values x.vars) (names : keys x.vars ≡ names_of tree.vars) where
  abbrev k : Option ClassCode
  k = Some (class_code tree)

  abbrev g : Numbering
  g = record { temps = []; vars = names_of tree.vars }

  abbrev F : Reducible → Store → Type 0
  F r u = Focus k g.vars y.frames r u (Target k h g refl end halt x.term y.frames)

  -- the code's object has the term and the variables
  abbrev pub Has : Statements → Store → CodeObject → Type 0
  Has term vars w = (vs : List Value) × Lands k h g refl end halt x.term y.frames y vs term w × (vs ≡ values vars) × (keys vars ≡ names_of tree.vars)

  -- the variables stay
  pub same_vars : (w : CodeObject) (a term : Statements) (vars : Store) → Lands k h g refl end halt x.term y.frames y y.vars a w → A.Local a x.vars ≡ A.Local term vars → Has term vars w
  same_vars w a term vars l e =
      let t = term_same a term x.vars vars e in
      let v = vars_same a term x.vars vars e in
      (y.vars, subst (λ b. Lands k h g refl end halt x.term y.frames y y.vars b w) t l, subst (λ b. y.vars ≡ values b) v yv, subst (λ b. keys b ≡ names_of tree.vars) v names)

  module _ (o : ℕ) (term : Statements) (vars : Store) where
    abbrev Goal : Type 0
    Goal = Has term vars (frames_stepped k o y y.frames)

    on_read : (n : ℕ) (u : Store) (f : F (R.Read n) u) (a b : Option Value) → value_of u n ≡ a → value_of x.vars n ≡ b → read x a b ≡ A.Local term vars → Goal
    on_read n u f (Some v) b q w e = same_vars _ _ term vars (read_temp k h g refl end halt x.term y.frames o y n v u f q) e
    on_read n u f None (Some v) q w e = same_vars _ _ term vars (read_var k h g refl end halt x.term y.frames o y n v u x.vars f yv names q w) e
    on_read n u f None None q w e = absurd (grind (arith, e))

    on_unary : (op : _) (v : Value) (u : Store) (f : F (R.Unary op v) u) (a : Outcome) → prefix_value op v ≡ a → on_outcome x a ≡ A.Local term vars → Goal
    on_unary op v u f (Gives w) q e = same_vars _ _ term vars (unary k h g refl end halt x.term y.frames o y op v w u f q) e
    on_unary op v u f (Fails r) q e = absurd (grind (arith, e))
    on_unary op v u f WrongSort q e = absurd (grind (arith, e))

    on_binary : (op : _) (v w : Value) (u : Store) (f : F (R.Binary op v w) u) (a : Outcome) → infix_value op v w ≡ a → on_outcome x a ≡ A.Local term vars → Goal
    on_binary op v w u f (Gives z) q e = same_vars _ _ term vars (binary k h g refl end halt x.term y.frames o y op v w z u f q) e
    on_binary op v w u f (Fails r) q e = absurd (grind (arith, e))
    on_binary op v w u f WrongSort q e = absurd (grind (arith, e))

    on_invoke : (m : ℕ) (args : List Value) (u : Store) (f : F (R.Invoke m args) u) (a : Option MethodTree) → method_of p x.class m (length args) ≡ a → on_call x args a ≡ A.Local term vars → Goal
    on_invoke m args u f None q e = absurd (grind (arith, e))
    on_invoke m args u f (Some mt) q e =
        let i = method_found p x.class tree m (length args) mt class q in
        same_vars _ _ term vars (calls tree h end halt x.term y.frames o y m mt args (begins tree m mt args S.Own text i.0) i.1 u f) e

    on_set : (n : ℕ) (v : Value) (u : Store) (f : F (R.Set n v) u) (a b : Option Value) → value_of u n ≡ a → value_of x.vars n ≡ b
        → (if is_some a then becomes x (AsStatements T.Done) else (if is_some b then A.Local (fill_statements x.term (AsStatements T.Done)) (set_value x.vars n v) else A.Stuck)) ≡ A.Local term vars → Goal
    on_set n v u f (Some w) b q i e = same_vars _ _ term vars (set_temp k h g refl end halt x.term y.frames o y n v w u f q) e
    on_set n v u f None (Some w) q i e =
        let l = set_var k h g refl end halt x.term y.frames o y n v w u x.vars f yv names q i in
        let t = term_same _ term _ vars e in
        let s = vars_same _ term _ vars e in (
          values (set_value x.vars n v),
          subst (λ b. Lands k h g refl end halt x.term y.frames y (values (set_value x.vars n v)) b (frames_stepped k o y y.frames)) t l,
          ap values s,
          subst (λ b. keys b ≡ names_of tree.vars) s (set_keys x.vars n v ∙ names),
        )
    on_set n v u f None None q i e = absurd (grind (arith, e))

    on_branches : (v : Value) (these those : Statements) (u : Store) (f : F (R.Branch v these those) u) → on_branch x v these those ≡ A.Local term vars → Goal
    on_branches (V.Bool true) these those u f e = same_vars _ _ term vars (branch k h g refl end halt x.term y.frames o y true these those u f) e
    on_branches (V.Bool false) these those u f e = same_vars _ _ term vars (branch k h g refl end halt x.term y.frames o y false these those u f) e
    on_branches V.Nil these those u f e = absurd (grind (arith, e))
    on_branches (V.Int z) these those u f e = absurd (grind (arith, e))
    on_branches (V.Ref n) these those u f e = absurd (grind (arith, e))

    -- none of these is a local step
    three : (a b d : Bool) (e r : Error) (q : Action) → (if a then A.Fault e else (if b then A.Stuck else (if d then q else A.Fault r))) ≡ A.Local term vars
        → (q ≡ A.Local term vars → ⊥) → ⊥
    three true b d e r q i n = grind (arith, i)
    three false true d e r q i n = grind (arith, i)
    three false false true e r q i n = n i
    three false false false e r q i n = grind (arith, i)

    two : (b : Bool) (q : Action) → (if b then q else A.Stuck) ≡ A.Local term vars → (q ≡ A.Local term vars → ⊥) → ⊥
    two true q i n = n i
    two false q i n = grind (arith, i)

    sent : (v : Value) (go : ℕ → Action) → on_object v go ≡ A.Local term vars → ((b : ℕ) → go b ≡ A.Local term vars → ⊥) → ⊥
    sent (V.Ref b) go i n = n b i
    sent V.Nil go i n = grind (arith, i)
    sent (V.Int z) go i n = grind (arith, i)
    sent (V.Bool b) go i n = grind (arith, i)

    pub local_at : (r : Reducible) (u : Store) → F r u → redex_action p o x u r ≡ A.Local term vars → Goal
    local_at R.OwnName u f e = same_vars _ _ term vars (own_name k h g refl end halt x.term y.frames o y u f) e
    local_at (R.Read n) u f e = on_read n u f (value_of u n) (value_of x.vars n) refl refl e
    local_at (R.Make c) u f e = absurd (two (is_some (class_of p c)) (A.New c) e (λ i. grind (arith, i)))
    local_at (R.Unary op v) u f e = on_unary op v u f (prefix_value op v) refl e
    local_at (R.Binary op v w) u f e = on_binary op v w u f (infix_value op v w) refl e
    local_at (R.Invoke m args) u f e = on_invoke m args u f (method_of p x.class m (length args)) refl e
    local_at (R.SynchronousSend v m args) u f e = absurd (sent v (λ b. A.Send b m args) e (λ b i. grind (arith, i)))
    local_at (R.Leave v) u f e = same_vars _ _ term vars (leave k h g refl end halt x.term y.frames o y v u f) e
    local_at (R.Waiting b m) u f e = absurd (grind (arith, e))
    local_at (R.Set n v) u f e = on_set n v u f (value_of u n) (value_of x.vars n) refl refl e
    local_at (R.Print i) u f e = absurd (grind (arith, e))
    local_at (R.Drop v) u f e = same_vars _ _ term vars (drop k h g refl end halt x.term y.frames o y v u f) e
    local_at (R.Post v m args) u f e = absurd (sent v (λ b. A.Async b m args) e (λ b i. grind (arith, i)))
    local_at (R.Branch v these those) u f e = on_branches v these those u f e
    local_at (R.Loop c ss) u f e = same_vars _ _ term vars (loop k h g refl end halt x.term y.frames o y c ss u f) e
    local_at (R.Accept ns) u f e = absurd (grind (arith, e))
    local_at (R.Choose cs) u f e = absurd (three _ _ _ NilOperand NoOpenGuard (A.Select cs) e (λ i. grind (arith, i)))
    local_at (R.Finish None v work) u f e = same_vars _ _ term vars (finish k h g refl end halt x.term y.frames o y v work u f) e
    local_at (R.Finish (Some w) v work) u f e = absurd (grind (arith, e))
