-- A program without class faults has known kinds, and typed bodies and methods.
use Rattle.std.proofs.Common.{◌≡◌, refl, sym, ap, ◌∙◌, subst, IsTrue, ℕ, List, [], ◌∷◌, ◌++◌, Option, Some, None, Bool, true, false, ◌==◌, ◌&&◌, arith}
use Rattle.run_types.specs.declared.types.Kind.{Kind}
use Rattle.run_types.specs.declared.types.Kind.TheVariants as K
use Rattle.pool_syntax.specs.declared.tree.Var.{Var}
use Rattle.pool_syntax.specs.Terms.{MethodTree, ClassTree, ProgramTree}
use Rattle.pool_syntax.specs.Classes.{class_of, named_method}
use Rattle.pool_syntax.specs.Typing.{Scope, kind_sort, sort_of, vars_faults, kind_faults, outcome_faults, method_tree_faults, methods_faults, behind_value, method_scope, class_scope, classes_faults, faults}
use Rattle.pool_syntax.specs.Written.{are_written, is_written}
use Rattle.pool_syntax.specs.SourceParts.{are_source_statements, is_source, is_value_for}
use Rattle.run_types.proofs.Laws.{first, second, equal, true_not}
use Rattle.pool_relation.proofs.typing.TypedTerm.{Nothing, is_broken, gives, TypedExpression, TypedStatements}
use Rattle.pool_relation.proofs.typing.Faults.{none2, none3, none4, no_fault_if, gives_of_none}
use Rattle.pool_relation.proofs.typing.SourceIsTyped.{expression_written, statements_written}
use Rattle.pool_relation.proofs.typing.DeclaredStores.{AllKnown, OutcomeKnown, MethodKnown, Known}

kind_known : (p : ProgramTree) (k : Kind) (n : ℕ) → kind_faults p k n ≡ [] → is_broken (kind_sort p k) ≡ false
kind_known p K.Int n h = refl
kind_known p K.Bool n h = refl
kind_known p (K.Class c) n h = rw (true_not _ (no_fault_if _ _ _ h)) refl

pub vars_known : (p : ProgramTree) (number : ℕ) (before : List ℕ) (vs : List Var) → vars_faults p number before vs ≡ [] → AllKnown p vs
vars_known p number before [] h = tt
vars_known p number before (v ∷ vs) h = let n = none3 h in (kind_known p v.kind v.kind_pos n.1, vars_known p number (v.name.0 ∷ before) vs n.2)

front_known : (p : ProgramTree) (vs ws : List Var) → AllKnown p (vs ++ ws) → AllKnown p vs
front_known p [] ws k = tt
front_known p (v ∷ vs) ws k = (k.0, front_known p vs ws k.1)

back_known : (p : ProgramTree) (vs ws : List Var) → AllKnown p (vs ++ ws) → AllKnown p ws
back_known p [] ws k = k
back_known p (v ∷ vs) ws k = back_known p vs ws k.1

outcome_known : (p : ProgramTree) (o : Option Kind) (n : ℕ) → outcome_faults p o n ≡ [] → OutcomeKnown p o
outcome_known p None n h = tt
outcome_known p (Some k) n h = kind_known p k n h

-- a method without faults
pub record CheckedMethod (g : Scope) (m : MethodTree) : Type 0 where
  pub params : AllKnown g.program m.params
  pub locals : AllKnown g.program m.locals
  pub outcome : OutcomeKnown g.program m.outcome
  pub body : TypedStatements Nothing (method_scope g m) m.body
  pub value : TypedExpression Nothing (method_scope g m) 0 m.value
  pub gives_it : IsTrue (gives g.program (Some m) (sort_of (method_scope g m) m.value))
  pub valued : IsTrue (is_value_for m.outcome m.value)
  pub post : TypedStatements Nothing (behind_value (method_scope g m)) m.post

method_checked : (g : Scope) (m : MethodTree) → method_tree_faults g m ≡ [] → IsTrue (are_source_statements m.body)
    → IsTrue (is_source m.value) → IsTrue (is_value_for m.outcome m.value) → IsTrue (are_source_statements m.post) → CheckedMethod g m
method_checked g m h s t v q =
    let a = none2 h in
    let b = none2 a.1 in
    let c = none2 b.1 in
    let d = none2 c.1 in
    let e = none4 d.1 in
    let known = vars_known g.program 5 [] (m.params ++ m.locals) a.0 in
    record {
      params = front_known g.program m.params m.locals known;
      locals = back_known g.program m.params m.locals known;
      outcome = outcome_known g.program m.outcome m.outcome_pos d.0;
      body = statements_written (method_scope g m) m.body e.0 s;
      value = expression_written (method_scope g m) 0 m.value e.1 t;
      gives_it = gives_of_none (method_scope g m) (Some m) m.value e.2;
      valued = v;
      post = statements_written (behind_value (method_scope g m)) m.post e.3 q;
    }

pub methods_checked : (g : Scope) (before : List ℕ) (ms : List MethodTree) (n : ℕ) (m : MethodTree)
    → methods_faults g before ms ≡ [] → IsTrue (are_written ms) → named_method ms n ≡ Some m
    → CheckedMethod g m × (m.name.name.0 ≡ n)
methods_checked g before [] n m h w e = absurd (grind (arith, e))
methods_checked g before (k ∷ ms) n m h w e =
    let a = none4 h in
    let w4 = first _ (are_written ms) w in
    let w3 = first _ (are_source_statements k.post) w4 in
    let w2 = first _ (is_value_for k.outcome k.value) w3 in
    by (k.name.name.0 == n) refl
    (method_checked g k a.2 (first (are_source_statements k.body) (is_source k.value) w2) (second (are_source_statements k.body) (is_source k.value) w2) (second (are_source_statements k.body && is_source k.value) (is_value_for k.outcome k.value) w3)
    (second (are_source_statements k.body && is_source k.value && is_value_for k.outcome k.value) (are_source_statements k.post) w4))
    (methods_checked g (k.name.name.0 ∷ before) ms n m a.3 (second _ (are_written ms) w))
  where
    by : (b : Bool) → (k.name.name.0 == n) ≡ b → CheckedMethod g k
        → (named_method ms n ≡ Some m → CheckedMethod g m × (m.name.name.0 ≡ n)) → CheckedMethod g m × (m.name.name.0 ≡ n)
    by true i this rest =
        let is : Some k ≡ Some m = rw i at e in
        let same : k ≡ m = cc in
        (subst (CheckedMethod g) same this, ap (λ x. x.name.name.0) (sym same) ∙ equal _ _ i)
    by false i this rest = rest (rw i at e)

-- a class without faults
pub record CheckedClass (p : ProgramTree) (k : ClassTree) : Type 0 where
  pub vars : AllKnown p k.vars
  pub methods : (n : ℕ) (m : MethodTree) → named_method k.methods n ≡ Some m → CheckedMethod (class_scope p k) m × (m.name.name.0 ≡ n)
  pub body : TypedStatements Nothing (class_scope p k) k.body

classes_checked : (p : ProgramTree) (before : List ℕ) (ks : List ClassTree) (c : ℕ) (k : ClassTree)
    → classes_faults p before ks ≡ [] → IsTrue (is_written ks) → class_of ks c ≡ Some k → CheckedClass p k × (k.name.name.0 ≡ c)
classes_checked p before [] c k h w e = absurd (grind (arith, e))
classes_checked p before (l ∷ ks) c k h w e =
    let a = none4 h in
    let b = none3 a.3 in
    let w2 = first _ (is_written ks) w in
    let this : CheckedClass p l = record {
      vars = vars_known p 3 [] l.vars a.2;
      methods = λ n m i. methods_checked (class_scope p l) [] l.methods n m b.1 (second (are_source_statements l.body) (are_written l.methods) w2) i;
      body = statements_written (class_scope p l) l.body (none2 b.2).0 (first (are_source_statements l.body) (are_written l.methods) w2);
    } in
    by (l.name.name.0 == c) refl this (classes_checked p (l.name.name.0 ∷ before) ks c k (none2 b.2).1 (second _ (is_written ks) w))
  where
    by : (b : Bool) → (l.name.name.0 == c) ≡ b → CheckedClass p l
        → (class_of ks c ≡ Some k → CheckedClass p k × (k.name.name.0 ≡ c)) → CheckedClass p k × (k.name.name.0 ≡ c)
    by true i this rest =
        let is : Some l ≡ Some k = rw i at e in
        let same : l ≡ k = cc in
        (subst (CheckedClass p) same this, ap (λ x. x.name.name.0) (sym same) ∙ equal _ _ i)
    by false i this rest = rest (rw i at e)

pub class_checked : (p : ProgramTree) (c : ℕ) (k : ClassTree) → faults p ≡ [] → IsTrue (is_written p) → class_of p c ≡ Some k
    → CheckedClass p k × (k.name.name.0 ≡ c)
class_checked p c k h w e = classes_checked p [] p c k h w e

-- all kinds in the class of a name are known
pub class_known : (p : ProgramTree) (c : ℕ) → faults p ≡ [] → IsTrue (is_written p) → Known p (class_of p c)
class_known p c h w = by (class_of p c) (λ k e. (class_checked p c k h w e).0)
  where
    known_method : (g : Scope) (m : Option MethodTree) → ((n : MethodTree) → m ≡ Some n → CheckedMethod g n) → MethodKnown g.program m
    known_method g None f = tt
    known_method g (Some m) f = let a = f m refl in (a.params, a.locals, a.outcome)

    by : (o : Option ClassTree) → ((k : ClassTree) → o ≡ Some k → CheckedClass p k) → Known p o
    by None f = record { vars = tt; methods = λ m. tt }
    by (Some k) f = let a = f k refl in record { vars = a.vars; methods = λ n. known_method (class_scope p k) (named_method k.methods n) (λ m e. (a.methods n m e).0) }
