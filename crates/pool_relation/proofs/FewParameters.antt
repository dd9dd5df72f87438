-- A method of a program without class faults has at most 8 parameters.
use Rattle.std.proofs.Common.{◌≡◌, refl, subst, ◌≤◌, ℕ, zero, suc, ◌==◌, List, [], ◌∷◌, ◌++◌, length, Option, Some, None, Bool, true, false, arith}
use Rattle.pool_syntax.specs.declared.tree.Var.{Var}
use Rattle.pool_syntax.specs.Terms.{ProgramTree, ClassTree, MethodTree}
use Rattle.pool_syntax.specs.Classes.{class_of, named_method}
use Rattle.pool_syntax.specs.Typing.{Scope, faults, classes_faults, class_scope, methods_faults, method_tree_faults, statements_faults, vars_faults, fault_if, contains, too_many}
use Rattle.run_types.proofs.Laws.{equal}
use Rattle.pool_relation.specs.Action.{method_of, method_in, with_count}
use Rattle.pool_relation.proofs.typing.Faults.{none2}

few : (n : ℕ) (vs : List Var) → too_many n vs ≡ [] → length vs ≤ n
few n [] h = omega arith
few zero (v ∷ vs) h = absurd (grind (arith, h))
few (suc n) (v ∷ vs) h = let r = few n vs h in omega arith

method_few : (g : Scope) (k : MethodTree) → method_tree_faults g k ≡ [] → length k.params ≤ 8
method_few g k h =
    let a = none2 {xs = vars_faults g.program 5 [] (k.params ++ k.locals)} h in
    let b = none2 {xs = too_many 8 k.params} a.1 in
    few 8 k.params b.0

methods_few : (g : Scope) (before : List ℕ) (ms : List MethodTree) (m : ℕ) (found : MethodTree)
    → methods_faults g before ms ≡ [] → named_method ms m ≡ Some found → length found.params ≤ 8
methods_few g before [] m found h e = absurd (grind (arith, e))
methods_few g before (k ∷ ms) m found h e =
    let a = none2 {xs = fault_if (contains before k.name.name.0) k.name.pos 4} h in
    let b = none2 {xs = fault_if (length before == 64) k.name.pos 12} a.1 in
    let c = none2 {xs = method_tree_faults g k} b.1 in
    by (k.name.name.0 == m) refl (method_few g k c.0) (methods_few g (k.name.name.0 ∷ before) ms m found c.1)
  where
    by : (b : Bool) → (k.name.name.0 == m) ≡ b → length k.params ≤ 8
        → (named_method ms m ≡ Some found → length found.params ≤ 8) → length found.params ≤ 8
    by true i this rest =
        let is : Some k ≡ Some found = rw i at e in
        let same : k ≡ found = cc in
        subst (λ (x : MethodTree). length x.params ≤ 8) same this
    by false i this rest = rest (rw i at e)

pub classes_few : (p : ProgramTree) (before : List ℕ) (ks : List ClassTree) (c m : ℕ) (k : ClassTree) (found : MethodTree)
    → classes_faults p before ks ≡ [] → class_of ks c ≡ Some k → named_method k.methods m ≡ Some found → length found.params ≤ 8
classes_few p before [] c m k found h e f = absurd (grind (arith, e))
classes_few p before (l ∷ ks) c m k found h e f =
    let a = none2 {xs = fault_if (contains before l.name.name.0) l.name.pos 1} h in
    let b = none2 {xs = fault_if (length before == 256) l.name.pos 12} a.1 in
    let d = none2 {xs = vars_faults p 3 [] l.vars} b.1 in
    let g = none2 {xs = too_many 64 l.vars} d.1 in
    let i = none2 {xs = methods_faults (class_scope p l) [] l.methods} g.1 in
    let j = none2 {xs = statements_faults (class_scope p l) l.body} i.1 in
    by (l.name.name.0 == c) refl (methods_few (class_scope p l) [] l.methods m found i.0)
    (λ n. classes_few p (l.name.name.0 ∷ before) ks c m k found j.1 n f)
  where
    by : (b : Bool) → (l.name.name.0 == c) ≡ b → (named_method l.methods m ≡ Some found → length found.params ≤ 8)
        → (class_of ks c ≡ Some k → length found.params ≤ 8) → length found.params ≤ 8
    by true i this rest =
        let is : Some l ≡ Some k = rw i at e in
        let same : l ≡ k = cc in
        this (rw same f)
    by false i this rest = rest (rw i at e)

pub few_parameters : (p : ProgramTree) (k m n : ℕ) (found : MethodTree) → faults p ≡ [] → method_of p k m n ≡ Some found → n ≤ 8
few_parameters p k m n found none h = by (class_of p k) refl h
  where
    counted : (o : Option MethodTree) → ((f : MethodTree) → o ≡ Some f → length f.params ≤ 8) → with_count n o ≡ Some found → n ≤ 8
    counted None f e = absurd (grind (arith, e))
    counted (Some g) f e = test (length g.params == n) refl (f g refl) e
      where
        test : (b : Bool) → (length g.params == n) ≡ b → length g.params ≤ 8 → with_count n (Some g) ≡ Some found → n ≤ 8
        test true i l e = subst (λ x. x ≤ 8) (equal _ _ i) l
        test false i l e = absurd (grind (arith, i, e))

    by : (o : Option ClassTree) → class_of p k ≡ o → method_in o m n ≡ Some found → n ≤ 8
    by None i e = absurd (grind (arith, e))
    by (Some l) i e = counted (named_method l.methods m) (λ f j. classes_few p [] p k m l f none i j) e
