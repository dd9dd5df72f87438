-- The faults of declarations are the faults of their parts, one after another.
use Rattle.std.proofs.Common.{◌≡◌, refl, sym, ap, ◌∙◌, ℕ, zero, suc, ◌+◌, ◌-◌, ◌<◌, ◌≤◌, ◌++◌, ◌||◌, ◌==◌, Bool, List, [], ◌∷◌, length, take, drop, get_or, slice_get, map, Option, Some, None, arith}
use Rattle.std.specs.List.{list_any}
use Rattle.std.proofs.lemmas.List.{at_drop_more, length-take-le}
use Rattle.pool_syntax.specs.declared.tree.Var.{Var}
use Rattle.pool_syntax.specs.declared.tree.Method.{Method}
use Rattle.pool_syntax.specs.declared.tree.ClassDecl.{ClassDecl}
use Rattle.pool_syntax.specs.Terms.{ProgramTree}
use Rattle.pool_syntax.specs.TreeOf.{class_tree, method_tree, statements_of}
use Rattle.pool_syntax.specs.FaultNumbers as N
use Rattle.pool_syntax.specs.Limits as L
use Rattle.pool_syntax.specs.Typing.{Scope, FaultAt, vars_faults, too_many, fault_if, kind_faults, method_tree_faults, methods_faults, classes_faults, class_scope, statements_faults}
use Rattle.type_check.specs.declared.fault.ClassFault.{ClassFault}
use Rattle.type_check.specs.NotedFaults.{noted, Notes, found_of}
use Rattle.type_check.specs.Before.{names_before}
use Rattle.type_check.proofs.Laws.{noted_append}
use Rattle.type_check.proofs.Laws.{before_more, any_before, length-before}

-- what is noted of the variables from one on is what is noted of it and then of those behind it
pub variable_noted : (p : ProgramTree) (number : ℕ) (us vs : List Var) (i : ℕ) (v : Var) (twice : Bool) (a b : Option ClassFault) → i < length vs → v ≡ get_or vs i v
    → twice ≡ (list_any (λ u. u.name.0 == v.name.0) us || list_any (λ u. u.name.0 == v.name.0) (take i vs))
    → Notes a b (fault_if twice v.pos number ++ kind_faults p v.kind v.kind_pos)
    → noted (found_of b) (vars_faults p number (names_before (λ u. u.name.0) (names_before (λ u. u.name.0) [] us) (take (i + 1) vs)) (drop (i + 1) vs))
    ≡ noted (found_of a) (vars_faults p number (names_before (λ u. u.name.0) (names_before (λ u. u.name.0) [] us) (take i vs)) (drop i vs))
variable_noted p number us vs i v twice a b within at is_twice one =
    let before = names_before (λ (u : Var). u.name.0) [] us in
    let front : drop i vs ≡ v ∷ drop (i + 1) vs = at_drop_more (λ l. l) vs i v within ∙ ap (λ x. x ∷ drop (i + 1) vs) (sym at) in
    let more = before_more (λ (u : Var). u.name.0) before vs i v within at in
    let known = any_before (λ (u : Var). u.name.0) (λ m. m == v.name.0) before (take i vs) in
    let known_before = any_before (λ (u : Var). u.name.0) (λ m. m == v.name.0) [] us in
    grind (arith, noted_append)

-- parameters and then locals
pub both_variables : (p : ProgramTree) (number : ℕ) (names : List ℕ) (us vs : List Var)
    → vars_faults p number names (us ++ vs) ≡ vars_faults p number names us ++ vars_faults p number (names_before (λ u. u.name.0) names us) vs
both_variables p number names [] vs = refl
both_variables p number names (u ∷ us) vs = grind (arith, both_variables p number (u.name.0 ∷ names) us vs)

limit_at : Option Var → List FaultAt
limit_at None = []
limit_at (Some v) = (v.pos, N.limit) ∷ []

-- the variable behind so many is the one at that place
too_many_at : (n : ℕ) (vs : List Var) → too_many n vs ≡ limit_at (slice_get vs n)
unfolding limit_at
too_many_at n [] = refl
too_many_at zero (v ∷ vs) = refl
too_many_at (suc n) (v ∷ vs) = too_many_at n vs

pub too_many_there : (n : ℕ) (vs : List Var) (v : Var) → slice_get vs n ≡ Some v → too_many n vs ≡ (v.pos, N.limit) ∷ []
unfolding limit_at
too_many_there n vs v at = too_many_at n vs ∙ ap limit_at at

pub too_many_none : (n : ℕ) (vs : List Var) → slice_get vs n ≡ None → too_many n vs ≡ []
unfolding limit_at
too_many_none n vs at = too_many_at n vs ∙ ap limit_at at

pub too_many_first : (n : ℕ) (us vs : List Var) → n < length us → too_many n (us ++ vs) ≡ too_many n us
too_many_first n [] vs within = absurd (omega arith)
too_many_first zero (u ∷ us) vs within = refl
too_many_first (suc n) (u ∷ us) vs within = too_many_first n us vs (omega arith)

pub too_many_second : (n : ℕ) (us vs : List Var) → length us ≤ n → too_many n (us ++ vs) ≡ too_many (n - length us) vs
too_many_second n [] vs past = let e : n - 0 ≡ n = omega arith in rw e refl
too_many_second zero (u ∷ us) vs past = absurd (omega arith)
too_many_second (suc n) (u ∷ us) vs past = let e : suc n - suc (length us) ≡ n - length us = omega arith in rw e (too_many_second n us vs (omega arith))

pub method_noted : (g : Scope) (ms : List Method) (i : ℕ) (m : Method) (twice : Bool) (a b : Option ClassFault) → i < length ms → m ≡ get_or ms i m
    → twice ≡ list_any (λ k. k.name.name.0 == m.name.name.0) (take i ms)
    → Notes a b (fault_if twice m.name.pos N.method_twice ++ (fault_if (i == L.most_methods) m.name.pos N.limit ++ method_tree_faults g (method_tree m)))
    → noted (found_of b) (methods_faults g (names_before (λ k. k.name.name.0) [] (take (i + 1) ms)) (map method_tree (drop (i + 1) ms)))
    ≡ noted (found_of a) (methods_faults g (names_before (λ k. k.name.name.0) [] (take i ms)) (map method_tree (drop i ms)))
method_noted g ms i m twice a b within at is_twice one =
    let front : map method_tree (drop i ms) ≡ method_tree m ∷ map method_tree (drop (i + 1) ms) = at_drop_more (map method_tree) ms i m within ∙ ap (λ x. method_tree x ∷ map method_tree (drop (i + 1) ms)) (sym at) in
    let more = before_more (λ (k : Method). k.name.name.0) [] ms i m within at in
    let known = any_before (λ (k : Method). k.name.name.0) (λ n. n == m.name.name.0) [] (take i ms) in
    let taken : length (take i ms) ≡ i = length-take-le i ms (omega arith) in
    let count : length (names_before (λ (k : Method). k.name.name.0) [] (take i ms)) ≡ i = length-before (λ (k : Method). k.name.name.0) [] (take i ms) ∙ omega arith in
    grind (arith, noted_append)

pub class_noted : (p : ProgramTree) (ks : List ClassDecl) (i : ℕ) (k : ClassDecl) (twice : Bool) (a b : Option ClassFault) → i < length ks → k ≡ get_or ks i k
    → twice ≡ list_any (λ c. c.name.name.0 == k.name.name.0) (take i ks)
    → Notes a b (fault_if twice k.name.pos N.class_twice ++ (fault_if (i == L.most_classes) k.name.pos N.limit
    ++ (vars_faults p N.variable_twice [] k.vars ++ (too_many L.most_variables k.vars ++ (methods_faults (class_scope p (class_tree k)) [] (map method_tree k.methods)
    ++ statements_faults (class_scope p (class_tree k)) (statements_of k.body))))))
    → noted (found_of b) (classes_faults p (names_before (λ c. c.name.name.0) [] (take (i + 1) ks)) (map class_tree (drop (i + 1) ks)))
    ≡ noted (found_of a) (classes_faults p (names_before (λ c. c.name.name.0) [] (take i ks)) (map class_tree (drop i ks)))
class_noted p ks i k twice a b within at is_twice one =
    let front : map class_tree (drop i ks) ≡ class_tree k ∷ map class_tree (drop (i + 1) ks) = at_drop_more (map class_tree) ks i k within ∙ ap (λ x. class_tree x ∷ map class_tree (drop (i + 1) ks)) (sym at) in
    let more = before_more (λ (c : ClassDecl). c.name.name.0) [] ks i k within at in
    let known = any_before (λ (c : ClassDecl). c.name.name.0) (λ n. n == k.name.name.0) [] (take i ks) in
    let taken : length (take i ks) ≡ i = length-take-le i ks (omega arith) in
    let count : length (names_before (λ (c : ClassDecl). c.name.name.0) [] (take i ks)) ≡ i = length-before (λ (c : ClassDecl). c.name.name.0) [] (take i ks) ∙ omega arith in
    grind (arith, noted_append)
