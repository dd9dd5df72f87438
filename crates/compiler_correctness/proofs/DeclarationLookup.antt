-- The classes, methods and variables of a program in its file.
use Rattle.std.proofs.Common.{◌≡◌, refl, ap, ◌∙◌, ℕ, zero, suc, ◌+◌, ◌==◌, List, [], ◌∷◌, ◌++◌, length, Option, Some, None, is_some, Bool, true, false, arith}
use Rattle.std.specs.Prelude.{slice_get, map, take}
use Rattle.pool_syntax.specs.declared.tree.Var.{Var}
use Rattle.run_types.specs.declared.types.Kind.{Kind}
use Rattle.run_types.specs.declared.types.Kind.TheVariants as K
use Rattle.pool_syntax.specs.Terms.{MethodTree, ClassTree, ProgramTree}
use Rattle.pool_syntax.specs.Classes.{class_of, named_method}
use Rattle.pool_syntax.specs.Typing as Typing
use Rattle.pool_syntax.specs.Typing.{var_of, contains}
use Rattle.run_types.proofs.Laws.{same_some}
use Rattle.pool_relation.proofs.Laws.{is_broken, OutcomeKnown}
use Rattle.code_semantics.specs.Step.{method_from, class_from}
use Rattle.pool_compile.specs.Code.{name, names_of, number_of, method_code_of, class_code, code}
use Rattle.code_typing.specs.Sorts.{Declared, Signature, kind_sort, result_sort, declared_named, signature_named}
use Rattle.compiler_correctness.specs.DeclaredKinds.{kinds_of, method_kinds, class_kinds, file_of}

pub map_at : {A B : Type 0} (f : A → B) (xs : List A) (j : ℕ) (x : A) → slice_get xs j ≡ Some x → slice_get (map f xs) j ≡ Some (f x)
map_at f [] j x e = absurd (let z : None ≡ Some x = e in cc)
map_at f (y ∷ xs) zero x e = ap (λ z. Some (f z)) (same_some e)
map_at f (y ∷ xs) (suc j) x e = map_at f xs j x e

pub map_back : {A B : Type 0} (f : A → B) (xs : List A) (j : ℕ) (y : B) → slice_get (map f xs) j ≡ Some y → (x : A) × (slice_get xs j ≡ Some x) × (f x ≡ y)
map_back f [] j y e = absurd (let z : None ≡ Some y = e in cc)
map_back f (x ∷ xs) zero y e = (x, refl, same_some e)
map_back f (x ∷ xs) (suc j) y e = map_back f xs j y e

-- a class and its kinds
abbrev pub declared_of : ClassTree → Declared
declared_of k = record { code = class_code k; kinds = class_kinds k }

abbrev pub signature_of_tree : MethodTree → Signature
signature_of_tree m = record { params = kinds_of m.params; outcome = m.outcome }

-- the class of a name, at its place
abbrev FoundTree : ProgramTree → ℕ → ℕ → ClassTree → Type 0
FoundTree p n c k = (j : ℕ) × (class_from n (code p) (name c) ≡ Some (n + j)) × (slice_get p j ≡ Some k)

tree_found : (p : ProgramTree) (n c : ℕ) (k : ClassTree) → class_of p c ≡ Some k → FoundTree p n c k
tree_found [] n c k h = absurd (let z : None ≡ Some k = h in cc)
tree_found (x ∷ p) n c k h = by (x.name.name.0 == c) refl (tree_found p (suc n) c k)
  where
    by : (b : Bool) → (x.name.name.0 == c) ≡ b → (class_of p c ≡ Some k → FoundTree p (suc n) c k) → FoundTree (x ∷ p) n c k
    by true e more = let z : n ≡ n + 0 = omega arith in (0, rw e (ap Some z), rw e at h)
    by false e more =
        let m = more (rw e at h) in
        let z : suc n + m.0 ≡ n + suc m.0 = omega arith in
        (suc m.0, rw e (m.1 ∙ ap Some z), m.2)

pub class_from_there : (p : ProgramTree) (c : ℕ) → is_some (class_of p c) ≡ true → is_some (class_from 0 (code p) (name c)) ≡ true
class_from_there p c h = by (class_of p c) refl h
  where
    by : (o : Option ClassTree) → class_of p c ≡ o → is_some o ≡ true → is_some (class_from 0 (code p) (name c)) ≡ true
    by None e i = absurd (let z : false ≡ true = i in cc)
    by (Some k) e i = ap is_some (tree_found p 0 c k e).1

pub declared_found : (names : List _) (p : ProgramTree) (c : ℕ) (k : ClassTree) → class_of p c ≡ Some k → declared_named (file_of names p) (name c) ≡ Some (declared_of k)
declared_found names p c k h =
    let t = tree_found p 0 c k h in
    let z : 0 + t.0 ≡ t.0 = omega arith in
    rw (t.1 ∙ ap Some z, map_at class_code p t.0 k t.2, map_at class_kinds p t.0 k t.2) refl

-- the method of a name, at its place
abbrev FoundMethod : List ℕ → List MethodTree → ℕ → ℕ → MethodTree → Type 0
FoundMethod vars ms n m mt = (j : ℕ) × (method_from n (map (method_code_of vars) ms) (name m) ≡ Some (record { place = n + j; code = method_code_of vars mt })) × (slice_get ms j ≡ Some mt)

method_found : (vars : List ℕ) (ms : List MethodTree) (n m : ℕ) (mt : MethodTree) → named_method ms m ≡ Some mt → FoundMethod vars ms n m mt
method_found vars [] n m mt h = absurd (let z : None ≡ Some mt = h in cc)
method_found vars (x ∷ ms) n m mt h = by (x.name.name.0 == m) refl (method_found vars ms (suc n) m mt)
  where
    by : (b : Bool) → (x.name.name.0 == m) ≡ b → (named_method ms m ≡ Some mt → FoundMethod vars ms (suc n) m mt) → FoundMethod vars (x ∷ ms) n m mt
    by true e more =
        let z : n ≡ n + 0 = omega arith in
        let s : x ≡ mt = same_some (rw e at h) in
        (0, rw e (ap (λ i. Some (record { place = i; code = method_code_of vars x })) z ∙ ap (λ t. Some (record { place = n + 0; code = method_code_of vars t })) s), ap Some s)
    by false e more =
        let t = more (rw e at h) in
        let z : suc n + t.0 ≡ n + suc t.0 = omega arith in
        (suc t.0, rw e (t.1 ∙ ap (λ i. Some (record { place = i; code = method_code_of vars mt })) z), t.2)

take_front : (vs ws : List Var) → take (length vs) (kinds_of (vs ++ ws)) ≡ kinds_of vs
take_front [] ws = refl
take_front (v ∷ vs) ws = ap (λ ks. v.kind ∷ ks) (take_front vs ws)

pub signature_found : (k : ClassTree) (m : ℕ) (mt : MethodTree) → named_method k.methods m ≡ Some mt → signature_named (declared_of k) (name m) ≡ Some (signature_of_tree mt)
signature_found k m mt h =
    let t = method_found (names_of k.vars) k.methods 0 m mt h in
    let z : 0 + t.0 ≡ t.0 = omega arith in
    rw (t.1 ∙ ap (λ i. Some (record { place = i; code = method_code_of (names_of k.vars) mt })) z, map_at method_kinds k.methods t.0 mt t.2)
    (ap (λ ks. Some (record { params = ks; outcome = mt.outcome })) (take_front mt.params mt.locals))

-- a variable has its kind at its number
pub var_found : (vs : List Var) (x : ℕ) (v : Var) → var_of vs x ≡ Some v → (contains (names_of vs) x ≡ true) × (slice_get (kinds_of vs) (number_of (names_of vs) x) ≡ Some v.kind)
var_found [] x v h = absurd (let z : None ≡ Some v = h in cc)
var_found (w ∷ vs) x v h = by (w.name.0 == x) refl (var_found vs x v)
  where
    by : (b : Bool) → (w.name.0 == x) ≡ b → (var_of vs x ≡ Some v → (contains (names_of vs) x ≡ true) × (slice_get (kinds_of vs) (number_of (names_of vs) x) ≡ Some v.kind))
        → (contains (names_of (w ∷ vs)) x ≡ true) × (slice_get (kinds_of (w ∷ vs)) (number_of (names_of (w ∷ vs)) x) ≡ Some v.kind)
    by true e more = let s : w ≡ v = same_some (rw e at h) in (rw e refl, rw e (ap (λ (y : Var). Some y.kind) s))
    by false e more = let m = more (rw e at h) in (rw e m.0, rw e m.1)

pub var_missing : (vs : List Var) (x : ℕ) → var_of vs x ≡ None → contains (names_of vs) x ≡ false
var_missing [] x h = refl
var_missing (w ∷ vs) x h = by (w.name.0 == x) refl (var_missing vs x)
  where
    by : (b : Bool) → (w.name.0 == x) ≡ b → (var_of vs x ≡ None → contains (names_of vs) x ≡ false) → contains (names_of (w ∷ vs)) x ≡ false
    by true e more = absurd (let z : Some w ≡ None = rw e at h in cc)
    by false e more = rw e (more (rw e at h))

-- the sort of a kind whose class is there
pub known_sort : (p : ProgramTree) (k : Kind) → is_broken (Typing.kind_sort p k) ≡ false → Typing.kind_sort p k ≡ kind_sort k
known_sort p K.Int h = refl
known_sort p K.Bool h = refl
known_sort p (K.Class c) h = by (is_some (class_of p c.0)) refl
  where
    by : (b : Bool) → is_some (class_of p c.0) ≡ b → Typing.kind_sort p (K.Class c) ≡ kind_sort (K.Class c)
    by true e = rw e refl
    by false e = absurd (let z : true ≡ false = rw e at h in cc)

pub known_outcome : (p : ProgramTree) (o : Option Kind) → OutcomeKnown p o → Typing.outcome_sort p o ≡ result_sort o
known_outcome p None h = refl
known_outcome p (Some k) h = known_sort p k h
