-- Variables and methods of known kinds, and stores that fit them.
use Rattle.std.proofs.Common.{◌≡◌, refl, IsTrue, ℕ, List, [], ◌∷◌, ◌++◌, Option, Some, None, Bool, true, false, not, ◌||◌, ◌==◌, arith}
use Rattle.run_types.specs.declared.types.Value.{Value}
use Rattle.run_types.specs.declared.types.Kind.{Kind}
use Rattle.pool_syntax.specs.declared.tree.Var.{Var}
use Rattle.pool_syntax.specs.Terms.{Store, Literal, Assign, Statements, Done, Then, MethodTree, ClassTree, ProgramTree}
use Rattle.pool_syntax.specs.Classes.{named_method}
use Rattle.run_types.specs.Sorts.{Sort, is_same_sort}
use Rattle.pool_syntax.specs.Typing.{Scope, kind_sort, name_sort, value_sort, is_dangling, is_open, var_of, vars_of_class, methods_of_class, outcome_sort, method_sort, temps_of_method}
use Rattle.pool_relation.specs.Reducible.{set_value, assigned}
use Rattle.pool_relation.specs.Action.{value_of}
use Rattle.pool_relation.specs.Typed.{fits, is_store_of}
use Rattle.pool_relation.proofs.typing.TypedTerm.{Waits, is_broken, fits_need, gives, fits_outcome, TypedStatements}
use Rattle.run_types.proofs.Laws.{first, second, equal, not_true}
use Rattle.pool_relation.proofs.typing.Sorts.{MayBecome, HadNone, fits_known}

-- each variable's kind is Int, Bool or a class of the program
abbrev pub AllKnown : ProgramTree → List Var → Type 0
AllKnown p [] = Unit {0}
AllKnown p (v ∷ vs) = (is_broken (kind_sort p v.kind) ≡ false) × AllKnown p vs

abbrev pub OutcomeKnown : ProgramTree → Option Kind → Type 0
OutcomeKnown p None = Unit {0}
OutcomeKnown p (Some k) = is_broken (kind_sort p k) ≡ false

abbrev pub MethodKnown : ProgramTree → Option MethodTree → Type 0
MethodKnown p None = Unit {0}
MethodKnown p (Some m) = AllKnown p m.params × AllKnown p m.locals × OutcomeKnown p m.outcome

-- a class in which all kinds are known
pub record Known (p : ProgramTree) (own : Option ClassTree) : Type 0 where
  pub vars : AllKnown p (vars_of_class own)
  pub methods : (m : ℕ) → MethodKnown p (named_method (methods_of_class own) m)

-- a value that fits a known kind
fits_of : (s need : Sort) → is_broken need ≡ false → IsTrue (fits_need s need) → (is_open s || is_same_sort s need) ≡ true
unfolding fits_need
fits_of s need k h = grind (arith, k, h)

pub fits_var : (g : Scope) (v : Value) (y : Var) → is_broken (kind_sort g.program y.kind) ≡ false → is_dangling g v ≡ false
    → IsTrue (fits_need (value_sort g v) (kind_sort g.program y.kind)) → IsTrue (fits g v y)
fits_var g v y k d f = rw (d, fits_of (value_sort g v) (kind_sort g.program y.kind) k f) refl

-- a variable with a new value that fits
pub set_fits : (g : Scope) (vs : List Var) (t : Store) (x : ℕ) (v : Value) → AllKnown g.program vs → is_dangling g v ≡ false
    → ((y : Var) → var_of vs x ≡ Some y → IsTrue (fits_need (value_sort g v) (kind_sort g.program y.kind)))
    → IsTrue (is_store_of g vs t) → IsTrue (is_store_of g vs (set_value t x v))
set_fits g [] [] x v k d f s = refl
set_fits g (y ∷ vs) (b ∷ bs) x v k d f s = by (b.0 == x) refl (set_fits g vs bs x v k.1 d)
  where
    by : (c : Bool) → (b.0 == x) ≡ c
        → (((z : Var) → var_of vs x ≡ Some z → IsTrue (fits_need (value_sort g v) (kind_sort g.program z.kind))) → IsTrue (is_store_of g vs bs) → IsTrue (is_store_of g vs (set_value bs x v)))
        → IsTrue (is_store_of g (y ∷ vs) (set_value (b ∷ bs) x v))
    by true c rest =
        let same : y.name.0 ≡ b.0 = equal _ _ (grind (arith, s)) in
        let is : (y.name.0 == x) ≡ true = rw same c in
        let fit : IsTrue (fits g v y) = fits_var g v y k.0 d (f y (rw is refl)) in
        rw (c, is, fit) (grind (arith, s))
    by false c rest =
        let same : y.name.0 ≡ b.0 = equal _ _ (grind (arith, s)) in
        let is : (y.name.0 == x) ≡ false = rw same c in
        let r : IsTrue (is_store_of g vs (set_value bs x v)) = rest (λ z e. f z (rw is e)) (grind (arith, s)) in
        rw c (grind (arith, s, r))
set_fits g [] (b ∷ bs) x v k d f s = absurd (grind (arith, s))
set_fits g (y ∷ vs) [] x v k d f s = absurd (grind (arith, s))

all_known-append : (p : ProgramTree) (vs ws : List Var) → AllKnown p vs → AllKnown p ws → AllKnown p (vs ++ ws)
all_known-append p [] ws k l = l
all_known-append p (v ∷ vs) ws k l = (k.0, all_known-append p vs ws k.1 l)

pub temps_known : (p : ProgramTree) (m : Option MethodTree) → MethodKnown p m → AllKnown p (temps_of_method m)
temps_known p None k = tt
temps_known p (Some m) k = all_known-append p m.params m.locals k.0 k.1

-- the sort of a temp is that of its declaration
temp_sort : (g : Scope) (x : ℕ) (y : Var) → var_of g.temps x ≡ Some y → name_sort g x ≡ kind_sort g.program y.kind
temp_sort g x y e = rw e refl

-- the temps after an assignment that comes next
pub assigned_fits : (g : Scope) (ss : Statements) (t : Store) → AllKnown g.program g.temps → TypedStatements Waits g ss
    → IsTrue (is_store_of g g.temps t)
    → IsTrue (is_store_of g g.temps (assigned ss t))
assigned_fits g (Then (Assign x p (Literal v q)) ss) t k d s =
    set_fits g g.temps t x v k d.0.1.1 (λ y e. rw (temp_sort g x y e) at d.0.2) s
assigned_fits g (Then (Assign x p _) ss) t k d s = s
assigned_fits g (Then _ ss) t k d s = s
assigned_fits g Done t k d s = s

-- a method's value may stand for its call
pub gives_known : (p : ProgramTree) (m : Option MethodTree) (s : Sort) → MethodKnown p m → IsTrue (gives p m s)
    → MayBecome (method_sort p m) s
unfolding gives fits_outcome
gives_known p None s k h = absurd (grind (arith, h))
gives_known p (Some m) s k h = by m.outcome k.2 h
  where
    by : (o : Option Kind) → OutcomeKnown p o → IsTrue (fits_outcome p o s) → MayBecome (outcome_sort p o) s
    by None l i = HadNone refl
    by (Some c) l i = fits_known s (kind_sort p c) l i

-- the value of a variable that a store has, and none of another
pub data Valued (g : Scope) (vs : List Var) (t : Store) (x : ℕ) : Type 0 where
  Has : (y : Var) (v : Value) → var_of vs x ≡ Some y → value_of t x ≡ Some v → IsTrue (fits g v y) → Valued g vs t x
  Lacks : var_of vs x ≡ None → value_of t x ≡ None → Valued g vs t x

pub valued : (g : Scope) (vs : List Var) (t : Store) (x : ℕ) → IsTrue (is_store_of g vs t) → Valued g vs t x
valued g [] [] x s = Lacks refl refl
valued g (y ∷ vs) (b ∷ bs) x s = by (b.0 == x) refl (valued g vs bs x (second _ (is_store_of g vs bs) s))
  where
    by : (c : Bool) → (b.0 == x) ≡ c → Valued g vs bs x → Valued g (y ∷ vs) (b ∷ bs) x
    by true c rest =
        let p = first _ (is_store_of g vs bs) s in
        let same : y.name.0 ≡ b.0 = equal _ _ (first _ (fits g b.1 y) p) in
        Has y b.1 (rw (same, c) refl) (rw c refl) (second (y.name.0 == b.0) _ p)
    by false c (Has z v e i f) =
        let p = first _ (is_store_of g vs bs) s in
        let same : y.name.0 ≡ b.0 = equal _ _ (first _ (fits g b.1 y) p) in
        Has z v (rw (same, c) e) (rw c i) f
    by false c (Lacks e i) =
        let p = first _ (is_store_of g vs bs) s in
        let same : y.name.0 ≡ b.0 = equal _ _ (first _ (fits g b.1 y) p) in
        Lacks (rw (same, c) e) (rw c i)
valued g [] (b ∷ bs) x s = absurd (grind (arith, s))
valued g (y ∷ vs) [] x s = absurd (grind (arith, s))

-- a fitting value is there, and of the kind's sort
pub fits_parts : (g : Scope) (v : Value) (y : Var) → IsTrue (fits g v y)
    → (is_dangling g v ≡ false) × IsTrue (is_open (value_sort g v) || is_same_sort (value_sort g v) (kind_sort g.program y.kind))
fits_parts g v y h = (not_true _ (first _ (is_open (value_sort g v) || is_same_sort (value_sort g v) (kind_sort g.program y.kind)) h), second (not (is_dangling g v)) _ h)
