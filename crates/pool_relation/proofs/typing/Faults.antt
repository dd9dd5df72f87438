-- Lists of faults that are empty, as tests.
use Rattle.std.proofs.Common.{◌≡◌, refl, IsTrue, ℕ, List, [], ◌∷◌, ◌++◌, Option, Some, None, Bool, true, false, not, ◌&&◌, nat_le, arith}
use Rattle.run_types.specs.declared.types.Op.{Op}
use Rattle.run_types.specs.declared.types.Op.TheVariants as O
use Rattle.run_types.specs.declared.types.Kind.{Kind}
use Rattle.pool_syntax.specs.Terms.{Expression, MethodTree}
use Rattle.run_types.specs.Sorts.{Sort, IntSort, BoolSort, ClassSort, NilSort, NoSort, BrokenSort, operand_sort}
use Rattle.pool_syntax.specs.Typing.{Scope, kind_sort, sort_of, fault_if, no_result_faults, misfit, needs, needs_alike, needs_operands, limit_faults, method_faults, destination_faults, value_needs, position, counted}
use Rattle.pool_syntax.specs.Typing.{is_comparable}
use Rattle.pool_relation.specs.Typed.{has_room}
use Rattle.run_types.proofs.Laws.{not_true, true_not}
use Rattle.pool_relation.proofs.typing.TypedTerm.{has_no_sort, fits_need, fit_operands, takes, is_destination, gives, fits_outcome}

-- both lists are empty
pub none2 : {A : Type 0} {xs ys : List A} → xs ++ ys ≡ [] → (xs ≡ []) × (ys ≡ [])
none2 {xs = []} h = (refl, h)
none2 {xs = x ∷ xs} h = absurd (grind (arith, h))

pub none3 : {A : Type 0} {xs ys zs : List A} → xs ++ (ys ++ zs) ≡ [] → (xs ≡ []) × (ys ≡ []) × (zs ≡ [])
none3 h = let a = none2 h in let b = none2 a.1 in (a.0, b.0, b.1)

pub none4 : {A : Type 0} {xs ys zs ws : List A} → xs ++ (ys ++ (zs ++ ws)) ≡ [] → (xs ≡ []) × (ys ≡ []) × (zs ≡ []) × (ws ≡ [])
none4 h = let a = none2 h in let b = none3 a.1 in (a.0, b.0, b.1, b.2)

pub none5 : {A : Type 0} {xs ys zs ws vs : List A} → xs ++ (ys ++ (zs ++ (ws ++ vs))) ≡ []
    → (xs ≡ []) × (ys ≡ []) × (zs ≡ []) × (ws ≡ []) × (vs ≡ [])
none5 h = let a = none2 h in let b = none4 a.1 in (a.0, b.0, b.1, b.2, b.3)

pub empty2 : {A : Type 0} {xs ys : List A} → xs ≡ [] → ys ≡ [] → xs ++ ys ≡ []
empty2 p q = rw (p, q) refl

pub empty3 : {A : Type 0} {xs ys zs : List A} → xs ≡ [] → ys ≡ [] → zs ≡ [] → xs ++ (ys ++ zs) ≡ []
empty3 p q r = empty2 p (empty2 q r)

pub empty4 : {A : Type 0} {xs ys zs ws : List A} → xs ≡ [] → ys ≡ [] → zs ≡ [] → ws ≡ [] → xs ++ (ys ++ (zs ++ ws)) ≡ []
empty4 p q r s = empty2 p (empty3 q r s)

pub empty5 : {A : Type 0} {xs ys zs ws vs : List A} → xs ≡ [] → ys ≡ [] → zs ≡ [] → ws ≡ [] → vs ≡ []
    → xs ++ (ys ++ (zs ++ (ws ++ vs))) ≡ []
empty5 p q r s t = empty2 p (empty4 q r s t)

-- no fault where the test fails
pub no_fault_if : (b : Bool) (at n : ℕ) → fault_if b at n ≡ [] → b ≡ false
no_fault_if true at n h = absurd (grind (arith, h))
no_fault_if false at n h = refl

pub fault_if_none : (b : Bool) (at n : ℕ) → b ≡ false → fault_if b at n ≡ []
fault_if_none b at n h = rw h refl

pub room_of : (h p : ℕ) → limit_faults h p ≡ [] → IsTrue (has_room h)
room_of h p e = let f : nat_le 64 h ≡ false = no_fault_if _ _ _ e in rw f refl

pub limit_of : (h p : ℕ) → IsTrue (has_room h) → limit_faults h p ≡ []
limit_of h p e = fault_if_none _ p 12 (not_true _ e)

pub sort_of_none : (s : Sort) (at : ℕ) → no_result_faults s at ≡ [] → has_no_sort s ≡ false
unfolding has_no_sort
sort_of_none NoSort at h = absurd (grind (arith, h))
sort_of_none _ at h = refl

pub none_of_sort : (s : Sort) (at : ℕ) → has_no_sort s ≡ false → no_result_faults s at ≡ []
unfolding has_no_sort
none_of_sort NoSort at h = absurd (grind (arith, h))
none_of_sort _ at h = refl

pub fits_of_none : (s need : Sort) (at : ℕ) → misfit s need at ≡ [] → IsTrue (fits_need s need)
unfolding fits_need has_no_sort
fits_of_none NoSort need at h = absurd (grind (arith, h))
fits_of_none IntSort need at h = grind (arith, h)
fits_of_none BoolSort need at h = grind (arith, h)
fits_of_none (ClassSort c) need at h = grind (arith, h)
fits_of_none NilSort need at h = refl
fits_of_none BrokenSort need at h = refl

pub none_of_fits : (s need : Sort) (at : ℕ) → IsTrue (fits_need s need) → misfit s need at ≡ []
unfolding fits_need has_no_sort
none_of_fits NoSort need at h = absurd (grind (arith, h))
none_of_fits IntSort need at h = grind (arith, h)
none_of_fits BoolSort need at h = grind (arith, h)
none_of_fits (ClassSort c) need at h = grind (arith, h)
none_of_fits NilSort need at h = grind (arith, h)
none_of_fits BrokenSort need at h = grind (arith, h)

comparable_of : (s t : Sort) → is_comparable (counted s) (counted t) ≡ true → has_no_sort s ≡ false → has_no_sort t ≡ false
    → is_comparable s t ≡ true
unfolding has_no_sort
comparable_of NoSort t h a b = absurd (grind (arith, a))
comparable_of IntSort NoSort h a b = absurd (grind (arith, b))
comparable_of IntSort t h a b = grind (arith, h)
comparable_of BoolSort NoSort h a b = absurd (grind (arith, b))
comparable_of BoolSort t h a b = grind (arith, h)
comparable_of (ClassSort c) NoSort h a b = absurd (grind (arith, b))
comparable_of (ClassSort c) t h a b = grind (arith, h)
comparable_of NilSort NoSort h a b = absurd (grind (arith, b))
comparable_of NilSort t h a b = grind (arith, h)
comparable_of BrokenSort NoSort h a b = absurd (grind (arith, b))
comparable_of BrokenSort t h a b = grind (arith, h)

of_comparable : (s t : Sort) → is_comparable s t ≡ true → has_no_sort s ≡ false → has_no_sort t ≡ false
    → is_comparable (counted s) (counted t) ≡ true
unfolding has_no_sort
of_comparable NoSort t h a b = absurd (grind (arith, a))
of_comparable IntSort NoSort h a b = absurd (grind (arith, b))
of_comparable IntSort t h a b = grind (arith, h)
of_comparable BoolSort NoSort h a b = absurd (grind (arith, b))
of_comparable BoolSort t h a b = grind (arith, h)
of_comparable (ClassSort c) NoSort h a b = absurd (grind (arith, b))
of_comparable (ClassSort c) t h a b = grind (arith, h)
of_comparable NilSort NoSort h a b = absurd (grind (arith, b))
of_comparable NilSort t h a b = grind (arith, h)
of_comparable BrokenSort NoSort h a b = absurd (grind (arith, b))
of_comparable BrokenSort t h a b = grind (arith, h)

Alike : Sort → Sort → Type 0
Alike s t = (has_no_sort s ≡ false) × (has_no_sort t ≡ false) × (is_comparable s t ≡ true)

alike_of_none : (g : Scope) (l r : Expression) → needs_alike g l r ≡ []
    → IsTrue (not (has_no_sort (sort_of g l)) && not (has_no_sort (sort_of g r)) && is_comparable (sort_of g l) (sort_of g r))
alike_of_none g l r h =
    let a = none3 h in
    let x = sort_of_none (sort_of g l) (position l) a.0 in
    let y = sort_of_none (sort_of g r) (position r) a.1 in
    let c : is_comparable (counted (sort_of g l)) (counted (sort_of g r)) ≡ true = true_not _ (no_fault_if _ _ _ a.2) in
    rw (x, y, comparable_of _ _ c x y) refl

none_of_alike : (g : Scope) (l r : Expression)
    → IsTrue (not (has_no_sort (sort_of g l)) && not (has_no_sort (sort_of g r)) && is_comparable (sort_of g l) (sort_of g r))
    → needs_alike g l r ≡ []
none_of_alike g l r h =
    let x : has_no_sort (sort_of g l) ≡ false = grind (arith, h) in
    let y : has_no_sort (sort_of g r) ≡ false = grind (arith, h) in
    let c : is_comparable (sort_of g l) (sort_of g r) ≡ true = grind (arith, h) in
    let n : not (is_comparable (counted (sort_of g l)) (counted (sort_of g r))) ≡ false = rw (of_comparable _ _ c x y) refl in
    empty3 (none_of_sort (sort_of g l) (position l) x) (none_of_sort (sort_of g r) (position r) y) (fault_if_none _ (position r) 9 n)

both_of_none : (g : Scope) (need : Sort) (l r : Expression) → needs g need l ++ needs g need r ≡ []
    → IsTrue (fits_need (sort_of g l) need && fits_need (sort_of g r) need)
both_of_none g need l r h =
    let a = none2 h in
    rw (fits_of_none (sort_of g l) need (position l) a.0, fits_of_none (sort_of g r) need (position r) a.1) refl

none_of_both : (g : Scope) (need : Sort) (l r : Expression)
    → IsTrue (fits_need (sort_of g l) need && fits_need (sort_of g r) need) → needs g need l ++ needs g need r ≡ []
none_of_both g need l r h =
    empty2 (none_of_fits (sort_of g l) need (position l) (grind (arith, h))) (none_of_fits (sort_of g r) need (position r) (grind (arith, h)))

pub operands_of_none : (g : Scope) (op : Op) (l r : Expression) → needs_operands g op l r ≡ []
    → IsTrue (fit_operands op (sort_of g l) (sort_of g r))
unfolding fit_operands
operands_of_none g O.Same l r h = alike_of_none g l r h
operands_of_none g O.Differs l r h = alike_of_none g l r h
operands_of_none g op l r h = both_of_none g (operand_sort op) l r h

pub none_of_operands : (g : Scope) (op : Op) (l r : Expression) → IsTrue (fit_operands op (sort_of g l) (sort_of g r))
    → needs_operands g op l r ≡ []
unfolding fit_operands
none_of_operands g O.Same l r h = none_of_alike g l r h
none_of_operands g O.Differs l r h = none_of_alike g l r h
none_of_operands g op l r h = none_of_both g (operand_sort op) l r h

pub takes_of_none : (m : Option MethodTree) (n at : ℕ) → method_faults m n at ≡ [] → IsTrue (takes m n)
unfolding takes
takes_of_none None n at h = absurd (grind (arith, h))
takes_of_none (Some m) n at h = true_not _ (no_fault_if _ _ _ h)

pub none_of_takes : (m : Option MethodTree) (n at : ℕ) → IsTrue (takes m n) → method_faults m n at ≡ []
unfolding takes
none_of_takes None n at h = absurd (grind (arith, h))
none_of_takes (Some m) n at h = fault_if_none _ at 8 (rw h refl)

pub destination_of_none : (g : Scope) (s : Sort) (m n at to : ℕ) → destination_faults g s m n at to ≡ [] → IsTrue (is_destination g s m n)
unfolding is_destination
destination_of_none g (ClassSort c) m n at to h = takes_of_none _ n at h
destination_of_none g BrokenSort m n at to h = refl
destination_of_none g NilSort m n at to h = true_not _ (no_fault_if _ _ _ h)
destination_of_none g NoSort m n at to h = absurd (grind (arith, h))
destination_of_none g IntSort m n at to h = absurd (grind (arith, h))
destination_of_none g BoolSort m n at to h = absurd (grind (arith, h))

pub none_of_destination : (g : Scope) (s : Sort) (m n at to : ℕ) → IsTrue (is_destination g s m n) → destination_faults g s m n at to ≡ []
unfolding is_destination
none_of_destination g (ClassSort c) m n at to h = none_of_takes _ n at h
none_of_destination g BrokenSort m n at to h = refl
none_of_destination g NilSort m n at to h = fault_if_none _ to 9 (rw h refl)
none_of_destination g NoSort m n at to h = absurd (grind (arith, h))
none_of_destination g IntSort m n at to h = absurd (grind (arith, h))
none_of_destination g BoolSort m n at to h = absurd (grind (arith, h))

pub gives_of_none : (g : Scope) (m : Option MethodTree) (e : Expression) → value_needs g m e ≡ []
    → IsTrue (gives g.program m (sort_of g e))
unfolding gives fits_outcome
gives_of_none g None e h = absurd (grind (arith, h))
gives_of_none g (Some m) e h = by m.outcome refl
  where
    by : (o : Option Kind) → m.outcome ≡ o → IsTrue (fits_outcome g.program m.outcome (sort_of g e))
    by None i = rw i refl
    by (Some k) i = rw i (fits_of_none (sort_of g e) (kind_sort g.program k) (position e) (rw i at h))

pub none_of_gives : (g : Scope) (m : Option MethodTree) (e : Expression) → IsTrue (gives g.program m (sort_of g e))
    → value_needs g m e ≡ []
unfolding gives fits_outcome
none_of_gives g None e h = absurd (grind (arith, h))
none_of_gives g (Some m) e h = by m.outcome refl
  where
    by : (o : Option Kind) → m.outcome ≡ o → value_needs g (Some m) e ≡ []
    by None i = rw i refl
    by (Some k) i = rw i (none_of_fits (sort_of g e) (kind_sort g.program k) (position e) (rw i at h))
