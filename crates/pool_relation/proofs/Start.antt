-- The start of a program.
use Rattle.std.proofs.Common.{◌≡◌, refl, sym, ap, ◌∙◌, subst, IsTrue, ℕ, List, [], ◌∷◌, length, Some, None, is_some, false, ◌==◌, ◌≢◌, cond, arith}
use Rattle.std.proofs.lemmas.List.Elements.{All-nil}
use Rattle.std.specs.Ordering.{nat_cmp, is_eq}
use Rattle.std.specs.declared.cmp.Ordering.{Ordering}
use Rattle.std.specs.declared.cmp.Ordering.TheVariants.{Less, Equal, Greater}
use Rattle.std.specs.FinMap.{nat_cmp-IsAntisymmetric}
use Rattle.run_types.specs.declared.types.Error.{Error}
use Rattle.pool_syntax.specs.Terms.{ClassTree, ProgramTree}
use Rattle.pool_syntax.specs.Classes.{class_of}
use Rattle.pool_syntax.specs.Typing.{faults, classes_faults, contains, fault_if, vars_faults, too_many, methods_faults, class_scope, statements_faults}
use Rattle.pool_relation.specs.Action as A
use Rattle.pool_relation.specs.Action.{Object, action}
use Rattle.pool_relation.specs.Configuration.{Configuration, object_of}
use Rattle.pool_relation.specs.Transition.{new_object, last_class, start}
use Rattle.pool_relation.specs.UnderWay.{serves}
use Rattle.pool_syntax.specs.Written.{is_written}
use Rattle.pool_relation.specs.Typed.{Typed}
use Rattle.run_types.proofs.Laws.{equals, same_some, given_by}
use Rattle.pool_relation.proofs.typing.TypedTerm.{Nothing, Methods, TypedStatements}
use Rattle.pool_relation.proofs.typing.Faults.{none2, no_fault_if}
use Rattle.pool_relation.proofs.redex.Idle.{statements_idle}
use Rattle.pool_relation.proofs.action.TypedAction.{place, TypedObject}
use Rattle.pool_relation.proofs.Invariant.{classes, FitsAt, Invariant, typed_of}
use Rattle.pool_relation.proofs.action.NextWaits.{does_not_wait}
use Rattle.pool_relation.proofs.preservation.OneObject.{no_fault}
use Rattle.pool_relation.proofs.preservation.NewObject.{new_object_typed}

-- the first class's name is new, and the classes behind it have no fault
pub class_parts : (p : ProgramTree) (before : List ℕ) (l : ClassTree) (ks : List ClassTree) → classes_faults p before (l ∷ ks) ≡ []
    → (contains before l.name.name.0 ≡ false) × (classes_faults p (l.name.name.0 ∷ before) ks ≡ [])
class_parts p before l ks h =
    let a = none2 {xs = fault_if (contains before l.name.name.0) l.name.pos 1} h in
    let b = none2 {xs = fault_if (length before == 256) l.name.pos 12} a.1 in
    let c = none2 {xs = vars_faults p 3 [] l.vars} b.1 in
    let d = none2 {xs = too_many 64 l.vars} c.1 in
    let e = none2 {xs = methods_faults (class_scope p l) [] l.methods} d.1 in
    let f = none2 {xs = statements_faults (class_scope p l) l.body} e.1 in
    (no_fault_if _ _ _ a.0, f.1)

-- the last class is the first of its name
pub last_first : (p : ProgramTree) (before : List ℕ) (ks : List ClassTree) (k : ClassTree) → classes_faults p before ks ≡ []
    → last_class ks ≡ Some k
    → (class_of ks k.name.name.0 ≡ Some k) × (contains before k.name.name.0 ≡ false)
last_first p before [] k h e = absurd (grind (arith, e))
last_first p before (l ∷ []) k h e =
    let same : l ≡ k = cc in
    let it : (class_of (l ∷ []) l.name.name.0 ≡ Some l) × (contains before l.name.name.0 ≡ false) = (rw (equals l.name.name.0) refl, (class_parts p before l [] h).0) in
    subst (λ (c : ClassTree). (class_of (l ∷ []) c.name.name.0 ≡ Some c) × (contains before c.name.name.0 ≡ false)) same it
last_first p before (l ∷ m ∷ ks) k h e =
    let r = last_first p (l.name.name.0 ∷ before) (m ∷ ks) k (class_parts p before l (m ∷ ks) h).1 e in
    let s : (l.name.name.0 == k.name.name.0) ≡ false = grind (arith, r.1) in
    let t : contains before k.name.name.0 ≡ false = grind (arith, r.1) in
    (rw s r.0, t)

-- what is found where there is one object
one_found : (n : ℕ) (x : Object) (o : ℕ) (y : Object) → object_of (record { objects = (n, x) ∷ []; messages = [] }) o ≡ Some y
    → (o ≡ n) × (x ≡ y)
one_found n x o y e = by (nat_cmp o n) refl e
  where
    by : (r : Ordering) → nat_cmp o n ≡ r → cond (is_eq r) (Some x) None ≡ Some y → (o ≡ n) × (x ≡ y)
    by Less i h = absurd (grind (arith, h))
    by Equal i h = (nat_cmp-IsAntisymmetric o n i, same_some h)
    by Greater i h = absurd (grind (arith, h))

module _ (p : ProgramTree) (none : faults p ≡ []) (written : IsTrue (is_written p)) where
  start_invariant : (n : ℕ) (k : ClassTree) → last_class p ≡ Some k → Invariant p (record { objects = (n, new_object k) ∷ []; messages = [] })
  start_invariant n k e = record {
    order = record { objects = refl; messages = refl; no_empty = refl };
    objects = record { class = λ o x i. known o x i; typed = λ o x i. typed o x i; fault = λ o x f i j. fault o x f i j };
    messages = λ s r. All-nil (FitsAt p c r);
    serving = record { waits = λ o b m x i a. absurd (calm o x i b m a); served = λ o b m ms y i s. absurd (idle o b y i m ms s) };
  }
    where
      c : Configuration
      c = record { objects = (n, new_object k) ∷ []; messages = [] }

      first_one : class_of p k.name.name.0 ≡ Some k
      first_one = (last_first p [] p k none e).0

      new : (TypedObject p (classes c) (new_object k)) × TypedStatements Methods (place p (classes c) (new_object k)) k.body × TypedStatements Nothing (place p (classes c) (new_object k)) k.body
      new = new_object_typed p none written (classes c) k.name.name.0 k first_one

      known : (o : ℕ) (x : Object) → object_of c o ≡ Some x → IsTrue (is_some (class_of p x.class))
      known o x i = subst (λ (y : Object). IsTrue (is_some (class_of p y.class))) (one_found n (new_object k) o x i).1 (rw first_one refl)

      typed : (o : ℕ) (x : Object) → object_of c o ≡ Some x → TypedObject p (classes c) x
      typed o x i = subst (TypedObject p (classes c)) (one_found n (new_object k) o x i).1 new.0

      fault : (o : ℕ) (x : Object) (f : Error) → object_of c o ≡ Some x → x.fault ≡ Some f → action p o x ≡ A.Fault f
      fault o x f i j = no_fault p o x (ap (λ y. y.fault) (sym (one_found n (new_object k) o x i).1)) f j

      calm : (o : ℕ) (x : Object) → object_of c o ≡ Some x → (b m : ℕ) → ¬ (action p o x ≡ A.Waits b m)
      calm o x i b m a = does_not_wait p (classes c) o (new_object k) new.1 b m (ap (action p o) (one_found n (new_object k) o x i).1 ∙ a)

      idle : (o b : ℕ) (y : Object) → object_of c b ≡ Some y → (m : ℕ) (ms : List ℕ) → ¬ (serves o y.term ≡ m ∷ ms)
      idle o b y i m ms s =
          let none_served : serves o k.body ≡ [] = rw (statements_idle (place p (classes c) (new_object k)) k.body new.2) refl in
          let it : [] ≡ m ∷ ms = sym none_served ∙ ap (λ x. serves o x.term) (one_found n (new_object k) b y i).1 ∙ s in
          absurd (grind (arith, it))

  pub start_typed : (n : ℕ) (c : Configuration) → start p n ≡ Some c → Typed p c
  start_typed n c e =
      let k = given_by (last_class p) _ c e in
      let is : record { objects = (n, new_object k.0) ∷ []; messages = [] } ≡ c = cc in
      typed_of p c (subst (Invariant p) is (start_invariant n k.0 k.1))

pub starts : (p : ProgramTree) (n : ℕ) → p ≢ [] → start p n ≢ None
starts [] n h e = h refl
starts (k ∷ ks) n h e = by (last_of k ks) e
  where
    last_of : (k : ClassTree) (ks : List ClassTree) → (l : ClassTree) × (last_class (k ∷ ks) ≡ Some l)
    last_of k [] = (k, refl)
    last_of k (m ∷ ks) = last_of m ks

    by : (l : ClassTree) × (last_class (k ∷ ks) ≡ Some l) → start (k ∷ ks) n ≡ None → ⊥
    by l i = absurd (grind (arith, rw l.1 at i))
