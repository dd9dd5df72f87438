-- Objects of a configuration after an update of two entries.
use Rattle.std.proofs.Common.{◌≡◌, refl, sym, ap, ◌∙◌, subst, IsTrue, ℕ, Some, is_some, ◌⊎◌, inl, inr, ◌≢◌}
use Rattle.run_types.specs.declared.types.Error.{Error}
use Rattle.pool_syntax.specs.Terms.{ProgramTree}
use Rattle.pool_syntax.specs.Classes.{class_of}
use Rattle.pool_relation.specs.Action as A
use Rattle.pool_relation.specs.Action.{Object, action}
use Rattle.pool_relation.specs.Configuration.{Configuration, object_of, put_object}
use Rattle.pool_relation.proofs.typing.AddedObjects.{Grows}
use Rattle.pool_relation.proofs.action.TypedAction.{TypedObject}
use Rattle.pool_relation.proofs.Lookup.{Put, New, Old, put_cases}
use Rattle.pool_relation.proofs.Invariant.{classes}
use Rattle.pool_relation.proofs.preservation.ObjectUpdates.{Anew, Moves, forward_grows, object_grown}
use Rattle.run_types.proofs.Laws.{same_some}

-- each name after two objects were put
pub data Lookup (c : Configuration) (o : ℕ) (y : Object) (n : ℕ) (z : Object) (q : ℕ) : Type 0 where
  Added : q ≡ n → object_of (put_object (put_object c o y) n z) q ≡ Some z → Lookup c o y n z q
  Replaced : q ≡ o → object_of (put_object (put_object c o y) n z) q ≡ Some y → Lookup c o y n z q
  AsBefore : q ≢ n → q ≢ o → object_of (put_object (put_object c o y) n z) q ≡ object_of c q → Lookup c o y n z q

pub look_up : (c : Configuration) (o : ℕ) (y : Object) (n : ℕ) (z : Object) (q : ℕ) → Lookup c o y n z q
look_up c o y n z q = by (put_cases (put_object c o y) n z q) (put_cases c o y q)
  where
    by : Put (put_object c o y) n z q → Put c o y q → Lookup c o y n z q
    by (New s i) k = Added s i
    by (Old s i) (New t k) = Replaced t (i ∙ k)
    by (Old s i) (Old t k) = AsBefore s t (i ∙ k)

-- two objects are replaced, with their classes kept
pub two_moves : (p : ProgramTree) (c : Configuration) (o : ℕ) (x x' : Object) (b : ℕ) (y y' : Object) → object_of c o ≡ Some x
    → object_of c b ≡ Some y → x'.class ≡ x.class → y'.class ≡ y.class
    → IsTrue (is_some (class_of p x'.class)) → IsTrue (is_some (class_of p y'.class)) → TypedObject p (classes c) x'
    → TypedObject p (classes c) y'
    → ((e : Error) → x'.fault ≡ Some e → action p o x' ≡ A.Fault e)
    → ((e : Error) → y'.fault ≡ Some e → action p b y' ≡ A.Fault e) → Moves p c (put_object (put_object c o x') b y')
two_moves p c o x x' b y y' h i k l s t u v f g = record { forward = forward; backward = λ q w e. back q w e (look_up c o x' b y' q) }
  where
    d : Configuration
    d = put_object (put_object c o x') b y'

    ahead : (q : ℕ) (w : Object) → object_of c q ≡ Some w → Lookup c o x' b y' q
        → (z : Object) × (object_of d q ≡ Some z) × (z.class ≡ w.class)
    ahead q w e (Added m n) = let same : y ≡ w = same_some (sym (ap (object_of c) m ∙ i) ∙ e) in (y', n, l ∙ ap (λ o. o.class) same)
    ahead q w e (Replaced m n) = let same : x ≡ w = same_some (sym (ap (object_of c) m ∙ h) ∙ e) in (x', n, k ∙ ap (λ o. o.class) same)
    ahead q w e (AsBefore r m n) = (w, n ∙ e, refl)

    forward : (q : ℕ) (w : Object) → object_of c q ≡ Some w → (z : Object) × (object_of d q ≡ Some z) × (z.class ≡ w.class)
    forward q w e = ahead q w e (look_up c o x' b y' q)

    grows : Grows (classes c) (classes d)
    grows = forward_grows c d forward

    anew_x : Anew p (classes d) o x'
    anew_x = record { class = s; typed = object_grown p (classes c) (classes d) x' grows u; fault = f }

    anew_y : Anew p (classes d) b y'
    anew_y = record { class = t; typed = object_grown p (classes c) (classes d) y' grows v; fault = g }

    back : (q : ℕ) (w : Object) → object_of d q ≡ Some w → Lookup c o x' b y' q → (object_of c q ≡ Some w) ⊎ (Anew p (classes d) q w)
    back q w e (Added m n) = inr (subst (λ (z : Object). Anew p (classes d) q z) (same_some (sym n ∙ e)) (subst (λ (j : ℕ). Anew p (classes d) j y') (sym m) anew_y))
    back q w e (Replaced m n) = inr (subst (λ (z : Object). Anew p (classes d) q z) (same_some (sym n ∙ e)) (subst (λ (j : ℕ). Anew p (classes d) j x') (sym m) anew_x))
    back q w e (AsBefore r m n) = inl (sym n ∙ e)
