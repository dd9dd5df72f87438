-- The parts of a typed configuration, recovered from the truncated statement that it is typed.
use Rattle.std.proofs.Common.{◌≡◌, refl, sym, ap, ap₂, subst, IsTrue, ℕ, ◌==◌, List, [], ◌∷◌, length, Option, Some, None, Bool, true, false, ◌&&◌, arith}
use Rattle.std.proofs.Math.Logic.{∥∥₁_elim, ∥∥₁_map}
use denote.Struct.Props.{props}
use Rattle.run_types.specs.declared.types.Error.{Error}
use Rattle.pool_syntax.specs.Terms.{ProgramTree, MethodTree}
use Rattle.pool_syntax.specs.Typing.{statements_faults}
use Rattle.pool_relation.specs.Action as A
use Rattle.pool_relation.specs.Action.{Object, Action, action, method_of}
use Rattle.run_types.specs.Message.{Message}
use Rattle.pool_relation.specs.Configuration.{Configuration, object_of}
use Rattle.pool_relation.specs.Transition.{fails}
use Rattle.pool_relation.specs.Typed.{scope, all_fit, IsMessageFor, Typed}
use Rattle.pool_relation.specs.UnderWay.{serves}
use Rattle.run_types.proofs.Laws.{same_error, same_some, first, second, equal, equals}

-- a test
truth : (b : Bool) → ∥ IsTrue b ∥₁ → IsTrue b
truth b m = ∥∥₁_elim m (hlevel props) (λ e. e)

both_true : (a b : Bool) → ∥ IsTrue a × IsTrue b ∥₁ → IsTrue a × IsTrue b
both_true a b m = (truth a (∥∥₁_map m (λ e. e.0)), truth b (∥∥₁_map m (λ e. e.1)))

-- a list without elements
no_elements : {X : Type 0} (xs : List X) → ∥ xs ≡ [] ∥₁ → xs ≡ []
no_elements [] m = refl
no_elements (x ∷ xs) m = absurd (∥∥₁_elim m (λ y z. absurd y) (λ e. grind (arith, e)))

-- what a table says
found : {X : Type 0} (P : X → Type 0) (o : Option X) → ((x : X) → ∥ P x ∥₁ → P x) → ∥ ((x : X) × (o ≡ Some x) × P x) ∥₁ → (x : X) × (o ≡ Some x) × P x
found P None f m = absurd (∥∥₁_elim m (λ y z. absurd y) (λ t. grind (arith, t.1)))
found P (Some x) f m = (x, refl, f x (∥∥₁_map m (λ t. subst P (sym (same_some t.1)) t.2)))

-- an action that is known by a test
is_fault : (a : Action) (e : Error) → fails a e ≡ true → a ≡ A.Fault e
is_fault (A.Fault f) e h = ap A.Fault (same_error f e h)
is_fault _ e h = absurd (grind (arith, h))

faulted : (a : Action) (e : Error) → ∥ a ≡ A.Fault e ∥₁ → a ≡ A.Fault e
faulted a e m = is_fault a e (truth (fails a e) (∥∥₁_map m (λ h. rw (h, itself e) refl)))
  where
    itself : (e : Error) → fails (A.Fault e) e ≡ true
    itself e = equals _

waits_so : Action → ℕ → ℕ → Bool
waits_so (A.Waits k n) b m = k == b && n == m
waits_so _ b m = false

is_wait : (a : Action) (b m : ℕ) → waits_so a b m ≡ true → a ≡ A.Waits b m
unfolding waits_so
is_wait (A.Waits k n) b m h = ap₂ A.Waits (equal k b (first (k == b) (n == m) h)) (equal n m (second (k == b) (n == m) h))
is_wait _ b m h = absurd (grind (arith, h))

waiting : (a : Action) (b m : ℕ) → ∥ a ≡ A.Waits b m ∥₁ → a ≡ A.Waits b m
unfolding waits_so
waiting a b m t = is_wait a b m (truth (waits_so a b m) (∥∥₁_map t (λ h. rw (h, equals b, equals m) refl)))

names : (xs ys : List ℕ) → ∥ xs ≡ ys ∥₁ → xs ≡ ys
names xs ys m = ∥∥₁_elim m (hlevel props) (λ e. e)

message_for : (p : ProgramTree) (c : Configuration) (y : Object) (m : Message) → ∥ IsMessageFor p c y m ∥₁ → IsMessageFor p c y m
message_for p c y m =
    found (λ (k : MethodTree). IsTrue (all_fit (scope p c y.class) m.args k.params)) (method_of p y.class m.method (length m.args)) (λ k t. truth _ t)

pub typed : (p : ProgramTree) (c : Configuration) → ∥ Typed p c ∥₁ → Typed p c
typed p c m = record {
  in_order = both_true _ _ (∥∥₁_map m (λ t. t.in_order));
  no_empty = truth _ (∥∥₁_map m (λ t. t.no_empty));
  class = λ o x i. truth _ (∥∥₁_map m (λ t. t.class o x i));
  vars = λ o x i. truth _ (∥∥₁_map m (λ t. t.vars o x i));
  term = λ o x i. no_elements (statements_faults (scope p c x.class) x.term) (∥∥₁_map m (λ t. t.term o x i));
  sound = λ o x i. truth _ (∥∥₁_map m (λ t. t.sound o x i));
  fault = λ o x e i j. faulted (action p o x) e (∥∥₁_map m (λ t. t.fault o x e i j));
  messages = λ s r k d l. found (λ (y : Object). IsMessageFor p c y _) (object_of c r) (λ y t. message_for p c y _ t) (∥∥₁_map m (λ t. t.messages s r k d l));
  waits = λ o b n x i j. found (λ (y : Object). serves o y.term ≡ n ∷ []) (object_of c b) (λ y t. names _ _ t) (∥∥₁_map m (λ t. t.waits o b n x i j));
  served = λ o b n ns y i j. found (λ (x : Object). action p o x ≡ A.Waits b n) (object_of c o) (λ x t. waiting _ b n t) (∥∥₁_map m (λ t. t.served o b n ns y i j));
}
