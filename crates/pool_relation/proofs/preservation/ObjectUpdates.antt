-- The parts of a typed configuration that stay if objects are replaced and added.
use Rattle.std.proofs.Common.{◌≡◌, refl, sym, ap, ◌∙◌, subst, IsTrue, ℕ, List, [], ◌∷◌, Option, Some, None, is_some, length, ◌⊎◌, inl, inr, arith}
use Rattle.run_types.specs.declared.types.Error.{Error}
use Rattle.run_types.specs.declared.types.Value.{Value}
use Rattle.pool_syntax.specs.declared.tree.Var.{Var}
use Rattle.pool_syntax.specs.Terms.{MethodTree, ProgramTree}
use Rattle.pool_syntax.specs.Classes.{class_of}
use Rattle.pool_syntax.specs.Typing.{Scope, vars_of_class}
use Rattle.pool_relation.specs.Action as A
use Rattle.pool_relation.specs.Action.{Object, action, method_of}
use Rattle.run_types.specs.Tables.{Pair}
use Rattle.run_types.specs.Message.{Message}
use Rattle.pool_relation.specs.Configuration.{Configuration, object_of, put_object}
use Rattle.pool_relation.specs.UnderWay.{serves}
use Rattle.pool_relation.specs.Typed.{class_at, scope, fits, all_fit}
use Rattle.run_types.proofs.Laws.{same_some, first, second, both}
use Rattle.pool_relation.proofs.typing.TypedTerm.{Waits}
use Rattle.pool_relation.proofs.typing.AddedObjects.{Grows, grown, fits_grown, store_grown, statements_grown}
use Rattle.pool_relation.proofs.action.TypedAction.{place, TypedObject}
use Rattle.pool_relation.proofs.Lookup.{Put, New, Old, put_cases}
use Rattle.pool_relation.proofs.Invariant.{classes, MessagesFit, Served, Objects}

-- an object as it was made or replaced
pub record Anew (p : ProgramTree) (f : ℕ → Option ℕ) (q : ℕ) (y : Object) : Type 0 where
  pub class : IsTrue (is_some (class_of p y.class))
  pub typed : TypedObject p f y
  pub fault : (e : Error) → y.fault ≡ Some e → action p q y ≡ A.Fault e

-- each object is still there with its class; each is an old one, or typed anew
pub record Moves (p : ProgramTree) (c d : Configuration) : Type 0 where
  pub forward : (q : ℕ) (x : Object) → object_of c q ≡ Some x → (y : Object) × (object_of d q ≡ Some y) × (y.class ≡ x.class)
  pub backward : (q : ℕ) (y : Object) → object_of d q ≡ Some y → (object_of c q ≡ Some y) ⊎ (Anew p (classes d) q y)

pub forward_grows : (c d : Configuration)
    → ((q : ℕ) (x : Object) → object_of c q ≡ Some x → (y : Object) × (object_of d q ≡ Some y) × (y.class ≡ x.class))
    → Grows (classes c) (classes d)
forward_grows c d f = record { kept = λ n k e. by n k (object_of c n) refl e }
  where
    by : (n k : ℕ) (o : Option Object) → object_of c n ≡ o → class_at o ≡ Some k → classes d n ≡ Some k
    by n k None i e = absurd (grind (arith, e))
    by n k (Some x) i e = let y = f n x i in ap class_at y.1 ∙ ap Some y.2 ∙ e

pub object_grown : (p : ProgramTree) (f f' : ℕ → Option ℕ) (x : Object) → Grows f f' → TypedObject p f x → TypedObject p f' x
object_grown p f f' x w o = record {
  vars = store_grown (place p f x) f' (vars_of_class (class_of p x.class)) x.vars w o.vars;
  term = statements_grown Waits (place p f x) f' x.term w o.term;
}

pub objects_kept : (p : ProgramTree) (c d : Configuration) → Objects p c → Moves p c d → Objects p d
objects_kept p c d o m = record {
  class = λ q y e. class q y (m.backward q y e);
  typed = λ q y e. typed q y (m.backward q y e);
  fault = λ q y r e. fault q y r (m.backward q y e);
}
  where
    class : (q : ℕ) (y : Object) → (object_of c q ≡ Some y) ⊎ (Anew p (classes d) q y) → IsTrue (is_some (class_of p y.class))
    class q y (inl e) = o.class q y e
    class q y (inr a) = a.class

    typed : (q : ℕ) (y : Object) → (object_of c q ≡ Some y) ⊎ (Anew p (classes d) q y) → TypedObject p (classes d) y
    typed q y (inl e) = object_grown p (classes c) (classes d) y (forward_grows c d m.forward) (o.typed q y e)
    typed q y (inr a) = a.typed

    fault : (q : ℕ) (y : Object) (r : Error) → (object_of c q ≡ Some y) ⊎ (Anew p (classes d) q y) → y.fault ≡ Some r
        → action p q y ≡ A.Fault r
    fault q y r (inl e) = o.fault q y r e
    fault q y r (inr a) = a.fault r

all_fit_grown : (g : Scope) (f : ℕ → Option ℕ) (vs : List Value) (xs : List Var) → Grows g.object_class f
    → IsTrue (all_fit g vs xs) → IsTrue (all_fit (grown g f) vs xs)
all_fit_grown g f [] [] w h = refl
all_fit_grown g f (v ∷ vs) (x ∷ xs) w h =
    both _ _ (fits_grown g f v x w (first (fits g v x) (all_fit g vs xs) h)) (all_fit_grown g f vs xs w (second (fits g v x) (all_fit g vs xs) h))
all_fit_grown g f [] (x ∷ xs) w h = h
all_fit_grown g f (v ∷ vs) [] w h = h

-- a message that fits a method of the class k
abbrev pub FitsClass : ProgramTree → Configuration → ℕ → Message → Type 0
FitsClass p c k m = (method : MethodTree) × (method_of p k m.method (length m.args) ≡ Some method) × IsTrue (all_fit (scope p c k) m.args method.params)

fits_class_kept : (p : ProgramTree) (c d : Configuration) (k k' : ℕ) (m : Message) → k' ≡ k → Grows (classes c) (classes d)
    → FitsClass p c k m → FitsClass p d k' m
fits_class_kept p c d k k' m e w t =
    subst (λ (n : ℕ). FitsClass p d n m) (sym e) (t.0, t.1, all_fit_grown (scope p c k) (classes d) m.args t.0.params w t.2)

pub messages_kept : (p : ProgramTree) (c d : Configuration) (s r : ℕ) (ms : List Message) → Moves p c d → MessagesFit p c s r ms
    → MessagesFit p d s r ms
messages_kept p c d s r ms m h = λ k i lt.
    let a = h k i lt in
    let b = m.forward r a.0 a.1 in
    (b.0, b.1, fits_class_kept p c d a.0.class b.0.class _ b.2 (forward_grows c d m.forward) a.2)

-- each object serves whom it served, and waits if it waited; a new one serves no one and does not wait
pub record Calm (p : ProgramTree) (c d : Configuration) : Type 0 where
  pub forward : (q : ℕ) (x : Object) → object_of c q ≡ Some x
      → (y : Object) × (object_of d q ≡ Some y) × ((k : ℕ) → serves k y.term ≡ serves k x.term) × ((b m : ℕ) → action p q x ≡ A.Waits b m → action p q y ≡ A.Waits b m)
  pub backward : (q : ℕ) (y : Object) → object_of d q ≡ Some y
      → ((x : Object) × (object_of c q ≡ Some x) × ((k : ℕ) → serves k y.term ≡ serves k x.term) × ((b m : ℕ) → action p q y ≡ A.Waits b m → action p q x ≡ A.Waits b m))
      ⊎ (((k : ℕ) → serves k y.term ≡ []) × ((b m : ℕ) → ¬ (action p q y ≡ A.Waits b m)))

pub serving_kept : (p : ProgramTree) (c d : Configuration) → Served p c → Calm p c d → Served p d
serving_kept p c d s m = record { waits = λ o b n x e a. waits o b n x a (m.backward o x e); served = λ o b n ns y e a. served o b n ns y a (m.backward b y e) }
  where
    waits : (o b n : ℕ) (x : Object) → action p o x ≡ A.Waits b n
        → ((z : Object) × (object_of c o ≡ Some z) × ((k : ℕ) → serves k x.term ≡ serves k z.term) × ((i j : ℕ) → action p o x ≡ A.Waits i j → action p o z ≡ A.Waits i j))
        ⊎ (((k : ℕ) → serves k x.term ≡ []) × ((i j : ℕ) → ¬ (action p o x ≡ A.Waits i j)))
        → (y : Object) × (object_of d b ≡ Some y) × (serves o y.term ≡ n ∷ [])
    waits o b n x a (inl z) =
        let y = s.waits o b n z.0 z.1 (z.3 b n a) in
        let w = m.forward b y.0 y.1 in
        (w.0, w.1, w.2 o ∙ y.2)
    waits o b n x a (inr z) = absurd (z.1 b n a)

    served : (o b n : ℕ) (ns : List ℕ) (y : Object) → serves o y.term ≡ n ∷ ns
        → ((z : Object) × (object_of c b ≡ Some z) × ((k : ℕ) → serves k y.term ≡ serves k z.term) × ((i j : ℕ) → action p b y ≡ A.Waits i j → action p b z ≡ A.Waits i j))
        ⊎ (((k : ℕ) → serves k y.term ≡ []) × ((i j : ℕ) → ¬ (action p b y ≡ A.Waits i j)))
        → (x : Object) × (object_of d o ≡ Some x) × (action p o x ≡ A.Waits b n)
    served o b n ns y a (inl z) =
        let x = s.served o b n ns z.0 z.1 (sym (z.2 o) ∙ a) in
        let w = m.forward o x.0 x.1 in
        (w.0, w.1, w.3 b n x.2)
    served o b n ns y a (inr z) = absurd (grind (arith, sym (z.0 o) ∙ a))

-- one object is replaced, with its class kept; the messages may differ
abbrev pub after_put : Configuration → ℕ → Object → List (Pair × List Message) → Configuration
after_put c o y ms = record { objects = (put_object c o y).objects; messages = ms }

pub put_forward : (c : Configuration) (o : ℕ) (x y : Object) (ms : List (Pair × List Message)) → object_of c o ≡ Some x
    → y.class ≡ x.class
    → (q : ℕ) (z : Object) → object_of c q ≡ Some z → (w : Object) × (object_of (after_put c o y ms) q ≡ Some w) × (w.class ≡ z.class)
put_forward c o x y ms h k q z e = by (put_cases c o y q)
  where
    by : Put c o y q → (w : Object) × (object_of (after_put c o y ms) q ≡ Some w) × (w.class ≡ z.class)
    by (New s i) = let same : x ≡ z = same_some (sym (ap (object_of c) s ∙ h) ∙ e) in (y, i, k ∙ ap (λ o. o.class) same)
    by (Old n i) = (z, i ∙ e, refl)

pub put_moves : (p : ProgramTree) (c : Configuration) (o : ℕ) (x y : Object) (ms : List (Pair × List Message))
    → object_of c o ≡ Some x → y.class ≡ x.class
    → IsTrue (is_some (class_of p x.class)) → TypedObject p (classes c) y
    → ((e : Error) → y.fault ≡ Some e → action p o y ≡ A.Fault e) → Moves p c (after_put c o y ms)
put_moves p c o x y ms h k known typed fault = record { forward = put_forward c o x y ms h k; backward = back }
  where
    d : Configuration
    d = after_put c o y ms

    anew : Anew p (classes d) o y
    anew = record { class = rw k known; typed = object_grown p (classes c) (classes d) y (forward_grows c d (put_forward c o x y ms h k)) typed; fault = fault }

    by : (q : ℕ) (z : Object) → object_of d q ≡ Some z → Put c o y q → (object_of c q ≡ Some z) ⊎ (Anew p (classes d) q z)
    by q z e (New s i) =
        let same : y ≡ z = same_some (sym i ∙ e) in
        inr (subst (λ (w : Object). Anew p (classes d) q w) same (subst (λ (n : ℕ). Anew p (classes d) n y) (sym s) anew))
    by q z e (Old n i) = inl (sym i ∙ e)

    back : (q : ℕ) (z : Object) → object_of d q ≡ Some z → (object_of c q ≡ Some z) ⊎ (Anew p (classes d) q z)
    back q z e = by q z e (put_cases c o y q)

pub put_calm : (p : ProgramTree) (c : Configuration) (o : ℕ) (x y : Object) (ms : List (Pair × List Message)) → object_of c o ≡ Some x
    → ((k : ℕ) → serves k y.term ≡ serves k x.term) → ((b m : ℕ) → ¬ (action p o x ≡ A.Waits b m))
    → ((b m : ℕ) → ¬ (action p o y ≡ A.Waits b m)) → Calm p c (after_put c o y ms)
put_calm p c o x y ms h k before after = record { forward = λ q z e. fore q z e (put_cases c o y q); backward = λ q z e. back q z e (put_cases c o y q) }
  where
    fore : (q : ℕ) (z : Object) → object_of c q ≡ Some z → Put c o y q
        → (w : Object) × (object_of (after_put c o y ms) q ≡ Some w) × ((n : ℕ) → serves n w.term ≡ serves n z.term) × ((b m : ℕ) → action p q z ≡ A.Waits b m → action p q w ≡ A.Waits b m)
    fore q z e (New s i) =
        let same : x ≡ z = same_some (sym (ap (object_of c) s ∙ h) ∙ e) in
        (y, i, (λ n. k n ∙ ap (λ o. serves n o.term) same), (λ b m a. absurd (before b m (ap (λ n. action p n x) (sym s) ∙ ap (action p q) same ∙ a))))
    fore q z e (Old n i) = (z, i ∙ e, (λ n. refl), (λ b m a. a))

    back : (q : ℕ) (z : Object) → object_of (after_put c o y ms) q ≡ Some z → Put c o y q
        → ((w : Object) × (object_of c q ≡ Some w) × ((n : ℕ) → serves n z.term ≡ serves n w.term) × ((b m : ℕ) → action p q z ≡ A.Waits b m → action p q w ≡ A.Waits b m))
        ⊎ (((n : ℕ) → serves n z.term ≡ []) × ((b m : ℕ) → ¬ (action p q z ≡ A.Waits b m)))
    back q z e (New s i) =
        let same : y ≡ z = same_some (sym i ∙ e) in
        inl (x, ap (object_of c) s ∙ h, (λ n. ap (λ o. serves n o.term) (sym same) ∙ k n), (λ b m a. absurd (after b m (ap (λ n. action p n y) (sym s) ∙ ap (action p q) same ∙ a))))
    back q z e (Old n i) = inl (z, sym i ∙ e, (λ n. refl), (λ b m a. a))
