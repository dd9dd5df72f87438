-- The return of a call keeps a configuration typed.
use Rattle.std.proofs.Common.{◌≡◌, refl, sym, ap, ◌∙◌, subst, IsTrue, ℕ, List, [], ◌∷◌, ◌++◌, Option, Some, None, false, ◌&&◌, ◌==◌, ◌⊎◌, inl, inr, ◌≢◌, append-nil, arith}
use Rattle.run_types.specs.declared.types.Value.{Value}
use Rattle.run_types.specs.declared.types.Label.TheVariants as L
use Rattle.pool_syntax.specs.Terms.{ProgramTree}
use Rattle.pool_syntax.specs.Classes.{named_method}
use Rattle.pool_syntax.specs.Typing.{faults, value_sort, object_sort, send_sort, methods_of}
use Rattle.run_types.specs.Values.{is_same}
use Rattle.pool_relation.specs.Action as A
use Rattle.pool_relation.specs.Action.{Object, Action, action, method_of}
use Rattle.pool_relation.specs.Configuration.{Configuration, object_of, put_object}
use Rattle.pool_relation.specs.Transition.{running, returns, waits_on, returned, given, transition}
use Rattle.pool_relation.specs.UnderWay.{served_for, serves}
use Rattle.pool_relation.specs.Typed.{class_at}
use Rattle.pool_syntax.specs.Written.{is_written}
use Rattle.run_types.proofs.Laws.{first, second, equal, decide, same_some, given_by, required, same_value}
use Rattle.pool_relation.proofs.typing.Sorts.{MayBecome}
use Rattle.pool_relation.proofs.typing.DeclaredStores.{gives_known}
use Rattle.pool_relation.proofs.typing.CheckedProgram.{class_known}
use Rattle.pool_relation.proofs.action.TypedAction.{place, Steps, TypedAction}
use Rattle.pool_relation.proofs.Lookup.{objects_in_order}
use Rattle.pool_relation.proofs.Invariant.{classes, Invariant}
use Rattle.pool_relation.proofs.preservation.ObjectUpdates.{Moves, objects_kept, messages_kept}
use Rattle.pool_relation.proofs.preservation.LookupOfTwo.{Lookup, Added, Replaced, AsBefore, look_up, two_moves}
use Rattle.pool_relation.proofs.FaultlessObject.{running_is}
use Rattle.pool_relation.proofs.action.NextWaits.{is_waits, does_not_wait}
use Rattle.pool_relation.proofs.preservation.OneObject.{object_typed_at, stepped, no_fault}
use Rattle.pool_relation.proofs.preservation.CallAnswer.{not_served, its_own, other_action}

module _ (p : ProgramTree) (none : faults p ≡ []) (written : IsTrue (is_written p)) where
  -- one method is served, and it is the one
  one_is : (xs : List ℕ) (m n : ℕ) → xs ++ m ∷ [] ≡ n ∷ [] → (xs ≡ []) × (m ≡ n)
  one_is [] m n e = (refl, cc)
  one_is (x ∷ []) m n e = absurd (grind (arith, e))
  one_is (x ∷ y ∷ xs) m n e = absurd (grind (arith, e))

  return_step : (c : Configuration) (o b m : ℕ) (x y : Object) (v : Value) → Invariant p c → object_of c o ≡ Some x → x.fault ≡ None
      → object_of c b ≡ Some y → y.fault ≡ None
      → action p b y ≡ A.Return o v → action p o x ≡ A.Waits b m → Invariant p (put_object (put_object c b (returned y)) o (given x v))
  return_step c o b m x y v g h hf i jf a w0 =
      record {
        order = record { objects = objects_in_order (put_object c b y') o x' (objects_in_order c b y' g.order.objects); messages = g.order.messages; no_empty = g.order.no_empty };
        objects = objects_kept p c d g.objects moves;
        messages = λ s r. messages_kept p c d s r _ moves (g.messages s r);
        serving = record { waits = λ q n k z e w. waits q n k z e w (look_up c b y' o x' q); served = λ q n k ks z e s. served q n k ks z e s (look_up c b y' o x' n) };
      }
    where
      x' : Object
      x' = given x v

      y' : Object
      y' = returned y

      d : Configuration
      d = put_object (put_object c b y') o x'

      ends : TypedAction p (classes c) y (A.Return o v)
      ends = subst (TypedAction p (classes c) y) a (object_typed_at p none written c b y g i)

      attends : TypedAction p (classes c) x (A.Waits b m)
      attends = subst (TypedAction p (classes c) x) w0 (object_typed_at p none written c o x g h)

      served_before : ℕ → List ℕ
      served_before q = served_for q ends.1

      -- the method that ends is the one that is waited for
      one : (served_before o ≡ []) × (ends.0 ≡ m)
      one =
          let w = g.serving.waits o b m x h w0 in
          let same : w.0 ≡ y = same_some (sym w.1 ∙ i) in
          let l : served_before o ++ ends.0 ∷ [] ≡ m ∷ [] =
          ap (λ l. served_before o ++ l) (sym (its_own o ends.0)) ∙ sym (ends.3 o) ∙ ap (λ z. serves o z.term) (sym same) ∙ w.2 in
          one_is (served_before o) ends.0 m l

      sort : MayBecome (send_sort p (object_sort (classes c b)) m) (value_sort (place p (classes c) x) v)
      sort =
          let known = class_known p y.class none written in
          let it : MayBecome (send_sort p (object_sort (Some y.class)) ends.0) (value_sort (place p (classes c) x) v) = gives_known p (named_method (methods_of p y.class) ends.0) (value_sort (place p (classes c) y) v) (known.methods ends.0) ends.6 in
          subst (λ (k : Option ℕ). MayBecome (send_sort p (object_sort k) m) (value_sort (place p (classes c) x) v)) (sym (ap class_at i))
          (subst (λ (k : ℕ). MayBecome (send_sort p (object_sort (Some y.class)) k) (value_sort (place p (classes c) x) v)) one.1 it)

      goes_on : Steps p (classes c) x x'.term
      goes_on = attends.1 v ends.5 sort

      moves : Moves p c d
      moves = two_moves p c b y y' o x x' i h refl refl (g.objects.class b y i) (g.objects.class o x h)
          (stepped p (classes c) y y'.term y.vars ends.2 (g.objects.typed b y i).vars) (stepped p (classes c) x x'.term x.vars goes_on.0 (g.objects.typed o x h).vars) (no_fault p b y' jf) (no_fault p o x' hf)

      y_calm : is_waits (action p b y) ≡ false
      y_calm = ap is_waits a

      -- what another is served, before and after
      serves_other : (q : ℕ) → q ≢ o → serves q y'.term ≡ serves q y.term
      serves_other q ne =
          ends.4 q ∙ sym (append-nil (served_before q)) ∙ ap (λ l. served_before q ++ l) (sym (not_served q o ends.0 ne)) ∙ sym (ends.3 q)

      still : (q n k : ℕ) (z : Object) → q ≢ o → object_of c q ≡ Some z → action p q z ≡ A.Waits n k → object_of d q ≡ Some z
      still q n k z ne e w = by (look_up c b y' o x' q)
        where
          by : Lookup c b y' o x' q → object_of d q ≡ Some z
          by (Added s l) = absurd (ne s)
          by (Replaced s l) =
              let same : y ≡ z = same_some (sym i ∙ ap (object_of c) (sym s) ∙ e) in
              absurd (other_action p n k b y y_calm (ap (λ j. action p j y) (sym s) ∙ ap (action p q) same ∙ w))
          by (AsBefore r u l) = l ∙ e

      still_serves : (q n : ℕ) (z : Object) → object_of c n ≡ Some z → q ≢ o
          → (w : Object) × (object_of d n ≡ Some w) × (serves q w.term ≡ serves q z.term)
      still_serves q n z e ne = by (look_up c b y' o x' n)
        where
          by : Lookup c b y' o x' n → (w : Object) × (object_of d n ≡ Some w) × (serves q w.term ≡ serves q z.term)
          by (Added s l) =
              let same : x ≡ z = same_some (sym h ∙ ap (object_of c) (sym s) ∙ e) in
              (x', l, goes_on.1 q ∙ ap (λ w. serves q w.term) same)
          by (Replaced s l) =
              let same : y ≡ z = same_some (sym i ∙ ap (object_of c) (sym s) ∙ e) in
              (y', l, serves_other q ne ∙ ap (λ w. serves q w.term) same)
          by (AsBefore r u l) = (z, l ∙ e, refl)

      waits : (q n k : ℕ) (z : Object) → object_of d q ≡ Some z → action p q z ≡ A.Waits n k → Lookup c b y' o x' q
          → (w : Object) × (object_of d n ≡ Some w) × (serves q w.term ≡ k ∷ [])
      waits q n k z e w (Added s l) =
          let same : x' ≡ z = same_some (sym l ∙ e) in
          absurd (does_not_wait p (classes c) q x' goes_on.0 n k (ap (action p q) same ∙ w))
      waits q n k z e w (Replaced s l) =
          let same : y' ≡ z = same_some (sym l ∙ e) in
          absurd (does_not_wait p (classes c) q y' ends.2 n k (ap (action p q) same ∙ w))
      waits q n k z e w (AsBefore r u l) =
          let a = g.serving.waits q n k z (sym l ∙ e) w in
          let a2 = still_serves q n a.0 a.1 r in
          (a2.0, a2.1, a2.2 ∙ a.2)

      -- the caller waited for b alone
      only_b : (n k : ℕ) (z : Object) → object_of c o ≡ Some z → action p o z ≡ A.Waits n k → n ≡ b
      only_b n k z e w =
          let same : x ≡ z = same_some (sym h ∙ e) in
          let both : A.Waits b m ≡ A.Waits n k = sym w0 ∙ ap (action p o) same ∙ w in
          cc

      apart : o ≡ b → ⊥
      apart s =
          let same : y ≡ x = same_some (sym i ∙ ap (object_of c) (sym s) ∙ h) in
          other_action p b m b y y_calm (ap (action p b) same ∙ ap (λ n. action p n x) (sym s) ∙ w0)

      -- whoever is served was served before, and was not o
      waiting : (q n k : ℕ) → (w : Object) × (object_of c q ≡ Some w) × (action p q w ≡ A.Waits n k) → (q ≡ o → n ≡ b → ⊥)
          → (w : Object) × (object_of d q ≡ Some w) × (action p q w ≡ A.Waits n k)
      waiting q n k w never = by (decide q o)
        where
          by : (q ≡ o) ⊎ (q ≢ o) → (w : Object) × (object_of d q ≡ Some w) × (action p q w ≡ A.Waits n k)
          by (inl s) = absurd (never s (only_b n k w.0 (ap (object_of c) (sym s) ∙ w.1) (ap (λ j. action p j w.0) (sym s) ∙ w.2)))
          by (inr ne) = (w.0, still q n k w.0 ne w.1 w.2, w.2)

      served : (q n k : ℕ) (ks : List ℕ) (z : Object) → object_of d n ≡ Some z → serves q z.term ≡ k ∷ ks → Lookup c b y' o x' n
          → (w : Object) × (object_of d q ≡ Some w) × (action p q w ≡ A.Waits n k)
      served q n k ks z e s (Added u l) =
          let same : x' ≡ z = same_some (sym l ∙ e) in
          let w = g.serving.served q o k ks x h (sym (goes_on.1 q) ∙ ap (λ w. serves q w.term) same ∙ s) in
          waiting q n k (w.0, w.1, w.2 ∙ ap (λ j. A.Waits j k) (sym u)) (λ t r. apart (sym u ∙ r))
      served q n k ks z e s (Replaced u l) = by (decide q o)
        where
          same : y' ≡ z
          same = same_some (sym l ∙ e)

          new : serves q y'.term ≡ k ∷ ks
          new = ap (λ w. serves q w.term) same ∙ s

          by : (q ≡ o) ⊎ (q ≢ o) → (w : Object) × (object_of d q ≡ Some w) × (action p q w ≡ A.Waits n k)
          by (inl t) =
              let nothing : [] ≡ k ∷ ks = sym one.0 ∙ ap served_before (sym t) ∙ sym (ends.4 q) ∙ new in
              absurd (grind (arith, nothing))
          by (inr ne) =
              let w = g.serving.served q b k ks y i (sym (serves_other q ne) ∙ new) in
              waiting q n k (w.0, w.1, w.2 ∙ ap (λ j. A.Waits j k) (sym u)) (λ t r. ne t)
      served q n k ks z e s (AsBefore r u l) = waiting q n k (g.serving.served q n k ks z (sym l ∙ e) s) (λ t v. u v)

  pub return_kept : (c d : Configuration) (b o : ℕ) (v : Value) → Invariant p c → transition p c (L.Return b o v) ≡ Some d → Invariant p d
  return_kept c d b o v g e =
      let i = given_by (running c b) _ d e in
      let s = running_is c b i.0 i.1 in
      let a = given_by (running c o) _ d i.2 in
      let r = running_is c o a.0 a.1 in
      let q = required (returns (action p b i.0) o v && waits_on (action p o a.0) b) _ d a.2 in
      let act = gives (action p b i.0) o v (first _ (waits_on (action p o a.0) b) q.0) in
      let w = waited (action p o a.0) b (second (returns (action p b i.0) o v) _ q.0) in
      subst (Invariant p) (same_some q.1) (return_step c o b w.0 a.0 i.0 v g r.0 r.1 s.0 s.1 act w.1)
    where
      gives : (k : Action) (o : ℕ) (w : Value) → IsTrue (returns k o w) → k ≡ A.Return o w
      gives (A.Return o' w') o w h =
          let e : o' ≡ o = equal o' o (first (o' == o) (is_same w' w) h) in
          let f : w' ≡ w = same_value w' w (second (o' == o) (is_same w' w) h) in
          cc
      gives _ o w h = absurd (grind (arith, h))

      waited : (k : Action) (b : ℕ) → IsTrue (waits_on k b) → (m : ℕ) × (k ≡ A.Waits b m)
      waited (A.Waits b' m) b h = (m, ap (λ j. A.Waits j m) (equal b' b h))
      waited _ b h = absurd (grind (arith, h))
