-- An answer to a call keeps a configuration typed.
use Rattle.std.proofs.Common.{◌≡◌, refl, sym, ap, ◌∙◌, subst, IsTrue, ℕ, List, [], ◌∷◌, ◌++◌, length, Some, None, false, not, ◌&&◌, ◌==◌, ◌⊎◌, inl, inr, ◌≢◌, append-nil, arith}
use Rattle.run_types.specs.declared.types.Value.{Value}
use Rattle.run_types.specs.declared.types.NameId.{NameId}
use Rattle.run_types.specs.declared.types.Label.TheVariants as L
use Rattle.pool_syntax.specs.Terms as T
use Rattle.pool_syntax.specs.Terms.{MethodTree, ProgramTree}
use Rattle.pool_syntax.specs.Typing.{faults}
use Rattle.pool_relation.specs.Reducible.{AsExpression}
use Rattle.pool_relation.specs.Action as A
use Rattle.pool_relation.specs.Action.{Object, Action, action, method_of}
use Rattle.pool_relation.specs.Configuration.{Configuration, object_of, put_object, messages_of}
use Rattle.pool_relation.specs.Transition.{running, calls, has_message, Offer, offer, refilled, serving, transition}
use Rattle.run_types.specs.Same.{are_same}
use Rattle.pool_relation.specs.UnderWay.{Serving, served_for, serves}
use Rattle.pool_relation.specs.Typed.{class_at}
use Rattle.pool_syntax.specs.Written.{is_written}
use Rattle.run_types.proofs.Laws.{first, second, equal, equals, decide, differ, same_some, given_by, required, same_values}
use Rattle.pool_relation.proofs.typing.TypedTerm.{Nothing, Methods, TypedStatements}
use Rattle.pool_relation.proofs.redex.TypedRedex.{Spot, at, FitValues}
use Rattle.pool_relation.proofs.action.TypedAction.{place, CanReceive, TakesStatements, TypedAction}
use Rattle.pool_relation.proofs.Lookup.{objects_in_order}
use Rattle.pool_relation.proofs.Invariant.{classes, Invariant}
use Rattle.pool_relation.proofs.preservation.ObjectUpdates.{Moves, objects_kept, messages_kept}
use Rattle.pool_relation.proofs.preservation.LookupOfTwo.{Lookup, Added, Replaced, AsBefore, look_up, two_moves}
use Rattle.pool_relation.proofs.FaultlessObject.{running_is}
use Rattle.pool_relation.proofs.action.NextWaits.{is_waits, does_not_wait}
use Rattle.pool_relation.proofs.preservation.OneObject.{object_typed_at, stepped, no_fault}
use Rattle.pool_relation.proofs.preservation.Messages.{offers, serving_typed}

-- what is served for one caller, by a method served for another
pub not_served : (q o m : ℕ) → q ≢ o → served_for q (Serving m (Some o) ∷ []) ≡ []
not_served q o m n = rw (differ o q (λ e. n (sym e))) refl

pub its_own : (o m : ℕ) → served_for o (Serving m (Some o) ∷ []) ≡ m ∷ []
its_own o m = rw (equals o) refl

-- an object that does not wait is not the one that waits
pub other_action : (p : ProgramTree) (b m o : ℕ) (x : Object) → is_waits (action p o x) ≡ false → action p o x ≡ A.Waits b m → ⊥
other_action p b m o x w e = absurd (grind (arith, w, ap is_waits e))

module _ (p : ProgramTree) (none : faults p ≡ []) (written : IsTrue (is_written p)) where
  answer_step : (c : Configuration) (o b m : ℕ) (args : List Value) (x y : Object) (v : Offer) (t : MethodTree) → Invariant p c
      → object_of c o ≡ Some x → x.fault ≡ None → object_of c b ≡ Some y → y.fault ≡ None
      → action p o x ≡ A.Send b m args → offer (action p b y) m ≡ Some v → method_of p y.class m (length args) ≡ Some t
      → Invariant p (put_object (put_object c o (refilled x (AsExpression (T.Wait b m)))) b (serving y t (Some o) args v.work))
  answer_step c o b m args x y v t g h hf i jf a off known =
      record {
        order = record { objects = objects_in_order (put_object c o x') b y' (objects_in_order c o x' g.order.objects); messages = g.order.messages; no_empty = g.order.no_empty };
        objects = objects_kept p c d g.objects moves;
        messages = λ s r. messages_kept p c d s r _ moves (g.messages s r);
        serving = record { waits = λ q n k z e w. waits q n k z e w (look_up c o x' b y' q); served = λ q n k ks z e s. served q n k ks z e s (look_up c o x' b y' n) };
      }
    where
      x' : Object
      x' = refilled x (AsExpression (T.Wait b m))

      y' : Object
      y' = serving y t (Some o) args v.work

      d : Configuration
      d = put_object (put_object c o x') b y'

      sends : TypedAction p (classes c) x (A.Send b m args)
      sends = subst (TypedAction p (classes c) x) a (object_typed_at p none written c o x g h)

      offered : (ts : Spot) × TypedStatements Nothing (at (place p (classes c) y) ts) v.work × TakesStatements p (classes c) y ts × (is_waits (action p b y) ≡ false)
      offered = offers p none written (classes c) y (action p b y) m v (object_typed_at p none written c b y g i) off

      can : CanReceive p (classes c) b m args
      can = sends.0

      its_class : can.0 ≡ y.class
      its_class = same_some (sym can.2 ∙ ap class_at i)

      its_method : can.1 ≡ t
      its_method = same_some (sym (subst (λ (k : ℕ). method_of p k m (length args) ≡ Some can.1) its_class can.3) ∙ known)

      args_fit : FitValues (place p (classes c) y) t.params args
      args_fit = subst (λ (n : MethodTree). FitValues (place p (classes c) y) n.params args) its_method can.4

      new_y : TypedStatements Methods (place p (classes c) y) y'.term × ((q : ℕ) → serves q y'.term ≡ serves q y.term ++ served_for q (Serving m (Some o) ∷ []))
      new_y = serving_typed p none written (classes c) y offered.0 m t (Some o) args v.work known args_fit offered.1 offered.2

      x_calm : is_waits (action p o x) ≡ false
      x_calm = ap is_waits a

      apart : o ≡ b → ⊥
      apart s =
          let same : y ≡ x = same_some (sym i ∙ ap (object_of c) (sym s) ∙ h) in
          let act : action p b y ≡ A.Send b m args = ap (λ n. action p n y) (sym s) ∙ ap (action p o) same ∙ a in
          let no : offer (A.Send b m args) m ≡ Some v = subst (λ (k : Action). offer k m ≡ Some v) act off in
          absurd (grind (arith, no))

      there_x : object_of d o ≡ Some x'
      there_x = by (look_up c o x' b y' o)
        where
          by : Lookup c o x' b y' o → object_of d o ≡ Some x'
          by (Added s e) = absurd (apart s)
          by (Replaced s e) = e
          by (AsBefore r n e) = absurd (n refl)

      there_y : object_of d b ≡ Some y'
      there_y = by (look_up c o x' b y' b)
        where
          by : Lookup c o x' b y' b → object_of d b ≡ Some y'
          by (Added s e) = e
          by (Replaced s e) = absurd (apart (sym s))
          by (AsBefore r n e) = absurd (r refl)

      moves : Moves p c d
      moves = two_moves p c o x x' b y y' h i refl refl (g.objects.class o x h) (g.objects.class b y i)
          (record { vars = (g.objects.typed o x h).vars; term = sends.1 }) (stepped p (classes c) y y'.term y.vars new_y.0 (g.objects.typed b y i).vars) (no_fault p o x' hf) (no_fault p b y' jf)

      silent : serves o y.term ≡ []
      silent = by (serves o y.term) refl
        where
          by : (l : List ℕ) → serves o y.term ≡ l → serves o y.term ≡ []
          by [] e = e
          by (n ∷ ns) e =
              let w = g.serving.served o b n ns y i e in
              let same : x ≡ w.0 = same_some (sym h ∙ w.1) in
              absurd (other_action p b n o x x_calm (ap (action p o) same ∙ w.2))

      -- who waits still waits
      still : (q n k : ℕ) (z : Object) → object_of c q ≡ Some z → action p q z ≡ A.Waits n k → object_of d q ≡ Some z
      still q n k z e w = by (look_up c o x' b y' q)
        where
          by : Lookup c o x' b y' q → object_of d q ≡ Some z
          by (Added s l) =
              let same : y ≡ z = same_some (sym i ∙ ap (object_of c) (sym s) ∙ e) in
              absurd (other_action p n k b y offered.3 (ap (λ j. action p j y) (sym s) ∙ ap (action p q) same ∙ w))
          by (Replaced s l) =
              let same : x ≡ z = same_some (sym h ∙ ap (object_of c) (sym s) ∙ e) in
              absurd (other_action p n k o x x_calm (ap (λ j. action p j x) (sym s) ∙ ap (action p q) same ∙ w))
          by (AsBefore r u l) = l ∙ e

      -- who serves another still serves it
      still_serves : (q n : ℕ) (z : Object) → object_of c n ≡ Some z → q ≢ o
          → (w : Object) × (object_of d n ≡ Some w) × (serves q w.term ≡ serves q z.term)
      still_serves q n z e ne = by (look_up c o x' b y' n)
        where
          by : Lookup c o x' b y' n → (w : Object) × (object_of d n ≡ Some w) × (serves q w.term ≡ serves q z.term)
          by (Added s l) =
              let same : y ≡ z = same_some (sym i ∙ ap (object_of c) (sym s) ∙ e) in
              (y', l, new_y.1 q ∙ ap (λ l. serves q y.term ++ l) (not_served q o m ne) ∙ append-nil (serves q y.term) ∙ ap (λ w. serves q w.term) same)
          by (Replaced s l) =
              let same : x ≡ z = same_some (sym h ∙ ap (object_of c) (sym s) ∙ e) in
              (x', l, sends.2 q ∙ ap (λ w. serves q w.term) same)
          by (AsBefore r u l) = (z, l ∙ e, refl)

      waits : (q n k : ℕ) (z : Object) → object_of d q ≡ Some z → action p q z ≡ A.Waits n k → Lookup c o x' b y' q
          → (w : Object) × (object_of d n ≡ Some w) × (serves q w.term ≡ k ∷ [])
      waits q n k z e w (Added s l) =
          let same : y' ≡ z = same_some (sym l ∙ e) in
          absurd (does_not_wait p (classes c) q y' new_y.0 n k (ap (action p q) same ∙ w))
      waits q n k z e w (Replaced s l) =
          let same : x' ≡ z = same_some (sym l ∙ e) in
          let both : A.Waits b m ≡ A.Waits n k = sym (sends.3 q) ∙ ap (action p q) same ∙ w in
          let to : b ≡ n = cc in
          let what : m ≡ k = cc in
          let whole : serves o y'.term ≡ m ∷ [] = new_y.1 o ∙ ap (λ l. l ++ served_for o (Serving m (Some o) ∷ [])) silent ∙ its_own o m in
          (y', ap (object_of d) (sym to) ∙ there_y, ap (λ j. serves j y'.term) s ∙ whole ∙ ap (λ j. j ∷ []) what)
      waits q n k z e w (AsBefore r u l) =
          let a = g.serving.waits q n k z (sym l ∙ e) w in
          let a2 = still_serves q n a.0 a.1 u in
          (a2.0, a2.1, a2.2 ∙ a.2)

      served : (q n k : ℕ) (ks : List ℕ) (z : Object) → object_of d n ≡ Some z → serves q z.term ≡ k ∷ ks → Lookup c o x' b y' n
          → (w : Object) × (object_of d q ≡ Some w) × (action p q w ≡ A.Waits n k)
      served q n k ks z e s (Added u l) = by (decide q o)
        where
          same : y' ≡ z
          same = same_some (sym l ∙ e)

          by : (q ≡ o) ⊎ (q ≢ o) → (w : Object) × (object_of d q ≡ Some w) × (action p q w ≡ A.Waits n k)
          by (inl f) =
              let whole : serves o y'.term ≡ m ∷ [] = new_y.1 o ∙ ap (λ l. l ++ served_for o (Serving m (Some o) ∷ [])) silent ∙ its_own o m in
              let one : m ∷ [] ≡ k ∷ ks = sym whole ∙ ap (λ j. serves j y'.term) (sym f) ∙ ap (λ w. serves q w.term) same ∙ s in
              let what : m ≡ k = cc in
              (x', ap (object_of d) f ∙ there_x, sends.3 q ∙ ap (λ j. A.Waits j m) (sym u) ∙ ap (A.Waits n) what)
          by (inr ne) =
              let old : serves q y.term ≡ k ∷ ks = sym (append-nil (serves q y.term)) ∙ ap (λ l. serves q y.term ++ l) (sym (not_served q o m ne)) ∙ sym (new_y.1 q) ∙ ap (λ w. serves q w.term) same ∙ s in
              let w = g.serving.served q b k ks y i old in
              (w.0, still q b k w.0 w.1 w.2, w.2 ∙ ap (λ j. A.Waits j k) (sym u))
      served q n k ks z e s (Replaced u l) =
          let same : x' ≡ z = same_some (sym l ∙ e) in
          let w = g.serving.served q o k ks x h (sym (sends.2 q) ∙ ap (λ w. serves q w.term) same ∙ s) in
          (w.0, still q o k w.0 w.1 w.2, w.2 ∙ ap (λ j. A.Waits j k) (sym u))
      served q n k ks z e s (AsBefore r u l) =
          let w = g.serving.served q n k ks z (sym l ∙ e) s in
          (w.0, still q n k w.0 w.1 w.2, w.2)

  pub answer_kept : (c d : Configuration) (b o : ℕ) (m : NameId) (args : List Value) → Invariant p c
      → transition p c (L.Answer b o m args) ≡ Some d → Invariant p d
  answer_kept c d b o m args g e =
      let a = given_by (running c o) _ d e in
      let r = running_is c o a.0 a.1 in
      let i = given_by (running c b) _ d a.2 in
      let s = running_is c b i.0 i.1 in
      let q = required (calls (action p o a.0) b m.0 args) _ d i.2 in
      let v = given_by (offer (action p b i.0) m.0) _ d q.1 in
      let n = required (not (has_message v.0.names (messages_of c o b))) _ d v.2 in
      let k = given_by (method_of p i.0.class m.0 (length args)) _ d n.1 in
      let act = called (action p o a.0) b m.0 args q.0 in
      subst (Invariant p) (same_some k.2) (answer_step c o b m.0 args a.0 i.0 v.0 k.0 g r.0 r.1 s.0 s.1 act v.1 k.1)
    where
      called : (k : Action) (r n : ℕ) (vs : List Value) → IsTrue (calls k r n vs) → k ≡ A.Send r n vs
      called (A.Send r' n' vs') r n vs h =
          let x = first (r' == r && n' == n) (are_same vs' vs) h in
          let e : r' ≡ r = equal r' r (first (r' == r) (n' == n) x) in
          let f : n' ≡ n = equal n' n (second (r' == r) (n' == n) x) in
          let g : vs' ≡ vs = same_values vs' vs (second (r' == r && n' == n) _ h) in
          cc
      called _ r n vs h = absurd (grind (arith, h))
