-- No object goes wrong, and each has a transition, is finished, or is at a communication.
use Rattle.std.proofs.Common.{◌≡◌, refl, sym, ap, ◌∙◌, subst, IsTrue, ℕ, suc, ◌+◌, ◌≤◌, ℤ, pos, negsuc, List, [], ◌∷◌, ◌++◌, length, Option, Some, None, true, false, ◌≢◌, ◌⊎◌, inl, inr, cond, arith}
use Rattle.std.specs.Ordering.{nat_cmp, is_eq}
use Rattle.std.specs.declared.cmp.Ordering.{Ordering}
use Rattle.std.specs.declared.cmp.Ordering.TheVariants.{Less, Equal, Greater}
use Rattle.std.specs.FinMap.{find, nat_cmp-IsAntisymmetric}
use Rattle.run_types.specs.declared.types.Error.{Error}
use Rattle.run_types.specs.declared.types.Value.{Value}
use Rattle.run_types.specs.declared.types.Value.TheVariants as V
use Rattle.run_types.specs.declared.types.Item.{Item}
use Rattle.run_types.specs.declared.types.Item.TheVariants as I
use Rattle.run_types.specs.declared.types.Label.TheVariants as L
use Rattle.pool_syntax.specs.Terms.{ProgramTree, ClassTree}
use Rattle.pool_syntax.specs.Classes.{class_of}
use Rattle.pool_syntax.specs.Typing.{faults}
use Rattle.run_types.specs.Values.{is_same, is_same_int}
use Rattle.pool_relation.specs.Action as A
use Rattle.pool_relation.specs.Action.{Object, Action, action, method_of}
use Rattle.pool_relation.specs.Configuration.{Configuration, object_of, put_object, messages_of, put_messages}
use Rattle.pool_relation.specs.Transition.{running, done, returned, given, new_object}
use Rattle.run_types.specs.Same.{are_same, is_same_item, error_number}
use Rattle.pool_relation.specs.UnderWay.{Serving, served_for, serves}
use Rattle.pool_relation.specs.Typed.{class_at, CanTake, GoesWrong, Typed}
use Rattle.pool_syntax.specs.Written.{is_written}
use Rattle.pool_relation.specs.Progress.{HasOwnTransition}
use Rattle.pool_relation.specs.Communication.{IsCommunication}
use Rattle.run_types.proofs.Laws.{equals, both, there_is}
use Rattle.pool_relation.proofs.action.TypedAction.{CanReceive, TypedAction}
use Rattle.pool_relation.proofs.Invariant.{classes, Invariant, invariant_of}
use Rattle.pool_relation.proofs.preservation.OneObject.{object_typed_at}

same_int_itself : (z : ℤ) → is_same_int z z ≡ true
same_int_itself (pos n) = equals n
same_int_itself (negsuc n) = equals n

same_itself : (v : Value) → is_same v v ≡ true
same_itself (V.Int z) = same_int_itself z
same_itself (V.Bool true) = refl
same_itself (V.Bool false) = refl
same_itself (V.Ref n) = equals n
same_itself V.Nil = refl

all_same : (vs : List Value) → are_same vs vs ≡ true
all_same [] = refl
all_same (v ∷ vs) = both (is_same v v) (are_same vs vs) (same_itself v) (all_same vs)

same_item : (i : Item) → is_same_item i i ≡ true
same_item (I.Value v) = same_itself v
same_item (I.Text s) = equals s.0

-- a name that no object has
abbrev above : List (ℕ × Object) → ℕ
above [] = 0
above (e ∷ es) = suc (e.0 + above es)

free_above : (es : List (ℕ × Object)) (n : ℕ) → above es ≤ n → find nat_cmp n es ≡ None
free_above [] n h = refl
free_above (e ∷ es) n h = by (nat_cmp n e.0) refl (free_above es n (omega arith))
  where
    by : (r : Ordering) → nat_cmp n e.0 ≡ r → find nat_cmp n es ≡ None
        → cond (is_eq (nat_cmp n e.0)) (Some e.1) (find nat_cmp n es) ≡ None
    by Less i rest = rw i rest
    by Equal i rest = let same : n ≡ e.0 = nat_cmp-IsAntisymmetric n e.0 i in absurd (omega arith)
    by Greater i rest = rw i rest

running_of : (c : Configuration) (o : ℕ) (x : Object) → object_of c o ≡ Some x → x.fault ≡ None → running c o ≡ Some x
running_of c o x e n = rw (e, n) refl

-- the object of a class that is there
object_there : (c : Configuration) (b k : ℕ) → classes c b ≡ Some k → (y : Object) × (object_of c b ≡ Some y) × (y.class ≡ k)
object_there c b k e = by (object_of c b) refl e
  where
    by : (o : Option Object) → object_of c b ≡ o → class_at o ≡ Some k → (y : Object) × (object_of c b ≡ Some y) × (y.class ≡ k)
    by None i h = absurd (grind (arith, h))
    by (Some y) i h = (y, i, cc)

module _ (p : ProgramTree) (none : faults p ≡ []) (written : IsTrue (is_written p)) where
  can_take : (c : Configuration) (b m : ℕ) (args : List Value) → CanReceive p (classes c) b m args → CanTake p c b m (length args)
  can_take c b m args r =
      let y = object_there c b r.0 r.2 in
      (y.0, r.1, y.1, subst (λ (k : ℕ). method_of p k m (length args) ≡ Some r.1) (sym y.2) r.3)

  -- what is served last is served
  some_served : (xs : List ℕ) (m : ℕ) → (n : ℕ) × (ns : List ℕ) × (xs ++ m ∷ [] ≡ n ∷ ns)
  some_served [] m = (m, [], refl)
  some_served (x ∷ xs) m = (x, xs ++ m ∷ [], refl)

  -- an object to which a value is returned waits for it
  returned_to : (c : Configuration) (o k : ℕ) (v : Value) (x : Object) → Invariant p c → object_of c o ≡ Some x → action p o x ≡ A.Return k v
      → (y : Object) × (m : ℕ) × (object_of c k ≡ Some y) × (action p k y ≡ A.Waits o m)
  returned_to c o k v x g e a =
      let f : TypedAction p (classes c) x (A.Return k v) = subst (TypedAction p (classes c) x) a (object_typed_at p none written c o x g e) in
      let s = some_served (served_for k f.1) f.0 in
      let own : served_for k (Serving f.0 (Some k) ∷ []) ≡ f.0 ∷ [] = rw (equals k) refl in
      let l : serves k x.term ≡ s.0 ∷ s.1 = f.3 k ∙ ap (λ l. served_for k f.1 ++ l) own ∙ s.2 in
      let w = g.serving.served k o s.0 s.1 x e l in
      (w.0, s.0, w.1, w.2)

  pub not_wrong : (c : Configuration) (o : ℕ) (x : Object) → Typed p c → object_of c o ≡ Some x → ¬ (GoesWrong p c o (action p o x))
  not_wrong c o x w e = by (action p o x) refl (object_typed_at p none written c o x g e)
    where
      g : Invariant p c
      g = invariant_of p c w

      by : (a : Action) → action p o x ≡ a → TypedAction p (classes c) x a → ¬ (GoesWrong p c o a)
      by A.Stuck i f h = f
      by (A.Send b m args) i f h = h (can_take c b m args f.0)
      by (A.Async b m args) i f h = h (can_take c b m args f.0)
      by (A.Return k v) i f h = h (returned_to c o k v x g e i)
      by A.Finished i f h = h
      by (A.Local term vars) i f h = h
      by (A.Fault r) i f h = h
      by (A.New k) i f h = h
      by (A.Write item) i f h = h
      by (A.Answer names) i f h = h
      by (A.Select cs) i f h = h
      by (A.Waits b m) i f h = h

  pub goes_on_or_meets : (c : Configuration) (o : ℕ) (x : Object) → Typed p c → object_of c o ≡ Some x → x.fault ≡ None
      → action p o x ≢ A.Finished
      → (HasOwnTransition p c o) ⊎ IsCommunication (action p o x)
  goes_on_or_meets c o x w e n more = by (action p o x) refl (object_typed_at p none written c o x g e)
    where
      g : Invariant p c
      g = invariant_of p c w

      there : running c o ≡ Some x
      there = running_of c o x e n

      free : ℕ
      free = above c.objects

      is_free : object_of c free ≡ None
      is_free = free_above c.objects free (omega arith)

      no_fault_waiting : (k m : ℕ) (y : Object) → object_of c k ≡ Some y → action p k y ≡ A.Waits o m → y.fault ≡ None
      no_fault_waiting k m y i a = at_rest y.fault refl
        where
          at_rest : (r : Option Error) → y.fault ≡ r → y.fault ≡ None
          at_rest None j = j
          at_rest (Some r) j = let both : A.Waits o m ≡ A.Fault r = sym a ∙ w.fault k y r i j in absurd (grind (arith, both))

      makes_one : (k : ℕ) (class : ClassTree) → class_of p k ≡ Some class → action p o x ≡ A.New k → HasOwnTransition p c o
      makes_one k class known i =
          (L.New o free (record { 0 = k }), refl, put_object (put_object c o (given x (V.Ref free))) free (new_object class), rw (there, i, equals k, is_free, known) refl)

      by : (a : Action) → action p o x ≡ a → TypedAction p (classes c) x a → (HasOwnTransition p c o) ⊎ IsCommunication a
      by A.Finished i f = absurd (more i)
      by (A.Local term vars) i f = inl (L.Local o, refl, put_object c o (record x { term = term; vars = vars }), rw (there, i) refl)
      by (A.Fault r) i f = inl (L.Fault o r, refl, put_object c o (record x { fault = Some r }), rw (there, i, equals (error_number r)) refl)
      by (A.New k) i f =
          let class = there_is (class_of p k) f.0 in
          inl (makes_one k class.0 class.1 i)
      by (A.Send b m args) i f = inr tt
      by (A.Async b m args) i f =
          let y = object_there c b f.0.0 f.0.2 in
          inl (
            L.Send o b (record { 0 = m }) args,
            refl,
            put_messages (put_object c o (done x)) o b (messages_of c o b ++ record { method = m; args = args } ∷ []),
            rw (there, i, equals b, equals m, all_same args, y.1) refl,
          )
      by (A.Write item) i f = inl (L.Write o item, refl, put_object c o (done x), rw (there, i, same_item item) refl)
      by (A.Answer names) i f = inr tt
      by (A.Select cs) i f = inr tt
      by (A.Return k v) i f =
          let y = returned_to c o k v x g e i in
          let waiting : running c k ≡ Some y.0 = running_of c k y.0 y.2 (no_fault_waiting k y.1 y.0 y.2 y.3) in
          inl (L.Return o k v, refl, put_object (put_object c o (returned x)) k (given y.0 v), rw (there, waiting, i, y.3, equals k, same_itself v, equals o) refl)
      by (A.Waits b m) i f = inr tt
      by A.Stuck i f = absurd f
