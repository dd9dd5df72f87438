-- The keys of a map of objects rise, and so do the names of those that wait.
use Rattle.std.proofs.Common.{◌≡◌, ◌<◌, ℕ, zero, suc, List, [], ◌∷◌, length, get_or, Option, Some, None, Bool, refl, sym, ap, subst, arith}
use Rattle.std.specs.Ordering.{nat_cmp, is_lt}
use Rattle.std.specs.Map.{keys_of}
use Rattle.std.specs.List.{AllByRecursion}
use Rattle.std.specs.List.Sorted.{IsStrictlySortedBy}
use Rattle.std.specs.declared.cmp.Ordering.TheVariants.{Less}
use Rattle.pool_syntax.specs.Terms.{ProgramTree}
use Rattle.run_types.specs.declared.types.Standing.{Standing}
use Rattle.run_types.proofs.Laws.{less_than}
use Rattle.pool_relation.specs.Action.{Object, action}
use Rattle.stepper_objects.specs.declared.object_state.ObjectState.{ObjectState}
use Rattle.stepper_objects.specs.ObjectStates.{things}
use Rattle.wait_report.specs.declared.rows.ObjectRow.{ObjectRow}
use Rattle.wait_report.specs.Calls.{Rising, names_of}
use Rattle.waiting_objects.specs.Waiting.{waiting_in, waiting_now, waiting_row}

module _ (all : Bool) (p : ProgramTree) where
  -- a row has the name of its object
  named : (e : ℕ × Object) (r : ObjectRow) → waiting_row all p e ≡ Some r → r.name ≡ e.0
  named e r h = by (waiting_now all e.1.fault (action p e.0 e.1)) refl
    where
      by : (s : Option Standing) → waiting_now all e.1.fault (action p e.0 e.1) ≡ s → r.name ≡ e.0
      by None i = absurd (let z : None ≡ Some r = rw i at h in cc)
      by (Some s) i =
          let z : Some (record { name = e.0; class = record { 0 = e.1.class }; standing = s }) ≡ Some r = rw i at h in
          let same : record { name = e.0; class = record { 0 = e.1.class }; standing = s } ≡ r = cc in
          sym (ap (λ (q : ObjectRow). q.name) same)

  rows_above : (n : ℕ) (es : List (ℕ × Object)) (k : ℕ) → AllByRecursion (λ y. nat_cmp n y ≡ Less) (keys_of es) → k < length (names_of (waiting_in all p es)) → n < get_or (names_of (waiting_in all p es)) k 0
  rows_above n [] k h l = absurd (omega (arith, l))
  rows_above n (e ∷ es) k h l = by (waiting_row all p e) refl k l (λ k l. rows_above n es k h.1 l)
    where
      by : (o : Option ObjectRow) → waiting_row all p e ≡ o → (k : ℕ) → k < length (names_of (waiting_in all p (e ∷ es)))
          → ((k : ℕ) → k < length (names_of (waiting_in all p es)) → n < get_or (names_of (waiting_in all p es)) k 0) → n < get_or (names_of (waiting_in all p (e ∷ es))) k 0
      by None i k l rest = rw i (rest k (rw i at l))
      by (Some r) i zero l rest = rw (i, named e r i) (less_than n e.0 (ap is_lt h.0))
      by (Some r) i (suc k) l rest = let m = rw i at l in rw i (rest k (omega (arith, m)))

  rise : (es : List (ℕ × Object)) → IsStrictlySortedBy nat_cmp (keys_of es) → Rising (names_of (waiting_in all p es))
  unfolding IsStrictlySortedBy
  rise [] h = λ j k a l. absurd (omega (arith, l))
  rise (e ∷ es) h = by (waiting_row all p e) refl (rise es h.1) (λ k l. rows_above e.0 es k h.0 l)
    where
      by : (o : Option ObjectRow) → waiting_row all p e ≡ o → Rising (names_of (waiting_in all p es))
          → ((k : ℕ) → k < length (names_of (waiting_in all p es)) → e.0 < get_or (names_of (waiting_in all p es)) k 0)
          → Rising (names_of (waiting_in all p (e ∷ es)))
      by None i rest above = rw i rest
      by (Some r) i rest above = λ j k a l. at j k a (rw i at l)
        where
          at : (j k : ℕ) → j < k → k < length (r.name ∷ names_of (waiting_in all p es)) → get_or (names_of (waiting_in all p (e ∷ es))) j 0 < get_or (names_of (waiting_in all p (e ∷ es))) k 0
          at j zero a l = absurd (omega (arith, a))
          at zero (suc k) a l = rw (i, named e r i) (above k (omega (arith, l)))
          at (suc j) (suc k) a l = rw i (rest j k (omega (arith, a)) (omega (arith, l)))

  -- the values do not matter
  same_keys : (es : List (ℕ × ObjectState)) → keys_of (things es) ≡ keys_of es
  same_keys [] = refl
  same_keys (e ∷ es) = ap (λ ks. e.0 ∷ ks) (same_keys es)

  pub waiting_rise : (es : List (ℕ × ObjectState)) → IsStrictlySortedBy nat_cmp (keys_of es) → Rising (names_of (waiting_in all p (things es)))
  waiting_rise es h = rise (things es) (subst (IsStrictlySortedBy nat_cmp) (sym (same_keys es)) h)
