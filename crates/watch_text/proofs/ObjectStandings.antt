-- The rows that the code makes of a typed configuration have the status of each object, and rising names.
use Rattle.std.proofs.Common.{◌≡◌, ◌≢◌, ◌⊎◌, inl, inr, refl, sym, subst, ◌∙◌, ℕ, zero, suc, ◌<◌, List, [], ◌∷◌, length, get_or, Option, Some, None, IsTrue, Bool, true, false, arith}
use Rattle.std.specs.Ordering.{nat_cmp, is_lt}
use Rattle.std.specs.declared.cmp.Ordering.{Ordering}
use Rattle.std.specs.declared.cmp.Ordering.TheVariants.{Less, Equal, Greater}
use Rattle.std.specs.Cmp.{nat_cmp_total, tied_itself}
use Rattle.std.specs.FinMap.{nat_cmp-IsAntisymmetric}
use Rattle.std.specs.FinMap.Entries.{find, is_sorted, below_all}
use Rattle.std.specs.BTreeSet.{BTreeSet, contains}
use Rattle.run_types.specs.declared.types.Error.{Error}
use Rattle.run_types.proofs.Laws.{first, second, less_than}
use Rattle.pool_syntax.specs.Terms.{ProgramTree}
use Rattle.pool_relation.specs.Action as A
use Rattle.pool_relation.specs.Action.{Object, Action, action}
use Rattle.pool_relation.specs.Communication.{IsCommunication}
use Rattle.pool_relation.specs.Configuration.{Configuration, object_of}
use Rattle.pool_relation.specs.Progress.{HasOwnTransition}
use Rattle.pool_relation.proofs.Laws.{goes_on_or_meets}
use Rattle.pool_semantics.specs.Sound.{Sound}
use Rattle.wait_report.specs.Calls.{names_of, Rising}
use Rattle.watch_text.specs.ObjectRows.{rows_of, served_standing, standing_at, standing_of}
use Rattle.watch_text.specs.Waits.{AreRows, IsCalling, IsServing, Stands}

-- each entry of a map with rising keys is found

module _ {X : Type 0} where
  find_later : (n : ℕ) (e : ℕ × X) (es : List (ℕ × X)) → e.0 < n → find nat_cmp n (e ∷ es) ≡ find nat_cmp n es
  find_later n e es above = by (nat_cmp n e.0) refl
    where
      by : (r : Ordering) → nat_cmp n e.0 ≡ r → find nat_cmp n (e ∷ es) ≡ find nat_cmp n es
      by Less i = rw i refl
      by Greater i = rw i refl
      by Equal i = absurd (let q = nat_cmp-IsAntisymmetric n e.0 i in omega (arith, above, q))

  abbrev AreFound : List (ℕ × X) → List (ℕ × X) → Type 0
  AreFound all [] = Unit {0}
  AreFound all (e ∷ es) = (find nat_cmp e.0 all ≡ Some e.1) × AreFound all es

  found_behind : (e : ℕ × X) (es xs : List (ℕ × X)) → IsTrue (below_all nat_cmp e.0 xs) → AreFound es xs → AreFound (e ∷ es) xs
  found_behind e es [] b h = tt
  found_behind e es (x ∷ xs) b h = (
    find_later x.0 e es (less_than e.0 x.0 (first (is_lt (nat_cmp e.0 x.0)) (below_all nat_cmp e.0 xs) b)) ∙ h.0,
    found_behind e es xs (second (is_lt (nat_cmp e.0 x.0)) (below_all nat_cmp e.0 xs) b) h.1,
  )

  all_found : (es : List (ℕ × X)) → IsTrue (is_sorted nat_cmp es) → AreFound es es
  all_found [] h = tt
  all_found (e ∷ es) h = (
    rw (tied_itself nat_cmp_total e.0) refl,
    found_behind e es es (first (below_all nat_cmp e.0 es) (is_sorted nat_cmp es) h) (all_found es (second (below_all nat_cmp e.0 es) (is_sorted nat_cmp es) h)),
  )

-- the status of each object

module _ (p : ProgramTree) (c : Configuration) (sound : Sound p c) (movers : BTreeSet ℕ) (all : (o : ℕ) → HasOwnTransition p c o → contains nat_cmp movers o ≡ true)
    (only : (o : ℕ) → contains nat_cmp movers o ≡ true → HasOwnTransition p c o) where
  stands : (o : ℕ) (x : Object) → object_of c o ≡ Some x → Stands p c o x (standing_of (contains nat_cmp movers o) x.fault (action p o x))
  stands o x there = by x.fault refl
    where
      own : (k : Action) → action p o x ≡ k → x.fault ≡ None → k ≢ A.Finished → ¬ (IsCommunication k) → HasOwnTransition p c o
      own k i h f n = on (goes_on_or_meets p sound.faultless sound.written c o x sound.typed there h (λ z. f (sym i ∙ z)))
        where
          on : (HasOwnTransition p c o) ⊎ IsCommunication (action p o x) → HasOwnTransition p c o
          on (inl t) = t
          on (inr t) = absurd (n (subst IsCommunication i t))

      serves : (m : Bool) → contains nat_cmp movers o ≡ m → x.fault ≡ None → IsServing (action p o x) → Stands p c o x (served_standing m)
      serves true j h s = only o j
      serves false j h s = (h, s, λ t. let z : false ≡ true = sym j ∙ all o t in cc)

      meets : x.fault ≡ None → (k : Action) → action p o x ≡ k → Stands p c o x (standing_at (contains nat_cmp movers o) k)
      meets h A.Finished i = (h, i)
      meets h (A.Local term vars) i = own (A.Local term vars) i h (λ z. cc) (λ z. z)
      meets h (A.Fault e) i = own (A.Fault e) i h (λ z. cc) (λ z. z)
      meets h (A.New k) i = own (A.New k) i h (λ z. cc) (λ z. z)
      meets h (A.Send b m args) i = (h, subst (λ (k : Action). IsCalling k b m) (sym i) (refl, refl))
      meets h (A.Async b m args) i = own (A.Async b m args) i h (λ z. cc) (λ z. z)
      meets h (A.Write item) i = own (A.Write item) i h (λ z. cc) (λ z. z)
      meets h (A.Answer names) i = serves (contains nat_cmp movers o) refl h (subst IsServing (sym i) tt)
      meets h (A.Select choices) i = serves (contains nat_cmp movers o) refl h (subst IsServing (sym i) tt)
      meets h (A.Return k v) i = own (A.Return k v) i h (λ z. cc) (λ z. z)
      meets h (A.Waits b m) i = (h, subst (λ (k : Action). IsCalling k b m) (sym i) (refl, refl))
      meets h A.Stuck i = own A.Stuck i h (λ z. cc) (λ z. z)

      by : (f : Option Error) → x.fault ≡ f → Stands p c o x (standing_of (contains nat_cmp movers o) f (action p o x))
      by (Some e) h = h
      by None h = meets h (action p o x) refl

  rows_stand : (es : List (ℕ × Object)) → AreFound c.objects es → AreRows p c es (rows_of movers p es)
  rows_stand [] h = tt
  rows_stand (e ∷ es) h = (refl, refl, stands e.0 e.1 h.0, rows_stand es h.1)

  pub are_rows : AreRows p c c.objects (rows_of movers p c.objects)
  are_rows = rows_stand c.objects (all_found c.objects sound.typed.in_order.0)

-- the names rise

module _ (movers : BTreeSet ℕ) (p : ProgramTree) where
  names_above : (n : ℕ) (es : List (ℕ × Object)) (k : ℕ) → IsTrue (below_all nat_cmp n es) → k < length (names_of (rows_of movers p es)) → n < get_or (names_of (rows_of movers p es)) k 0
  names_above n [] k h l = absurd (omega (arith, l))
  names_above n (e ∷ es) zero h l = less_than n e.0 (first (is_lt (nat_cmp n e.0)) (below_all nat_cmp n es) h)
  names_above n (e ∷ es) (suc k) h l = names_above n es k (second (is_lt (nat_cmp n e.0)) (below_all nat_cmp n es) h) (omega (arith, l))

  pub names_rise : (es : List (ℕ × Object)) → IsTrue (is_sorted nat_cmp es) → Rising (names_of (rows_of movers p es))
  names_rise [] r j k h l = absurd (omega (arith, l))
  names_rise (e ∷ es) r j zero h l = absurd (omega (arith, h))
  names_rise (e ∷ es) r zero (suc k) h l = names_above e.0 es k (first (below_all nat_cmp e.0 es) (is_sorted nat_cmp es) r) (omega (arith, l))
  names_rise (e ∷ es) r (suc j) (suc k) h l = names_rise es (second (below_all nat_cmp e.0 es) (is_sorted nat_cmp es) r) j k (omega (arith, h)) (omega (arith, l))
