-- The objects of a row of numbers: the object of one name, and walks from one object to the next.
use Rattle.std.proofs.Common.{◌≡◌, refl, sym, ap, subst, ◌∙◌, ℕ, zero, suc, ◌+◌, ◌<◌, ◌≤◌, List, [], ◌∷◌, length, drop, get_or, cond, Option, Some, None, Bool, true, false, arith}
use Rattle.std.specs.Prelude.{option_map}
use Rattle.std.specs.List.{slice_get}
use Rattle.std.specs.Ordering.{nat_cmp, is_eq}
use Rattle.std.specs.declared.cmp.Ordering.{Ordering}
use Rattle.std.specs.declared.cmp.Ordering.TheVariants.{Less, Equal, Greater}
use Rattle.std.specs.FinMap.{find}
use Rattle.std.proofs.lemmas.List.{drop_all, drop_more}
use Rattle.std.proofs.lemmas.Option.{get_or_from_slice_get, slice_get-get_or, slice_get_within}
use Rattle.run_types.specs.Tables.{Each}
use Rattle.run_types.proofs.Laws.{same_some}
use Rattle.pool_relation.specs.Action.{Object}
use Rattle.pool_relation.specs.Configuration.{Configuration, object_of}
use Rattle.reachability.specs.Search.{IsFaulty}
use Rattle.object_moves.specs.Rows.{no_object, objects_from, AreWithin}

abbrev pub object_numbered : List Object → ℕ → Object
object_numbered xs n = get_or xs n no_object

-- the object at a place
found_at : (k : ℕ) (xs : List Object) (ns : List ℕ) (i : ℕ) → find nat_cmp (k + i) (objects_from k xs ns) ≡ option_map (object_numbered xs) (slice_get ns i)
found_at k xs [] i = refl
found_at k xs (n ∷ ns) zero = by (nat_cmp (k + zero) k) refl
  where
    by : (r : Ordering) → nat_cmp (k + zero) k ≡ r → find nat_cmp (k + zero) (objects_from k xs (n ∷ ns)) ≡ Some (object_numbered xs n)
    by Less h = absurd (grind (arith, h))
    by Equal h = rw h refl
    by Greater h = absurd (grind (arith, h))
found_at k xs (n ∷ ns) (suc i) = by (nat_cmp (k + suc i) k) refl (ap (λ q. find nat_cmp q (objects_from (suc k) xs ns)) (omega arith) ∙ found_at (suc k) xs ns i)
  where
    by : (r : Ordering) → nat_cmp (k + suc i) k ≡ r → find nat_cmp (k + suc i) (objects_from (suc k) xs ns) ≡ option_map (object_numbered xs) (slice_get ns i)
        → find nat_cmp (k + suc i) (objects_from k xs (n ∷ ns)) ≡ option_map (object_numbered xs) (slice_get ns i)
    by Less h rest = absurd (grind (arith, h))
    by Equal h rest = absurd (grind (arith, h))
    by Greater h rest = rw h rest

itself : (o : ℕ) → 0 + o ≡ o
itself o = omega arith

module _ (xs : List Object) (ns : List ℕ) (c : Configuration) (o : ℕ) (same : c.objects ≡ objects_from 0 xs ns) where
  object_in : object_of c o ≡ option_map (object_numbered xs) (slice_get ns o)
  object_in = ap (find nat_cmp o) same ∙ subst (λ q. find nat_cmp q (objects_from 0 xs ns) ≡ option_map (object_numbered xs) (slice_get ns o)) (itself o) (found_at 0 xs ns o)

  pub no_object_there : slice_get ns o ≡ None → None ≡ object_of c o
  no_object_there h = sym (object_in ∙ ap (option_map (object_numbered xs)) h)

  pub object_there : (n : ℕ) → AreWithin xs ns → slice_get ns o ≡ Some n → slice_get xs n ≡ object_of c o
  object_there n within h =
      let inside : n < length xs = subst (λ m. m < length xs) (get_or_from_slice_get ns o n n h) (within o n (slice_get_within ns o n h)) in
      slice_get-get_or xs n no_object inside ∙ sym (object_in ∙ ap (option_map (object_numbered xs)) h)

  pub place_within : (x : Object) → object_of c o ≡ Some x → o < length ns
  place_within x there = by (slice_get ns o) refl
    where
      by : (r : Option ℕ) → slice_get ns o ≡ r → o < length ns
      by None n = absurd (let z : None ≡ Some x = no_object_there n ∙ there in cc)
      by (Some n) e = slice_get_within ns o n e

module _ (xs : List Object) (ns : List ℕ) where
  -- the objects from a place on
  pub objects_left : (i : ℕ) (x : Object) → i < length ns → slice_get xs (get_or ns i 0) ≡ Some x → objects_from i xs (drop i ns) ≡ (i, x) ∷ objects_from (i + 1) xs (drop (i + 1) ns)
  objects_left i x l at =
      let next : suc i ≡ i + 1 = omega arith in
      ap (objects_from i xs) (drop_more ns i 0 l) ∙ ap (λ y. (i, y) ∷ objects_from (suc i) xs (drop (i + 1) ns)) (get_or_from_slice_get xs (get_or ns i 0) x no_object at)
      ∙ ap (λ k. (i, x) ∷ objects_from k xs (drop (i + 1) ns)) next

  pub no_objects_left : (i : ℕ) → length ns ≤ i → objects_from i xs (drop i ns) ≡ []
  no_objects_left i l = ap (objects_from i xs) (drop_all i ns l)

  -- where all are so if the rest is, and the next one is so
  pub one_less : (P : ℕ × Object → Type 0) (i : ℕ) (x : Object) → i < length ns → slice_get xs (get_or ns i 0) ≡ Some x → P (i, x)
      → (Each P (objects_from i xs (drop i ns)) → Each P (objects_from 0 xs ns)) → Each P (objects_from (i + 1) xs (drop (i + 1) ns)) → Each P (objects_from 0 xs ns)
  one_less P i x l at here all rest = all (subst (Each P) (sym (objects_left i x l at)) (here, rest))

  pub none_less : (P : ℕ × Object → Type 0) (i : ℕ) → length ns ≤ i → (Each P (objects_from i xs (drop i ns)) → Each P (objects_from 0 xs ns)) → Each P (objects_from 0 xs ns)
  none_less P i l all = all (subst (Each P) (sym (no_objects_left i l)) tt)

-- the object has met no error
abbrev pub IsFine : ℕ × Object → Type 0
IsFine e = e.1.fault ≡ None

fine_at : (es : List (ℕ × Object)) → Each IsFine es → (k : ℕ) (x : Object) → find nat_cmp k es ≡ Some x → x.fault ≡ None
fine_at [] h k x e = absurd (cc)
fine_at (j ∷ es) h k x e = by (is_eq (nat_cmp k j.0)) e (fine_at es h.1 k x)
  where
    by : (b : Bool) → cond b (Some j.1) (find nat_cmp k es) ≡ Some x → (find nat_cmp k es ≡ Some x → x.fault ≡ None) → x.fault ≡ None
    by true i rest = ap (λ y. y.fault) (sym (same_some i)) ∙ h.0
    by false i rest = rest i

pub none_faulty : (xs : List Object) (ns : List ℕ) (c : Configuration) → c.objects ≡ objects_from 0 xs ns → Each IsFine (objects_from 0 xs ns) → ¬ (IsFaulty c)
none_faulty xs ns c same fine f = f.met (fine_at c.objects (subst (Each IsFine) (sym same) fine) f.name f.object f.there)
