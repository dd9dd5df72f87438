-- Rows of numbers: one object of a row, and a row in which one number is another.
use Rattle.std.proofs.Common.{◌≡◌, refl, ap, subst, ◌∙◌, ℕ, zero, suc, ◌+◌, ◌<◌, List, [], ◌∷◌, length, get_or, set, Some, arith}
use Rattle.std.specs.Ordering.{nat_cmp}
use Rattle.std.specs.declared.cmp.Ordering.{Ordering}
use Rattle.std.specs.declared.cmp.Ordering.TheVariants.{Less, Equal, Greater}
use Rattle.std.specs.FinMap.{find, put}
use Rattle.std.proofs.lemmas.List.Elements.{All-head, All-tail}
use Rattle.run_types.specs.Message.{Message}
use Rattle.run_types.specs.Tables.{Pair}
use Rattle.pool_relation.specs.Action.{Object}
use Rattle.pool_relation.specs.Configuration.{Configuration, object_of, put_object}
use Rattle.object_moves.specs.Rows.{no_object, objects_from, row, AreWithin}

-- the object at a place
find_at : (k : ℕ) (xs : List Object) (ns : List ℕ) (i : ℕ) → i < length ns → find nat_cmp (k + i) (objects_from k xs ns) ≡ Some (get_or xs (get_or ns i 0) no_object)
find_at k xs [] i l = absurd (grind (arith, l))
find_at k xs (n ∷ ns) zero l = by (nat_cmp (k + zero) k) refl
  where
    by : (r : Ordering) → nat_cmp (k + zero) k ≡ r → find nat_cmp (k + zero) (objects_from k xs (n ∷ ns)) ≡ Some (get_or xs n no_object)
    by Less h = absurd (grind (arith, h))
    by Equal h = rw h refl
    by Greater h = absurd (grind (arith, h))
find_at k xs (n ∷ ns) (suc i) l =
    by (nat_cmp (k + suc i) k) refl (ap (λ q. find nat_cmp q (objects_from (suc k) xs ns)) (omega arith) ∙ find_at (suc k) xs ns i (omega (arith, l)))
  where
    by : (r : Ordering) → nat_cmp (k + suc i) k ≡ r → find nat_cmp (k + suc i) (objects_from (suc k) xs ns) ≡ Some (get_or xs (get_or ns i 0) no_object)
        → find nat_cmp (k + suc i) (objects_from k xs (n ∷ ns)) ≡ Some (get_or xs (get_or ns i 0) no_object)
    by Less h rest = absurd (grind (arith, h))
    by Equal h rest = absurd (grind (arith, h))
    by Greater h rest = rw h rest

-- a state in the place of another
put_at : (k : ℕ) (xs : List Object) (ns : List ℕ) (i n : ℕ) → i < length ns → put nat_cmp (k + i) (get_or xs n no_object) (objects_from k xs ns) ≡ objects_from k xs (set ns i n)
put_at k xs [] i n l = absurd (grind (arith, l))
put_at k xs (m ∷ ns) zero n l = by (nat_cmp (k + zero) k) refl
  where
    by : (r : Ordering) → nat_cmp (k + zero) k ≡ r → put nat_cmp (k + zero) (get_or xs n no_object) (objects_from k xs (m ∷ ns)) ≡ objects_from k xs (n ∷ ns)
    by Less h = absurd (grind (arith, h))
    by Equal h = rw h refl
    by Greater h = absurd (grind (arith, h))
put_at k xs (m ∷ ns) (suc i) n l =
    by (nat_cmp (k + suc i) k) refl (ap (λ q. put nat_cmp q (get_or xs n no_object) (objects_from (suc k) xs ns)) (omega arith) ∙ put_at (suc k) xs ns i n (omega (arith, l)))
  where
    by : (r : Ordering) → nat_cmp (k + suc i) k ≡ r → put nat_cmp (k + suc i) (get_or xs n no_object) (objects_from (suc k) xs ns) ≡ objects_from (suc k) xs (set ns i n)
        → put nat_cmp (k + suc i) (get_or xs n no_object) (objects_from k xs (m ∷ ns)) ≡ (k, get_or xs m no_object) ∷ objects_from (suc k) xs (set ns i n)
    by Less h rest = absurd (grind (arith, h))
    by Equal h rest = absurd (grind (arith, h))
    by Greater h rest = rw h (ap (λ es. (k, get_or xs m no_object) ∷ es) rest)

itself : (o : ℕ) → 0 + o ≡ o
itself o = omega arith

pub row_object : (xs : List Object) (ns : List ℕ) (ms : List (Pair × List Message)) (o : ℕ) → o < length ns → object_of (row xs ns ms) o ≡ Some (get_or xs (get_or ns o 0) no_object)
row_object xs ns ms o l = subst (λ q. find nat_cmp q (objects_from 0 xs ns) ≡ Some (get_or xs (get_or ns o 0) no_object)) (itself o) (find_at 0 xs ns o l)

pub row_put : (xs : List Object) (ns : List ℕ) (ms : List (Pair × List Message)) (o n : ℕ) → o < length ns → put_object (row xs ns ms) o (get_or xs n no_object) ≡ row xs (set ns o n) ms
row_put xs ns ms o n l = ap (λ os. the_row os) (subst (λ q. put nat_cmp q (get_or xs n no_object) (objects_from 0 xs ns) ≡ objects_from 0 xs (set ns o n)) (itself o) (put_at 0 xs ns o n l))
  where
    the_row : List (ℕ × Object) → Configuration
    the_row os = record { objects = os; messages = ms }

-- the number of one of them
pub number_within : (xs : List Object) (ns : List ℕ) (o : ℕ) → AreWithin xs ns → o < length ns → get_or ns o 0 < length xs
number_within xs [] o w l = absurd (grind (arith, l))
number_within xs (n ∷ ns) zero w l = All-head (λ n. n < length xs) n ns w
number_within xs (n ∷ ns) (suc o) w l = number_within xs ns o (All-tail (λ n. n < length xs) n ns w) (omega (arith, l))
