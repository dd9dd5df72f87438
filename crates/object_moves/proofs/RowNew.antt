-- An object that is made in a row, under the next name.
use Rattle.std.proofs.Common.{◌≡◌, refl, sym, ap, subst, ◌∙◌, ℕ, suc, ◌+◌, ◌<◌, List, [], ◌∷◌, ◌++◌, length, length-set, take, get_or, set, Some, None, arith}
use Rattle.std.specs.Ordering.{nat_cmp}
use Rattle.std.specs.declared.cmp.Ordering.{Ordering}
use Rattle.std.specs.declared.cmp.Ordering.TheVariants.{Less, Equal, Greater}
use Rattle.std.specs.FinMap.{find, put}
use Rattle.std.proofs.lemmas.List.Elements.{All-push}
use Rattle.run_types.specs.declared.types.Label.TheVariants as L
use Rattle.run_types.specs.declared.types.NameId.{NameId}
use Rattle.run_types.specs.Message.{Message}
use Rattle.run_types.specs.Partial.{◌>>=◌}
use Rattle.run_types.specs.Tables.{Pair}
use Rattle.pool_syntax.specs.Terms.{ProgramTree}
use Rattle.pool_relation.specs.Action.{Object}
use Rattle.pool_relation.specs.Configuration.{Configuration, object_of, put_object}
use Rattle.pool_relation.specs.Transition.{transition}
use Rattle.object_moves.specs.Effects.{effect_new}
use Rattle.object_moves.specs.Known.{state_at}
use Rattle.object_moves.specs.Rows.{no_object, objects_from, row, AreWithin}
use Rattle.object_moves.proofs.NewEffect.{new_made}
use Rattle.object_moves.proofs.RowLaws.{row_object}
use Rattle.object_moves.proofs.RowMoves.{put_grown, set_within}

-- the next name is free
free_at : (k : ℕ) (xs : List Object) (ns : List ℕ) → find nat_cmp (k + length ns) (objects_from k xs ns) ≡ None
free_at k xs [] = refl
free_at k xs (n ∷ ns) = by (nat_cmp (k + length (n ∷ ns)) k) refl (ap (λ q. find nat_cmp q (objects_from (suc k) xs ns)) (omega arith) ∙ free_at (suc k) xs ns)
  where
    by : (r : Ordering) → nat_cmp (k + length (n ∷ ns)) k ≡ r → find nat_cmp (k + length (n ∷ ns)) (objects_from (suc k) xs ns) ≡ None
        → find nat_cmp (k + length (n ∷ ns)) (objects_from k xs (n ∷ ns)) ≡ None
    by Less h rest = absurd (grind (arith, h))
    by Equal h rest = absurd (grind (arith, h))
    by Greater h rest = rw h rest

-- an object under the next name is the last one
put_next : (k : ℕ) (xs : List Object) (ns : List ℕ) (m : ℕ) → put nat_cmp (k + length ns) (get_or xs m no_object) (objects_from k xs ns) ≡ objects_from k xs (ns ++ m ∷ [])
put_next k xs [] m = ap (λ q. (q, get_or xs m no_object) ∷ []) (omega arith)
put_next k xs (n ∷ ns) m =
    by (nat_cmp (k + length (n ∷ ns)) k) refl (ap (λ q. put nat_cmp q (get_or xs m no_object) (objects_from (suc k) xs ns)) (omega arith) ∙ put_next (suc k) xs ns m)
  where
    by : (r : Ordering) → nat_cmp (k + length (n ∷ ns)) k ≡ r → put nat_cmp (k + length (n ∷ ns)) (get_or xs m no_object) (objects_from (suc k) xs ns) ≡ objects_from (suc k) xs (ns ++ m ∷ [])
        → put nat_cmp (k + length (n ∷ ns)) (get_or xs m no_object) (objects_from k xs (n ∷ ns)) ≡ objects_from k xs (n ∷ ns ++ m ∷ [])
    by Less h rest = absurd (grind (arith, h))
    by Equal h rest = absurd (grind (arith, h))
    by Greater h rest = rw h (ap (λ es. (k, get_or xs n no_object) ∷ es) rest)

itself : (o : ℕ) → 0 + o ≡ o
itself o = omega arith

row_free : (xs : List Object) (ns : List ℕ) (ms : List (Pair × List Message)) → object_of (row xs ns ms) (length ns) ≡ None
row_free xs ns ms = subst (λ q. find nat_cmp q (objects_from 0 xs ns) ≡ None) (itself (length ns)) (free_at 0 xs ns)

row_more : (xs : List Object) (ns : List ℕ) (ms : List (Pair × List Message)) (m : ℕ) → put_object (row xs ns ms) (length ns) (get_or xs m no_object) ≡ row xs (ns ++ m ∷ []) ms
row_more xs ns ms m = ap (λ os. the_row os) (subst (λ q. put nat_cmp q (get_or xs m no_object) (objects_from 0 xs ns) ≡ objects_from 0 xs (ns ++ m ∷ [])) (itself (length ns)) (put_next 0 xs ns m))
  where
    the_row : List (ℕ × Object) → Configuration
    the_row os = record { objects = os; messages = ms }

-- the numbers of the row after it
pub more_within : (xs ys : List Object) (ns : List ℕ) (o n m : ℕ) → take (length xs) ys ≡ xs → AreWithin xs ns → n < length ys → m < length ys → AreWithin ys (set ns o n ++ m ∷ [])
more_within xs ys ns o n m grown within ln lm = All-push (λ k. k < length ys) (set ns o n) m (set_within xs ys ns grown within o n ln) lm

module _ (p : ProgramTree) (xs : List Object) (ns : List ℕ) (ms : List (Pair × List Message)) (o : ℕ) (k : NameId) (l : o < length ns) where
  in_row : transition p (row xs ns ms) (L.New o (length ns) k) ≡ (effect_new p (L.New o (length ns) k) (state_at xs (get_or ns o 0)) >>= λ e. Some (put_object (put_object (row xs ns ms) o e.0) (length ns) e.1))
  in_row = new_made p (row xs ns ms) o (length ns) k (state_at xs (get_or ns o 0)) (row_object xs ns ms o l) (row_free xs ns ms)

  pub new_impossible : (q : ℕ) → q ≡ length ns → effect_new p (L.New o q k) (state_at xs (get_or ns o 0)) ≡ None → transition p (row xs ns ms) (L.New o q k) ≡ None
  new_impossible q next none =
      ap (λ q. transition p (row xs ns ms) (L.New o q k)) next ∙ in_row
      ∙ ap (λ r. r >>= λ e. Some (put_object (put_object (row xs ns ms) o e.0) (length ns) e.1)) (ap (λ q. effect_new p (L.New o q k) (state_at xs (get_or ns o 0))) (sym next) ∙ none)

  pub new_leads : (q : ℕ) → q ≡ length ns → (ys : List Object) (n m : ℕ) → take (length xs) ys ≡ xs → AreWithin xs ns
      → effect_new p (L.New o q k) (state_at xs (get_or ns o 0)) ≡ Some (state_at ys n, state_at ys m)
      → transition p (row xs ns ms) (L.New o q k) ≡ Some (row ys (set ns o n ++ m ∷ []) ms)
  new_leads q next ys n m grown within is =
      ap (λ q. transition p (row xs ns ms) (L.New o q k)) next ∙ in_row
      ∙ ap (λ r. r >>= λ e. Some (put_object (put_object (row xs ns ms) o e.0) (length ns) e.1)) (ap (λ q. effect_new p (L.New o q k) (state_at xs (get_or ns o 0))) (sym next) ∙ is)
      ∙ ap Some (ap (λ (c : Configuration). put_object c (length ns) (state_at ys m)) (put_grown xs ys ns grown within ms o n l)
      ∙ ap (λ i. put_object (row ys (set ns o n) ms) i (state_at ys m)) (sym (length-set ns o n)) ∙ row_more ys (set ns o n) ms m)
