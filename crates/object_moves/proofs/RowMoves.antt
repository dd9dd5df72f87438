-- Transitions in rows, from their effects on states.
use Rattle.std.proofs.Common.{◌≡◌, ◌≢◌, refl, sym, ap, subst, ◌∙◌, ℕ, zero, suc, ◌<◌, List, [], ◌∷◌, length, take, get_or, set, Option, Some, None, Bool}
use Rattle.std.proofs.lemmas.List.{set-get_or, length-set}
use Rattle.std.proofs.lemmas.List.Elements.{All-set}
use Rattle.run_types.specs.declared.types.Value.{Value}
use Rattle.run_types.specs.Message.{Message}
use Rattle.run_types.specs.Partial.{◌>>=◌}
use Rattle.run_types.specs.Tables.{Pair, pair_cmp, list_at}
use Rattle.pool_syntax.specs.Terms.{ProgramTree}
use Rattle.pool_relation.specs.Action.{Object}
use Rattle.pool_relation.specs.Configuration.{Configuration, object_of, put_object}
use Rattle.pool_relation.specs.Transition.{transition}
use Rattle.search_laws.specs.Tried.{Follows}
use Rattle.object_moves.specs.Effects.{effect_one, effect_two}
use Rattle.object_moves.specs.Roles.{after_local}
use Rattle.object_moves.specs.Followed.{course}
use Rattle.object_moves.specs.Known.{duo_label, labelled, solo_label, state_at}
use Rattle.object_moves.specs.Rows.{row, AreWithin}
use Rattle.object_moves.specs.declared.known.Solo.{Solo}
use Rattle.object_moves.specs.declared.known.Duo.{Duo}
use Rattle.object_moves.proofs.OneEffect.{one_here}
use Rattle.object_moves.proofs.TwoEffect.{placed, two_made}
use Rattle.object_moves.proofs.FollowedRows.{followed}
use Rattle.object_moves.proofs.KnownFacts.{duo_is_between, solo_agent, solo_is_of_one}
use Rattle.object_moves.proofs.RowLaws.{number_within, row_object, row_put}
use Rattle.object_moves.proofs.StateGrowth.{row_still, state_still, within_still}

-- two numbers of a row
set_both : (ns : List ℕ) (b o n m : ℕ) → b ≢ o → set (set ns o m) b n ≡ set (set ns b n) o m
set_both [] b o n m apart = refl
set_both (k ∷ ns) zero zero n m apart = absurd (apart refl)
set_both (k ∷ ns) zero (suc o) n m apart = refl
set_both (k ∷ ns) (suc b) zero n m apart = refl
set_both (k ∷ ns) (suc b) (suc o) n m apart = ap (λ l. k ∷ l) (set_both ns b o n m (λ e. apart (ap suc e)))

module _ (xs ys : List Object) (ns : List ℕ) (grown : take (length xs) ys ≡ xs) (within : AreWithin xs ns) where
  -- the row with another number, over the greater table
  pub put_grown : (ms : List (Pair × List Message)) (o n : ℕ) → o < length ns → put_object (row xs ns ms) o (state_at ys n) ≡ row ys (set ns o n) ms
  put_grown ms o n l = ap (λ (c : Configuration). put_object c o (state_at ys n)) (sym (row_still xs ys ns ms grown within)) ∙ row_put ys ns ms o n l

  pub set_within : (o n : ℕ) → n < length ys → AreWithin ys (set ns o n)
  set_within o n l = All-set (λ k. k < length ys) ns o n l (within_still xs ys ns grown within)

  pub set_both_within : (b o n m : ℕ) → n < length ys → m < length ys → AreWithin ys (set (set ns b n) o m)
  set_both_within b o n m l k = All-set (λ k. k < length ys) (set ns b n) o m k (set_within b n l)

module _ (p : ProgramTree) (xs : List Object) (ns : List ℕ) (ms : List (Pair × List Message)) where
  -- one object
  in_row : (o : ℕ) (a : Solo) → o < length ns
      → transition p (row xs ns ms) (solo_label o a) ≡ (effect_one p (solo_label o a) (state_at xs (get_or ns o 0)) >>= λ y. Some (put_object (row xs ns ms) o y))
  in_row o a l =
      let there : object_of (row xs ns ms) o ≡ Some (state_at xs (get_or ns o 0)) = row_object xs ns ms o l in
      subst (λ q. object_of (row xs ns ms) q ≡ Some (state_at xs (get_or ns o 0))
      → transition p (row xs ns ms) (solo_label o a) ≡ (effect_one p (solo_label o a) (state_at xs (get_or ns o 0)) >>= λ y. Some (put_object (row xs ns ms) q y))) (solo_agent o a)
      (one_here p (row xs ns ms) (solo_label o a) (state_at xs (get_or ns o 0)) (solo_is_of_one o a)) there

  pub solo_impossible : (o : ℕ) (a : Solo) → o < length ns → effect_one p (solo_label o a) (state_at xs (get_or ns o 0)) ≡ None → transition p (row xs ns ms) (solo_label o a) ≡ None
  solo_impossible o a l none = in_row o a l ∙ ap (λ r. r >>= λ y. Some (put_object (row xs ns ms) o y)) none

  pub solo_leads : (ys : List Object) (o n : ℕ) (a : Solo) → take (length xs) ys ≡ xs → AreWithin xs ns → o < length ns
      → effect_one p (solo_label o a) (state_at xs (get_or ns o 0)) ≡ Some (state_at ys n) → transition p (row xs ns ms) (solo_label o a) ≡ Some (row ys (set ns o n) ms)
  solo_leads ys o n a grown within l is =
      in_row o a l ∙ ap (λ r. r >>= λ y. Some (put_object (row xs ns ms) o y)) is ∙ ap Some (put_grown xs ys ns grown within ms o n l)

  -- two objects
  in_row_two : (b o : ℕ) (a : Duo) → list_at pair_cmp (o, b) ms ≡ [] → b < length ns → o < length ns
      → transition p (row xs ns ms) (duo_label b o a) ≡ (effect_two p (duo_label b o a) (state_at xs (get_or ns b 0)) (state_at xs (get_or ns o 0)) >>= λ e. Some (placed (row xs ns ms) (duo_label b o a) b o e))
  in_row_two b o a none lb lo = two_made p (row xs ns ms) b o _ _ (row_object xs ns ms b lb) (row_object xs ns ms o lo) (duo_label b o a) (duo_is_between b o a) none

  pub duo_impossible : (b o : ℕ) (a : Duo) → list_at pair_cmp (o, b) ms ≡ [] → b < length ns → o < length ns → effect_two p (duo_label b o a) (state_at xs (get_or ns b 0)) (state_at xs (get_or ns o 0)) ≡ None
      → transition p (row xs ns ms) (duo_label b o a) ≡ None
  duo_impossible b o a none lb lo is = in_row_two b o a none lb lo ∙ ap (λ r. r >>= λ e. Some (placed (row xs ns ms) (duo_label b o a) b o e)) is

  pub duo_leads : (ys : List Object) (b o n m : ℕ) (a : Duo) → list_at pair_cmp (o, b) ms ≡ [] → take (length xs) ys ≡ xs → AreWithin xs ns → b < length ns → o < length ns → b ≢ o → n < length ys → m < length ys
      → effect_two p (duo_label b o a) (state_at xs (get_or ns b 0)) (state_at xs (get_or ns o 0)) ≡ Some (state_at ys n, state_at ys m)
      → transition p (row xs ns ms) (duo_label b o a) ≡ Some (row ys (set (set ns b n) o m) ms)
  duo_leads ys b o n m a none grown within lb lo apart ln lm is =
      in_row_two b o a none lb lo ∙ ap (λ r. r >>= λ e. Some (placed (row xs ns ms) (duo_label b o a) b o e)) is ∙ ap Some (both a.returned)
    where
      first : put_object (put_object (row xs ns ms) b (state_at ys n)) o (state_at ys m) ≡ row ys (set (set ns b n) o m) ms
      first =
          ap (λ (c : Configuration). put_object c o (state_at ys m)) (put_grown xs ys ns grown within ms b n lb)
          ∙ row_put ys (set ns b n) ms o m (subst (λ k. o < k) (sym (length-set ns b n)) lo)

      second : put_object (put_object (row xs ns ms) o (state_at ys m)) b (state_at ys n) ≡ row ys (set (set ns b n) o m) ms
      second =
          ap (λ (c : Configuration). put_object c b (state_at ys n)) (put_grown xs ys ns grown within ms o m lo)
          ∙ row_put ys (set ns o m) ms b n (subst (λ k. b < k) (sym (length-set ns o m)) lb) ∙ ap (λ ks. row ys ks ms) (set_both ns b o n m apart)

      both : (v : Option Value) → placed (row xs ns ms) (labelled b o a v) b o (state_at ys n, state_at ys m) ≡ row ys (set (set ns b n) o m) ms
      both None = second
      both (Some v) = first

  -- local transitions
  pub rest_leads : (ys : List Object) (o k n : ℕ) (s : Bool) → take (length xs) ys ≡ xs → AreWithin xs ns → o < length ns
      → after_local p o k (state_at xs (get_or ns o 0)) ≡ Some (state_at ys n) → Follows p (course s) (row xs ns ms) (row ys (set ns o n) ms)
  rest_leads ys o k n s grown within l is =
      let x = state_at xs (get_or ns o 0) in
      let there : put_object (row ys ns ms) o x ≡ row xs ns ms =
      ap (put_object (row ys ns ms) o) (sym (state_still xs ys (get_or ns o 0) grown (number_within xs ns o within l)))
      ∙ row_put ys ns ms o (get_or ns o 0) l ∙ ap (λ ks. row ys ks ms) (set-get_or ns o 0) ∙ row_still xs ys ns ms grown within
      in
      subst (λ (c : Configuration). Follows p (course s) c (row ys (set ns o n) ms)) there
      (subst (λ (c : Configuration). Follows p (course s) (put_object (row ys ns ms) o x) c) (row_put ys ns ms o n l) (followed p s o (row ys ns ms) k x (state_at ys n) is))
