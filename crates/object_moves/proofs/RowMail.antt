-- Messages that are sent or taken in rows, from their effects on states.
use Rattle.std.proofs.Common.{◌≡◌, refl, sym, ap, ◌∙◌, ℕ, ◌<◌, List, [], ◌∷◌, ◌++◌, length, take, get_or, set, Some, None, is_some, Bool, true, false}
use Rattle.std.specs.FinMap.{put}
use Rattle.run_types.specs.declared.types.Label.TheVariants as L
use Rattle.run_types.specs.Message.{Message}
use Rattle.run_types.specs.Partial.{◌>>=◌}
use Rattle.run_types.specs.Tables.{Pair, pair_cmp, list_at, put_list}
use Rattle.pool_syntax.specs.Terms.{ProgramTree}
use Rattle.pool_relation.specs.Action.{Object}
use Rattle.pool_relation.specs.Configuration.{Configuration, object_of, put_object}
use Rattle.pool_relation.specs.Transition.{transition}
use Rattle.object_moves.specs.Effects.{effect_mail}
use Rattle.object_moves.specs.Known.{moved_by, parcel_label, parcel_message, state_at}
use Rattle.object_moves.specs.Rows.{row, AreWithin}
use Rattle.object_moves.specs.Waiting.{IsGone, IsMoved, IsMovedSo}
use Rattle.object_moves.specs.declared.known.Parcel.{Parcel}
use Rattle.object_moves.proofs.MailEffect.{send_made, send_none, take_gone, take_made, take_none}
use Rattle.object_moves.proofs.RowLaws.{row_object}
use Rattle.object_moves.proofs.RowMoves.{put_grown}

-- a list with one more at its end is not empty
put_last : (k : Pair) (l : List Message) (m : Message) (ms : List (Pair × List Message)) → put_list pair_cmp k (l ++ m ∷ []) ms ≡ put pair_cmp k (l ++ m ∷ []) ms
put_last k [] m ms = refl
put_last k (x ∷ l) m ms = refl

abbrev with_messages : Configuration → List (Pair × List Message) → Configuration
with_messages c ms = record c { messages = ms }

module _ (p : ProgramTree) (xs : List Object) (ns : List ℕ) (ms : List (Pair × List Message)) (o : ℕ) (a : Parcel) (within : o < length ns) where
  abbrev x : Object
  x = state_at xs (get_or ns o 0)

  there : object_of (row xs ns ms) o ≡ Some x
  there = row_object xs ns ms o within

  pub mail_impossible : effect_mail p (parcel_label o a) x ≡ None → transition p (row xs ns ms) (parcel_label o a) ≡ None
  mail_impossible none = by a.takes none
    where
      by : (t : Bool) → effect_mail p (moved_by o a t) x ≡ None → transition p (row xs ns ms) (moved_by o a t) ≡ None
      by true none = take_none p (row xs ns ms) o a.other a.method a.args x there none
      by false none = send_none p (row xs ns ms) o a.other a.method a.args x there none

  -- a message that no object can take
  pub mail_gone : IsGone o a ms → transition p (row xs ns ms) (parcel_label o a) ≡ None
  mail_gone gone = ap (λ t. transition p (row xs ns ms) (moved_by o a t)) gone.0 ∙ take_gone p (row xs ns ms) o a.other a.method a.args x there gone.1

  -- the transition, where the messages change so
  mail_moves : (ks : List (Pair × List Message)) → IsMoved (length ns) o a ms ks
      → transition p (row xs ns ms) (parcel_label o a) ≡ (effect_mail p (parcel_label o a) x >>= λ y. Some (with_messages (put_object (row xs ns ms) o y) ks))
  mail_moves ks moved = by a.takes moved
    where
      by : (t : Bool) → IsMovedSo t (length ns) o a ms ks
          → transition p (row xs ns ms) (moved_by o a t) ≡ (effect_mail p (moved_by o a t) x >>= λ y. Some (with_messages (put_object (row xs ns ms) o y) ks))
      by true moved =
          take_made p (row xs ns ms) o a.other a.method a.args x there moved.0 moved.1
          ∙ ap (λ ls. effect_mail p (L.Take o a.other a.method a.args) x >>= λ y. Some (with_messages (put_object (row xs ns ms) o y) ls)) (sym moved.2)
      by false moved =
          send_made p (row xs ns ms) o a.other a.method a.args x there (ap is_some (row_object xs ns ms a.other moved.0))
          ∙ ap (λ ls. effect_mail p (L.Send o a.other a.method a.args) x >>= λ y. Some (with_messages (put_object (row xs ns ms) o y) ls))
          (put_last (o, a.other) (list_at pair_cmp (o, a.other) ms) (parcel_message a) ms ∙ sym moved.1)

  pub mail_leads : (ys : List Object) (n : ℕ) (ks : List (Pair × List Message)) → take (length xs) ys ≡ xs → AreWithin xs ns → IsMoved (length ns) o a ms ks
      → effect_mail p (parcel_label o a) x ≡ Some (state_at ys n) → transition p (row xs ns ms) (parcel_label o a) ≡ Some (row ys (set ns o n) ks)
  mail_leads ys n ks grown all moved is =
      mail_moves ks moved ∙ ap (λ r. r >>= λ y. Some (with_messages (put_object (row xs ns ms) o y) ks)) is
      ∙ ap (λ (c : Configuration). Some (with_messages c ks)) (put_grown xs ys ns grown all ms o n within)
