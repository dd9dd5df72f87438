-- How the messages that wait change where one is sent or taken.
use Rattle.std.specs.Prelude.{◌≡◌, ◌≢◌, ◌<◌, ◌==◌, ℕ, List, [], ◌∷◌, ◌++◌, Some, Bool, true, false}
use Rattle.std.specs.FinMap.{put}
use Rattle.run_types.specs.Message.{Message}
use Rattle.message_queue.specs.Mails.{first_of}
use Rattle.run_types.specs.Tables.{Pair, pair_cmp, list_at, put_list}
use Rattle.object_moves.specs.Known.{parcel_message}
use Rattle.object_moves.specs.declared.known.Parcel.{Parcel}

-- whether the first of all messages is for this method
abbrev pub is_next : ℕ → List Message → Bool
is_next m [] = false
is_next m (x ∷ xs) = x.method == m

-- the object o is to take the message, which is not the first one of its sender for its method
abbrev pub IsGone : ℕ → Parcel → List (Pair × List Message) → Type 0
IsGone o a ms = (a.takes ≡ true) × (first_of a.method.0 (list_at pair_cmp (a.other, o) ms) ≢ Some (parcel_message a))

-- the message was the first one of its sender to the object o, and it alone is gone
abbrev pub IsTaken : ℕ → Parcel → List (Pair × List Message) → List (Pair × List Message) → Type 0
IsTaken o a ms ns = (rest : List Message) × (list_at pair_cmp (a.other, o) ms ≡ parcel_message a ∷ rest) × (ns ≡ put_list pair_cmp (a.other, o) rest ms)

-- the message has a receiver among n objects, and is now the last one of the object o to it
abbrev pub IsSent : ℕ → ℕ → Parcel → List (Pair × List Message) → List (Pair × List Message) → Type 0
IsSent n o a ms ns = (a.other < n) × (ns ≡ put pair_cmp (o, a.other) (list_at pair_cmp (o, a.other) ms ++ parcel_message a ∷ []) ms)

-- it was taken if this is true, else sent
abbrev pub IsMovedSo : Bool → ℕ → ℕ → Parcel → List (Pair × List Message) → List (Pair × List Message) → Type 0
IsMovedSo true n o a ms ns = IsTaken o a ms ns
IsMovedSo false n o a ms ns = IsSent n o a ms ns

-- it was sent or taken
abbrev pub IsMoved : ℕ → ℕ → Parcel → List (Pair × List Message) → List (Pair × List Message) → Type 0
IsMoved n o a ms ns = IsMovedSo a.takes n o a ms ns
