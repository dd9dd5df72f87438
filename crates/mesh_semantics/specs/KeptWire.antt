-- The stored part of a wire whose link's packets are stored elsewhere: counts instead of lists, and copies of the
-- packets that were sent and are not acknowledged. X is the type of packets, and rest are the packets that entered and
-- were not handed out.
use Rattle.std.specs.Prelude.{◌≡◌, ℕ, ◌+◌, ◌-◌, ◌≤◌, ◌==◌, List, [], ◌∷◌, ◌++◌, length, take as first_of_list, drop, Option, Some, None, if◌then◌else◌, nat_lt, slice_get}
use Rattle.run_types.specs.declared.types.What.{What}
use Rattle.run_types.specs.declared.types.What.TheVariants as W
use Rattle.run_types.specs.declared.types.WireAct.{WireAct}
use Rattle.run_types.specs.declared.types.WireAct.TheVariants as A
use Rattle.mesh_semantics.specs.Wire.{Frame, Wire, WireFacts, Coming, capacity, greater, push_within, wanted_of, coming_in, lose, twice, late, frame_number, ack_number}

pub record KeptWire (X : Type 0) : Type 0 where
  -- how many packets were handed out
  pub handed : ℕ
  pub acked : ℕ
  pub next : ℕ
  pub sent : ℕ
  -- the packets that were sent and are not acknowledged, by rising number
  pub copies : List X
  pub frames : List (Frame X)
  pub acks : List ℕ

abbrev pub empty_kept : {X : Type 0} → KeptWire X
empty_kept = record { handed = 0; acked = 0; next = 0; sent = 0; copies = []; frames = []; acks = [] }

-- the part of a list from place i up to place j
abbrev pub from_to : {X : Type 0} → ℕ → ℕ → List X → List X
from_to i j xs = first_of_list (j - i) (drop i xs)

-- the stored part of the wire w
abbrev pub kept_of : {X : Type 0} → Wire X → KeptWire X
kept_of w = record { handed = length w.handed; acked = w.acked; next = w.next; sent = w.sent; copies = from_to w.acked w.sent w.put; frames = w.frames; acks = w.acks }

-- the wire of which v is the stored part, if these packets entered
abbrev pub whole : {X : Type 0} → KeptWire X → List X → Wire X
whole v put = record { put = put; handed = first_of_list v.handed put; acked = v.acked; next = v.next; sent = v.sent; frames = v.frames; acks = v.acks }

-- The stored part carries the packets put: the facts of wires hold of it with these packets, and its copies are the
-- packets from acked up to sent. So it carries every longer list that begins with put.
pub record Carries {X : Type 0} (v : KeptWire X) (put : List X) : Type 0 where
  pub facts : WireFacts (whole v put)
  pub handed : v.handed ≤ length put
  pub copies : v.copies ≡ from_to v.acked v.sent put

-- the number to be sent next, if this many packets entered
abbrev pub kept_wanted : {X : Type 0} → KeptWire X → ℕ → Option ℕ
kept_wanted v entered = wanted_of v.acked v.next entered

-- the copies with one more packet, if there is one
abbrev pub with_fresh : {X : Type 0} → Option X → List X → List X
with_fresh None xs = xs
with_fresh (Some x) xs = xs ++ x ∷ []

abbrev pub kept_launch : {X : Type 0} → ℕ → Option X → KeptWire X → What × KeptWire X
kept_launch n None v = (W.Lost n, v)
kept_launch n (Some x) v = (if nat_lt (length v.frames) capacity then W.Frame n else W.Lost n, record v { frames = push_within (n, x) v.frames })

-- the number n is sent; fresh is its packet if the number was never sent
abbrev pub kept_send : {X : Type 0} → ℕ → Option X → KeptWire X → What × KeptWire X
kept_send n fresh v = kept_launch n (slice_get (with_fresh fresh v.copies) (n - v.acked)) (record v { next = n + 1; sent = greater v.sent (n + 1); copies = with_fresh fresh v.copies })

-- the packet of the number n, if the number was never sent
abbrev pub fresh_in : {X : Type 0} → ℕ → KeptWire X → List X → Option X
fresh_in n v rest = if n == v.sent then slice_get rest (n - v.handed) else None

abbrev pub kept_send_number : {X : Type 0} → Option ℕ → List X → KeptWire X → Option (What × KeptWire X)
kept_send_number None rest v = None
kept_send_number (Some n) rest v = Some (kept_send n (fresh_in n v rest) v)

abbrev pub kept_coming : {X : Type 0} → KeptWire X → Coming X
kept_coming v = coming_in v.handed v.frames

-- n packets are handed out, and the far end acknowledges this number
abbrev pub hand_out : {X : Type 0} → ℕ → KeptWire X → KeptWire X
hand_out n v = record v { handed = n; acks = push_within n v.acks }

abbrev pub kept_take_frame : {X : Type 0} → List (Frame X) → KeptWire X → KeptWire X
kept_take_frame [] v = v
kept_take_frame (f ∷ fs) v = hand_out (if f.0 == v.handed then v.handed + 1 else v.handed) (record v { frames = fs })

-- the first frame comes to the far end
abbrev pub kept_take : {X : Type 0} → KeptWire X → KeptWire X
kept_take v = kept_take_frame v.frames v

abbrev pub kept_hear_number : {X : Type 0} → List ℕ → KeptWire X → Option (What × KeptWire X)
kept_hear_number [] v = None
kept_hear_number (n ∷ ns) v =
    Some (W.Acked n, record v { acks = ns; acked = greater v.acked n; next = greater v.next (greater v.acked n); copies = drop (greater v.acked n - v.acked) v.copies })

-- the first acknowledgement comes back, if there is one
abbrev pub kept_hear : {X : Type 0} → KeptWire X → Option (What × KeptWire X)
kept_hear v = kept_hear_number v.acks v

abbrev pub with_kept_frames : {X : Type 0} → KeptWire X → Option (What × List (Frame X)) → Option (What × KeptWire X)
with_kept_frames v None = None
with_kept_frames v (Some r) = Some (r.0, record v { frames = r.1 })

abbrev pub with_kept_acks : {X : Type 0} → KeptWire X → Option (What × List ℕ) → Option (What × KeptWire X)
with_kept_acks v None = None
with_kept_acks v (Some r) = Some (r.0, record v { acks = r.1 })

-- the other events of a wire, each with its line; None if nothing is to be done
abbrev pub kept_act : {X : Type 0} → WireAct → List X → KeptWire X → Option (What × KeptWire X)
kept_act A.Send rest v = kept_send_number (kept_wanted v (v.handed + length rest)) rest v
kept_act A.Ack rest v = kept_hear v
kept_act A.Lose rest v = with_kept_frames v (lose frame_number v.frames)
kept_act A.Twice rest v = with_kept_frames v (twice frame_number v.frames)
kept_act A.Late rest v = with_kept_frames v (late frame_number v.frames)
kept_act A.LoseAck rest v = with_kept_acks v (lose ack_number v.acks)
kept_act A.TwiceAck rest v = with_kept_acks v (twice ack_number v.acks)
kept_act A.LateAck rest v = with_kept_acks v (late ack_number v.acks)

-- Both results have the same line, and the stored part after it carries the list and is that of the wire after it. Or
-- nothing is to be done in both.
abbrev pub Follows : {X : Type 0} → List X → Option (What × KeptWire X) → Option (What × Wire X) → Type 0
Follows put None None = Unit {0}
Follows put (Some r) (Some q) = (r.0 ≡ q.0) × Carries r.1 put × (whole r.1 put ≡ q.1)
Follows put None (Some q) = ⊥
Follows put (Some r) None = ⊥
