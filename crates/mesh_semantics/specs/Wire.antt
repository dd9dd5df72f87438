-- A wire, which is a link that may lose, repeat and reorder frames, with the go-back-N protocol. Each packet that
-- enters gets a number. At most 8 numbers are unacknowledged. The sender sends again from the first unacknowledged
-- number, and the far end hands out only the next number. X is the type of packets.
use Rattle.std.specs.Prelude.{◌≡◌, ℕ, ◌+◌, ◌<◌, ◌≤◌, ◌==◌, List, [], ◌∷◌, ◌++◌, length, Option, Some, None, Bool, ◌&&◌, if◌then◌else◌, nat_lt, slice_get}
use Rattle.run_types.specs.declared.types.What.{What}
use Rattle.run_types.specs.declared.types.What.TheVariants as W
use Rattle.run_types.specs.declared.types.WireAct.{WireAct}
use Rattle.run_types.specs.declared.types.WireAct.TheVariants as A
use Rattle.run_types.specs.Tables.{Each}

-- a packet with its number
abbrev pub Frame : Type 0 → Type 0
Frame X = ℕ × X

pub record Wire (X : Type 0) : Type 0 where
  -- the packets that entered, numbered by their place in this list; and the packets that were handed out at the far
  -- end
  pub put : List X
  pub handed : List X
  -- all numbers below this one are acknowledged
  pub acked : ℕ
  -- the number that is sent next, unless the window is full
  pub next : ℕ
  -- all numbers below this one were sent at least once
  pub sent : ℕ
  -- the frames on the way to the far end, and the acknowledgements on the way back
  pub frames : List (Frame X)
  pub acks : List ℕ

abbrev pub empty_wire : {X : Type 0} → Wire X
empty_wire = record { put = []; handed = []; acked = 0; next = 0; sent = 0; frames = []; acks = [] }

-- the window: how many numbers may be unacknowledged; and the capacity: how many frames, and how many
-- acknowledgements, a wire holds
abbrev pub window : ℕ
window = 8

abbrev pub capacity : ℕ
capacity = 16

-- the greater of two numbers
abbrev pub greater : ℕ → ℕ → ℕ
greater a b = if nat_lt a b then b else a

-- the list with f last, unless it is full
abbrev pub push_within : {F : Type 0} → F → List F → List F
push_within f fs = if nat_lt (length fs) capacity then fs ++ f ∷ [] else fs

-- the number to be sent, if this many packets entered: next if it is in the window and has entered, otherwise the
-- first unacknowledged number; None if all is acknowledged
abbrev pub wanted_of : (acked next entered : ℕ) → Option ℕ
wanted_of acked next entered = if acked == entered then None else Some (if nat_lt next (acked + window) && nat_lt next entered then next else acked)

abbrev pub wanted : {X : Type 0} → Wire X → Option ℕ
wanted w = wanted_of w.acked w.next (length w.put)

-- the packet enters
abbrev pub enter : {X : Type 0} → X → Wire X → Wire X
enter x w = record w { put = w.put ++ x ∷ [] }

-- a frame with this number and packet is put on the wire; if the wire is full, the frame is lost
abbrev pub launch : {X : Type 0} → ℕ → Option X → Wire X → What × Wire X
launch n None w = (W.Lost n, w)
launch n (Some x) w = (if nat_lt (length w.frames) capacity then W.Frame n else W.Lost n, record w { frames = push_within (n, x) w.frames })

abbrev pub send_number : {X : Type 0} → Option ℕ → Wire X → Option (What × Wire X)
send_number None w = None
send_number (Some n) w = Some (launch n (slice_get w.put n) (record w { next = n + 1; sent = greater w.sent (n + 1) }))

-- a frame is sent, if there is a number to be sent
abbrev pub send : {X : Type 0} → Wire X → Option (What × Wire X)
send w = send_number (wanted w) w

-- the first frame at the far end: none, one that is not the next packet, or the next packet
pub data Coming (X : Type 0) : Type 0 where
  Empty : Coming X
  Stale : (number : ℕ) → Coming X
  Next : (packet : X) → Coming X

abbrev pub coming_in : {X : Type 0} → ℕ → List (Frame X) → Coming X
coming_in next [] = Empty
coming_in next (f ∷ fs) = if f.0 == next then Next f.1 else Stale f.0

abbrev pub coming : {X : Type 0} → Wire X → Coming X
coming w = coming_in (length w.handed) w.frames

-- the far end acknowledges the number of packets that it has handed out
abbrev pub acknowledge : {X : Type 0} → Wire X → Wire X
acknowledge w = record w { acks = push_within (length w.handed) w.acks }

abbrev pub take_frame : {X : Type 0} → List (Frame X) → Wire X → Wire X
take_frame [] w = w
take_frame (f ∷ fs) w = acknowledge (record w { frames = fs; handed = if f.0 == length w.handed then w.handed ++ f.1 ∷ [] else w.handed })

-- the first frame comes to the far end: the next packet is handed out, and another one is dropped
abbrev pub take : {X : Type 0} → Wire X → Wire X
take w = take_frame w.frames w

abbrev pub hear_number : {X : Type 0} → List ℕ → Wire X → Option (What × Wire X)
hear_number [] w = None
hear_number (n ∷ ns) w = Some (W.Acked n, record w { acks = ns; acked = greater w.acked n; next = greater w.next (greater w.acked n) })

-- the first acknowledgement comes back, if there is one
abbrev pub hear : {X : Type 0} → Wire X → Option (What × Wire X)
hear w = hear_number w.acks w

-- the first frame is lost, comes twice, or becomes the last; None if there is no frame, or if there is no room for a
-- second one
abbrev pub lose : {F : Type 0} → (F → ℕ) → List F → Option (What × List F)
lose number [] = None
lose number (f ∷ fs) = Some (W.Lost (number f), fs)

abbrev pub twice : {F : Type 0} → (F → ℕ) → List F → Option (What × List F)
twice number [] = None
twice number (f ∷ fs) = if nat_lt (length (f ∷ fs)) capacity then Some (W.Frame (number f), (f ∷ fs) ++ f ∷ []) else None

abbrev pub late : {F : Type 0} → (F → ℕ) → List F → Option (What × List F)
late number [] = None
late number (f ∷ fs) = Some (W.Late (number f), fs ++ f ∷ [])

abbrev pub with_frames : {X : Type 0} → Wire X → Option (What × List (Frame X)) → Option (What × Wire X)
with_frames w None = None
with_frames w (Some r) = Some (r.0, record w { frames = r.1 })

abbrev pub with_acks : {X : Type 0} → Wire X → Option (What × List ℕ) → Option (What × Wire X)
with_acks w None = None
with_acks w (Some r) = Some (r.0, record w { acks = r.1 })

abbrev pub frame_number : {X : Type 0} → Frame X → ℕ
frame_number f = f.0

abbrev pub ack_number : ℕ → ℕ
ack_number n = n

-- the other events of a wire, each with its line; None if nothing is to be done
abbrev pub wire_act : {X : Type 0} → WireAct → Wire X → Option (What × Wire X)
wire_act A.Send w = send w
wire_act A.Ack w = hear w
wire_act A.Lose w = with_frames w (lose frame_number w.frames)
wire_act A.Twice w = with_frames w (twice frame_number w.frames)
wire_act A.Late w = with_frames w (late frame_number w.frames)
wire_act A.LoseAck w = with_acks w (lose ack_number w.acks)
wire_act A.TwiceAck w = with_acks w (twice ack_number w.acks)
wire_act A.LateAck w = with_acks w (late ack_number w.acks)

-- whether everything that entered is acknowledged
abbrev pub is_done : {X : Type 0} → Wire X → Bool
is_done w = w.acked == length w.put

abbrev pub IsPrefix : {X : Type 0} → List X → List X → Type 0
IsPrefix {X} xs ys = (rest : List X) × (xs ++ rest ≡ ys)

-- The invariant of a wire: the packets handed out are a prefix of those that entered, each frame carries the packet of
-- its number, and the numbers are within the window.
pub record WireFacts {X : Type 0} (w : Wire X) : Type 0 where
  pub in_order : IsPrefix w.handed w.put
  pub acked : w.acked ≤ length w.handed
  pub handed : length w.handed ≤ w.sent
  pub within : w.sent ≤ w.acked + window
  pub sent : w.sent ≤ length w.put
  pub next : (w.acked ≤ w.next) × (w.next ≤ w.sent)
  pub carried : Each (λ f. (f.0 < w.sent) × (slice_get w.put f.0 ≡ Some f.1)) w.frames
  pub told : Each (λ n. n ≤ length w.handed) w.acks
  pub capacities : (length w.frames ≤ capacity) × (length w.acks ≤ capacity)
