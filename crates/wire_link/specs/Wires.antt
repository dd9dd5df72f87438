-- The stored state of a wire: its counters, copies of packets, and frames as bytes.
use Rattle.std.specs.Prelude.{◌≡◌, ℕ, ◌==◌, List, [], ◌∷◌, ◌++◌, length, Option, Some, None, if◌then◌else◌, slice_get, option_map}
use Rattle.arrayvec.specs.ArrayVec.{ArrayVec}
use Rattle.run_types.specs.Tables.{Each}
use Rattle.mesh_semantics.specs.Act.{first_of}
use Rattle.mesh_semantics.specs.Wire.{Frame as Numbered, Coming, Empty, Stale, Next}
use Rattle.mesh_semantics.specs.KeptWire.{KeptWire, Carries, kept_wanted}
use Rattle.rendezvous_protocol.specs.declared.packet.Packet.{Packet}
use Rattle.wire_link.specs.declared.frame.Frame.{Frame}
use Rattle.wire_link.specs.declared.frame.Frame.TheVariants as F
use Rattle.run_types.specs.declared.types.What.{What}
use Rattle.run_types.specs.declared.types.What.TheVariants as W
use Rattle.run_types.specs.declared.types.WireAct.{WireAct}
use Rattle.run_types.specs.declared.types.WireAct.TheVariants as A
use Rattle.wire_link.specs.declared.wire.Side.{Side}
use Rattle.wire_link.specs.declared.wire.Side.TheVariants as D
use Rattle.wire_link.specs.declared.wire.Sent.{Sent}
use Rattle.wire_link.specs.declared.wire.Sent.TheVariants as S
use Rattle.wire_link.specs.declared.wire.Arrived.{Arrived}
use Rattle.wire_link.specs.declared.wire.Arrived.TheVariants as R
use Rattle.wire_link.specs.Bytes.{decoded, encoding}

-- the number and packet of a data frame
abbrev pub data_in : Option Frame → List (Numbered Packet)
data_in (Some (F.Data n p)) = (n, p) ∷ []
data_in (Some (F.Ack n)) = []
data_in None = []

abbrev pub frames_in : List (ArrayVec ℕ) → List (Numbered Packet)
frames_in [] = []
frames_in (b ∷ bs) = data_in (decoded b.items) ++ frames_in bs

-- the number of an acknowledgement
abbrev pub ack_in : Option Frame → List ℕ
ack_in (Some (F.Ack n)) = n ∷ []
ack_in (Some (F.Data n p)) = []
ack_in None = []

abbrev pub acks_in : List (ArrayVec ℕ) → List ℕ
acks_in [] = []
acks_in (b ∷ bs) = ack_in (decoded b.items) ++ acks_in bs

-- the bytes are the encoding of a data frame, and decode to it; or of an acknowledgement
abbrev pub IsData : ArrayVec ℕ → Type 0
IsData b = (n : ℕ) × (p : Packet) × (decoded b.items ≡ Some (F.Data n p)) × (b.items ≡ encoding (F.Data n p))

abbrev pub IsAck : ArrayVec ℕ → Type 0
IsAck b = (n : ℕ) × (decoded b.items ≡ Some (F.Ack n)) × (b.items ≡ encoding (F.Ack n))

abbrev pub view_of : (handed acked next sent : ℕ) → List Packet → List (ArrayVec ℕ) → List (ArrayVec ℕ) → KeptWire Packet
view_of handed acked next sent copies frames acks =
    record { handed = handed; acked = acked; next = next; sent = sent; copies = copies; frames = frames_in frames; acks = acks_in acks }

-- The invariant of a wire: all bytes encode frames of their side, and the wire carries some list.
pub record IsWire (handed acked next sent : ℕ) (copies : List Packet) (frames acks : List (ArrayVec ℕ)) : Type 0 where
  pub sent_frames : Each IsData frames
  pub told_back : Each IsAck acks
  pub carried : (put : List Packet) × Carries (view_of handed acked next sent copies frames acks) put

-- the arrival at the far end, in the type of the code
abbrev pub arrived_of : Coming Packet → Arrived
arrived_of Empty = R.Empty
arrived_of (Stale n) = R.Stale n
arrived_of (Next p) = R.Next p

-- the first data frame is removed from its side, if there is one
abbrev pub TakesData : List (ArrayVec ℕ) → List (ArrayVec ℕ) → Option (ℕ × Packet) → Type 0
TakesData old new None = (frames_in old ≡ []) × (new ≡ old)
TakesData old new (Some f) = (frames_in old ≡ (f.0, f.1) ∷ frames_in new) × Each IsData new

abbrev pub TakesAck : List (ArrayVec ℕ) → List (ArrayVec ℕ) → Option ℕ → Type 0
TakesAck old new None = (acks_in old ≡ []) × (new ≡ old)
TakesAck old new (Some n) = (acks_in old ≡ n ∷ acks_in new) × Each IsAck new

-- Some carried list wants the number, and `fresh` is its packet exactly if it was never sent.
pub record IsWanted (v : KeptWire Packet) (number : ℕ) (fresh : Option Packet) : Type 0 where
  pub put : List Packet
  pub carried : Carries v put
  pub wanted : kept_wanted v (length put) ≡ Some number
  pub fresh_is : fresh ≡ (if number == v.sent then slice_get put number else None)

-- the report of a frame that was sent
abbrev pub told_of : ℕ → Sent → What
told_of n S.Frame = W.Frame n
told_of n S.Lost = W.Lost n

-- the acts on a side of a wire
abbrev pub lose_of : Side → WireAct
lose_of D.Data = A.Lose
lose_of D.Ack = A.LoseAck

abbrev pub twice_of : Side → WireAct
twice_of D.Data = A.Twice
twice_of D.Ack = A.TwiceAck

abbrev pub late_of : Side → WireAct
late_of D.Data = A.Late
late_of D.Ack = A.LateAck

-- the first frame of a side, if there is one
abbrev pub front_of : Side → KeptWire Packet → Option Frame
front_of D.Data v = option_map (λ f. F.Data f.0 f.1) (first_of v.frames)
front_of D.Ack v = option_map (λ n. F.Ack n) (first_of v.acks)
