-- The events of a wire do not depend on request numbers: without them the same happens.
use Rattle.std.proofs.Common.{◌≡◌, refl, sym, ap, ap₂, ◌∙◌, ℕ, zero, suc, ◌+◌, ◌==◌, List, [], ◌∷◌, ◌++◌, length, Option, Some, None, Bool, true, false, if◌then◌else◌, nat_lt}
use Rattle.std.specs.Prelude.{slice_get}
use Rattle.run_types.specs.declared.types.What.{What}
use Rattle.run_types.specs.declared.types.What.TheVariants as W
use Rattle.run_types.specs.declared.types.WireAct.{WireAct}
use Rattle.run_types.specs.declared.types.WireAct.TheVariants as A
use Rattle.mesh_semantics.specs.Delay.{Packet}
use Rattle.mesh_semantics.specs.NumberedPackets.{NumberedPacket}
use Rattle.mesh_semantics.specs.Wire.{Frame, Wire, capacity, greater, push_within, wanted_of, wanted, enter, launch, send_number, Coming, Empty, Stale, Next, coming_in, coming, acknowledge, take_frame, take, hear_number, lose, twice, late, with_frames, with_acks, frame_number, ack_number, wire_act}
use Rattle.node_semantics.specs.StandsFor.{packets}
use Rattle.node_semantics.specs.WiresStandFor.{plain_frames, plain_wire}

pub packets_join : (xs ys : List NumberedPacket) → packets (xs ++ ys) ≡ packets xs ++ packets ys
packets_join [] ys = refl
packets_join (x ∷ xs) ys = ap (λ ps. x.packet ∷ ps) (packets_join xs ys)

pub packets_length : (xs : List NumberedPacket) → length (packets xs) ≡ length xs
packets_length [] = refl
packets_length (x ∷ xs) = ap suc (packets_length xs)

abbrev plain_packet : Option NumberedPacket → Option Packet
plain_packet None = None
plain_packet (Some e) = Some e.packet

packet_at : (xs : List NumberedPacket) (n : ℕ) → slice_get (packets xs) n ≡ plain_packet (slice_get xs n)
packet_at [] n = refl
packet_at (x ∷ xs) zero = refl
packet_at (x ∷ xs) (suc n) = packet_at xs n

frames_length : (fs : List (Frame NumberedPacket)) → length (plain_frames fs) ≡ length fs
frames_length [] = refl
frames_length (f ∷ fs) = ap suc (frames_length fs)

abbrev plain_frame : Frame NumberedPacket → Frame Packet
plain_frame f = (f.0, f.1.packet)

frames_behind : (fs : List (Frame NumberedPacket)) (f : Frame NumberedPacket) → plain_frames (fs ++ f ∷ []) ≡ plain_frames fs ++ plain_frame f ∷ []
frames_behind [] f = refl
frames_behind (g ∷ fs) f = ap (λ hs. plain_frame g ∷ hs) (frames_behind fs f)

pushed : (fs : List (Frame NumberedPacket)) (f : Frame NumberedPacket) → push_within (plain_frame f) (plain_frames fs) ≡ plain_frames (push_within f fs)
pushed fs f = ap (λ n. if nat_lt n capacity then plain_frames fs ++ plain_frame f ∷ [] else plain_frames fs) (frames_length fs) ∙ by (nat_lt (length fs) capacity)
  where
    by : (b : Bool) → (if b then plain_frames fs ++ plain_frame f ∷ [] else plain_frames fs) ≡ plain_frames (if b then fs ++ f ∷ [] else fs)
    by true = sym (frames_behind fs f)
    by false = refl

pub plain_enter : (e : NumberedPacket) (w : Wire NumberedPacket) → plain_wire (enter e w) ≡ enter e.packet (plain_wire w)
plain_enter e w = ap (λ ps. record (plain_wire w) { put = ps }) (packets_join w.put (e ∷ []))

abbrev pub plain_coming : Coming NumberedPacket → Coming Packet
plain_coming Empty = Empty
plain_coming (Stale n) = Stale n
plain_coming (Next e) = Next e.packet

pub coming_plain : (w : Wire NumberedPacket) → coming (plain_wire w) ≡ plain_coming (coming w)
coming_plain w = ap (λ n. coming_in n (plain_frames w.frames)) (packets_length w.handed) ∙ by w.frames
  where
    on : (f : Frame NumberedPacket) (b : Bool) → (if b then Next f.1.packet else Stale f.0) ≡ plain_coming (if b then Next f.1 else Stale f.0)
    on f true = refl
    on f false = refl

    by : (fs : List (Frame NumberedPacket)) → coming_in (length w.handed) (plain_frames fs) ≡ plain_coming (coming_in (length w.handed) fs)
    by [] = refl
    by (f ∷ fs) = on f (f.0 == length w.handed)

acknowledged : (w : Wire NumberedPacket) → plain_wire (acknowledge w) ≡ acknowledge (plain_wire w)
acknowledged w = ap (λ n. record (plain_wire w) { acks = push_within n w.acks }) (sym (packets_length w.handed))

pub plain_take : (w : Wire NumberedPacket) → plain_wire (take w) ≡ take (plain_wire w)
plain_take w = by w.frames
  where
    handed : (f : Frame NumberedPacket) (b : Bool) → packets (if b then w.handed ++ f.1 ∷ [] else w.handed) ≡ (if b then packets w.handed ++ f.1.packet ∷ [] else packets w.handed)
    handed f true = packets_join w.handed (f.1 ∷ [])
    handed f false = refl

    by : (fs : List (Frame NumberedPacket)) → plain_wire (take_frame fs w) ≡ take_frame (plain_frames fs) (plain_wire w)
    by [] = refl
    by (f ∷ fs) =
        acknowledged (record w { frames = fs; handed = if f.0 == length w.handed then w.handed ++ f.1 ∷ [] else w.handed })
        ∙ ap (λ hs. acknowledge (record (plain_wire w) { frames = plain_frames fs; handed = hs })) (handed f (f.0 == length w.handed)
        ∙ ap (λ n. if f.0 == n then packets w.handed ++ f.1.packet ∷ [] else packets w.handed) (sym (packets_length w.handed)))

abbrev pub plain_result : Option (What × Wire NumberedPacket) → Option (What × Wire Packet)
plain_result None = None
plain_result (Some r) = Some (r.0, plain_wire r.1)

launched : (n : ℕ) (x : Option NumberedPacket) (w : Wire NumberedPacket) → launch n (plain_packet x) (plain_wire w) ≡ ((launch n x w).0, plain_wire (launch n x w).1)
launched n None w = refl
launched n (Some e) w = ap₂ (λ m fs. (if nat_lt m capacity then W.Frame n else W.Lost n, record (plain_wire w) { frames = fs })) (frames_length w.frames) (pushed w.frames (n, e))

numbered : (n : Option ℕ) (w : Wire NumberedPacket) → send_number n (plain_wire w) ≡ plain_result (send_number n w)
numbered None w = refl
numbered (Some n) w =
    let u = record w { next = n + 1; sent = greater w.sent (n + 1) } in
    ap Some (ap (λ x. launch n x (plain_wire u)) (packet_at w.put n) ∙ launched n (slice_get w.put n) u)

acks_plain : (w : Wire NumberedPacket) (r : Option (What × List ℕ)) → with_acks (plain_wire w) r ≡ plain_result (with_acks w r)
acks_plain w None = refl
acks_plain w (Some r) = refl

pub act_plain : (a : WireAct) (w : Wire NumberedPacket) → wire_act a (plain_wire w) ≡ plain_result (wire_act a w)
act_plain A.Send w = ap (λ n. send_number (wanted_of w.acked w.next n) (plain_wire w)) (packets_length w.put) ∙ numbered (wanted w) w
act_plain A.Ack w = by w.acks
  where
    by : (ns : List ℕ) → hear_number ns (plain_wire w) ≡ plain_result (hear_number ns w)
    by [] = refl
    by (n ∷ ns) = refl
act_plain A.Lose w = by w.frames
  where
    by : (fs : List (Frame NumberedPacket)) → with_frames (plain_wire w) (lose frame_number (plain_frames fs)) ≡ plain_result (with_frames w (lose frame_number fs))
    by [] = refl
    by (f ∷ fs) = refl
act_plain A.Twice w = by w.frames
  where
    on : (f : Frame NumberedPacket) (fs : List (Frame NumberedPacket)) (b : Bool)
        → with_frames (plain_wire w) (if b then Some (W.Frame f.0, plain_frames (f ∷ fs) ++ plain_frame f ∷ []) else None) ≡ plain_result (with_frames w (if b then Some (W.Frame f.0, (f ∷ fs) ++ f ∷ []) else None))
    on f fs true = ap (λ gs. Some (W.Frame f.0, record (plain_wire w) { frames = gs })) (sym (frames_behind (f ∷ fs) f))
    on f fs false = refl

    by : (fs : List (Frame NumberedPacket)) → with_frames (plain_wire w) (twice frame_number (plain_frames fs)) ≡ plain_result (with_frames w (twice frame_number fs))
    by [] = refl
    by (f ∷ fs) =
        ap (λ n. with_frames (plain_wire w) (if nat_lt n capacity then Some (W.Frame f.0, plain_frames (f ∷ fs) ++ plain_frame f ∷ []) else None)) (frames_length (f ∷ fs))
        ∙ on f fs (nat_lt (length (f ∷ fs)) capacity)
act_plain A.Late w = by w.frames
  where
    by : (fs : List (Frame NumberedPacket)) → with_frames (plain_wire w) (late frame_number (plain_frames fs)) ≡ plain_result (with_frames w (late frame_number fs))
    by [] = refl
    by (f ∷ fs) = ap (λ gs. Some (W.Late f.0, record (plain_wire w) { frames = gs })) (sym (frames_behind fs f))
act_plain A.LoseAck w = acks_plain w (lose ack_number w.acks)
act_plain A.TwiceAck w = acks_plain w (twice ack_number w.acks)
act_plain A.LateAck w = acks_plain w (late ack_number w.acks)
