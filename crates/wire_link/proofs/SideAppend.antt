-- The frames on one side after one was appended.
use Rattle.std.proofs.Common.{◌≡◌, refl, sym, ap, subst, ◌∙◌, ℕ, suc, ◌<◌, List, [], ◌∷◌, ◌++◌, length, Some, true, false, nat_lt, arith}
use Rattle.arrayvec.specs.ArrayVec.{ArrayVec}
use Rattle.run_types.specs.Tables.{Each}
use Rattle.mesh_semantics.specs.Wire.{push_within}
use Rattle.run_types.proofs.Laws.{each_append}
use Rattle.rendezvous_protocol.specs.declared.packet.Packet.{Packet}
use Rattle.wire_link.specs.declared.frame.Frame.TheVariants as F
use Rattle.wire_link.specs.Bytes.{bytes_of, decoded, FrameFits}
use Rattle.wire_link.specs.Wires.{IsAck, IsData, ack_in, acks_in, data_in, frames_in}
use Rattle.wire_link.proofs.WriteThenRead.{frame_read}

pub frames_length : (bs : List (ArrayVec ℕ)) → Each IsData bs → length (frames_in bs) ≡ length bs
frames_length [] h = refl
frames_length (b ∷ bs) h = ap (λ o. length (data_in o ++ frames_in bs)) h.0.2 ∙ ap suc (frames_length bs h.1)

frames_behind : (bs : List (ArrayVec ℕ)) (b : ArrayVec ℕ) (n : ℕ) (p : Packet) → Each IsData bs → decoded b.items ≡ Some (F.Data n p) → frames_in (bs ++ b ∷ []) ≡ frames_in bs ++ (n, p) ∷ []
frames_behind [] b n p h e = ap (λ o. data_in o ++ []) e
frames_behind (c ∷ bs) b n p h e =
    ap (λ o. data_in o ++ frames_in (bs ++ b ∷ [])) h.0.2 ∙ ap (λ fs. (h.0.0, h.0.1) ∷ fs) (frames_behind bs b n p h.1 e) ∙ ap (λ o. (data_in o ++ frames_in bs) ++ (n, p) ∷ []) (sym h.0.2)

pub data_put : (old new : List (ArrayVec ℕ)) (n : ℕ) (p : Packet) → Each IsData old → length old < 16 → new ≡ old ++ bytes_of (F.Data n p) ∷ [] → FrameFits (F.Data n p)
    → (frames_in new ≡ push_within (n, p) (frames_in old)) × Each IsData new
data_put old new n p h room e fits =
    let b = bytes_of (F.Data n p) in
    let read : decoded b.items ≡ Some (F.Data n p) = frame_read (F.Data n p) fits in
    let l = frames_length old h in
    let less : nat_lt (length (frames_in old)) 16 ≡ true = grind (arith, l, room) in (
      ap frames_in e ∙ frames_behind old b n p h read ∙ rw less refl,
      subst (Each IsData) (sym e) (each_append IsData old b h (n, p, read, refl)),
    )

pub data_full : (old : List (ArrayVec ℕ)) (n : ℕ) (p : Packet) → Each IsData old → length old ≡ 16 → frames_in old ≡ push_within (n, p) (frames_in old)
data_full old n p h full = let l = frames_length old h in let less : nat_lt (length (frames_in old)) 16 ≡ false = grind (arith, l, full) in rw less refl

pub acks_length : (bs : List (ArrayVec ℕ)) → Each IsAck bs → length (acks_in bs) ≡ length bs
acks_length [] h = refl
acks_length (b ∷ bs) h = ap (λ o. length (ack_in o ++ acks_in bs)) h.0.1 ∙ ap suc (acks_length bs h.1)

acks_behind : (bs : List (ArrayVec ℕ)) (b : ArrayVec ℕ) (n : ℕ) → Each IsAck bs → decoded b.items ≡ Some (F.Ack n) → acks_in (bs ++ b ∷ []) ≡ acks_in bs ++ n ∷ []
acks_behind [] b n h e = ap (λ o. ack_in o ++ []) e
acks_behind (c ∷ bs) b n h e =
    ap (λ o. ack_in o ++ acks_in (bs ++ b ∷ [])) h.0.1 ∙ ap (λ fs. h.0.0 ∷ fs) (acks_behind bs b n h.1 e) ∙ ap (λ o. (ack_in o ++ acks_in bs) ++ n ∷ []) (sym h.0.1)

pub ack_put : (old new : List (ArrayVec ℕ)) (n : ℕ) → Each IsAck old → length old < 16 → new ≡ old ++ bytes_of (F.Ack n) ∷ [] → FrameFits (F.Ack n)
    → (acks_in new ≡ push_within n (acks_in old)) × Each IsAck new
ack_put old new n h room e fits =
    let b = bytes_of (F.Ack n) in
    let read : decoded b.items ≡ Some (F.Ack n) = frame_read (F.Ack n) fits in
    let l = acks_length old h in
    let less : nat_lt (length (acks_in old)) 16 ≡ true = grind (arith, l, room) in (
      ap acks_in e ∙ acks_behind old b n h read ∙ rw less refl,
      subst (Each IsAck) (sym e) (each_append IsAck old b h (n, read, refl)),
    )

pub ack_full : (old : List (ArrayVec ℕ)) (n : ℕ) → Each IsAck old → length old ≡ 16 → acks_in old ≡ push_within n (acks_in old)
ack_full old n h full = let l = acks_length old h in let less : nat_lt (length (acks_in old)) 16 ≡ false = grind (arith, l, full) in rw less refl
