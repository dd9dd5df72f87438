-- Decoding the encoding of a frame gives the frame.
use Rattle.std.proofs.Common.{◌≡◌, refl, sym, ap, ◌∙◌, ℕ, suc, List, [], ◌∷◌, ◌++◌, append_assoc, append-nil, length, Some, None, true, false, if◌then◌else◌, arith}
use Rattle.std.specs.Prelude.{nat_le}
use Rattle.std.specs.Int.{w32, w64, to_be_bytes, from_be_bytes, cast_signed, cast_unsigned}
use Rattle.std.proofs.lemmas.Nat.{from_be_bytes-to_be_bytes_4, from_be_bytes-to_be_bytes_8}
use Rattle.run_types.specs.declared.types.Value.{Value}
use Rattle.run_types.specs.declared.types.Value.TheVariants as V
use Rattle.run_types.specs.Partial.{◌>>=◌}
use Rattle.run_types.specs.Tables.{Each}
use Rattle.rendezvous_protocol.specs.declared.packet.Packet.{Packet}
use Rattle.rendezvous_protocol.specs.declared.packet.Packet.TheVariants as P
use Rattle.wire_link.specs.declared.frame.Frame.{Frame}
use Rattle.wire_link.specs.declared.frame.Frame.TheVariants as F
use Rattle.wire_link.specs.Bytes.{number_bytes, value_bytes, values_bytes, args_bytes, packet_bytes, encoding, read_number, read_value, read_values, read_args, read_packet, read_frame, all_read, decoded, IsNumber, ValueFits, ArgsFit, PacketFits, FrameFits}

number_is : (n : ℕ) → IsNumber n → from_be_bytes w32 (to_be_bytes w32 n) ≡ n
number_is n h = from_be_bytes-to_be_bytes_4 n h

number_read : (n : ℕ) (rest : List ℕ) → IsNumber n → read_number (number_bytes n ++ rest) ≡ Some (n, rest)
number_read n rest h = ap (λ k. Some (k, rest)) (number_is n h)

value_read : (v : Value) (rest : List ℕ) → ValueFits v → read_value (value_bytes v ++ rest) ≡ Some (v, rest)
value_read (V.Int z) rest h = ap (λ n. Some (V.Int (cast_signed w64 n), rest)) (from_be_bytes-to_be_bytes_8 (cast_unsigned w64 z) h.0) ∙ ap (λ i. Some (V.Int i, rest)) h.1
value_read (V.Bool true) rest h = refl
value_read (V.Bool false) rest h = refl
value_read (V.Ref n) rest h = ap (λ o. o >>= λ r. Some (V.Ref r.0, r.1)) (number_read n rest h)
value_read V.Nil rest h = refl

values_read : (vs : List Value) (rest : List ℕ) → Each ValueFits vs → read_values (length vs) (values_bytes vs ++ rest) ≡ Some (vs, rest)
values_read [] rest h = refl
values_read (v ∷ vs) rest h =
    ap (λ bs. read_values (suc (length vs)) bs) (append_assoc (value_bytes v) (values_bytes vs) rest)
    ∙ ap (λ o. o >>= λ r. read_values (length vs) r.1 >>= λ s. Some (r.0 ∷ s.0, s.1)) (value_read v (values_bytes vs ++ rest) h.0)
    ∙ ap (λ o. o >>= λ s. Some (v ∷ s.0, s.1)) (values_read vs rest h.1)

args_read : (vs : List Value) (rest : List ℕ) → ArgsFit vs → read_args (args_bytes vs ++ rest) ≡ Some (vs, rest)
args_read vs rest h =
    let few : nat_le (length vs) 8 ≡ true = let a = h.0 in grind (arith, a) in
    ap (λ b. if b then read_values (length vs) (values_bytes vs ++ rest) else None) few ∙ values_read vs rest h.1

packet_read : (p : Packet) (rest : List ℕ) → PacketFits p → read_packet (packet_bytes p ++ rest) ≡ Some (p, rest)
packet_read (P.Create number from node class) rest h =
    let a = number_is number h.0 in let b = number_is from h.1 in let c = number_is node h.2 in let d = number_is class.0 h.3 in
    λ i. Some (P.Create (a i) (b i) (c i) (record { 0 = d i }), rest)
packet_read (P.Created number to name) rest h =
    let a = number_is number h.0 in let b = number_is to h.1 in let c = number_is name h.2 in λ i. Some (P.Created (a i) (b i) (c i), rest)
packet_read (P.Request number from to method args) rest h =
    let a = number_is number h.0 in let b = number_is from h.1 in let c = number_is to h.2 in let d = number_is method.0 h.3 in let e = args_read args rest h.4 in
    λ i. e i >>= λ v. Some (P.Request (a i) (b i) (c i) (record { 0 = d i }) v.0, v.1)
packet_read (P.Result number to value) rest h =
    let a = number_is number h.0 in let b = number_is to h.1 in let c = value_read value rest h.2 in λ i. c i >>= λ v. Some (P.Result (a i) (b i) v.0, v.1)
packet_read (P.Async from to method args) rest h =
    let a = number_is from h.0 in let b = number_is to h.1 in let c = number_is method.0 h.2 in let e = args_read args rest h.3 in
    λ i. e i >>= λ v. Some (P.Async (a i) (b i) (record { 0 = c i }) v.0, v.1)

-- the frame of an encoding is the frame
pub frame_read : (f : Frame) → FrameFits f → decoded (encoding f) ≡ Some f
frame_read (F.Data number packet) h =
    let a = number_is number h.0 in
    let b : read_packet (packet_bytes packet) ≡ Some (packet, []) = ap read_packet (sym (append-nil (packet_bytes packet))) ∙ packet_read packet [] h.1 in
    let c : read_frame (encoding (F.Data number packet)) ≡ Some (F.Data number packet, []) = λ i. b i >>= λ s. Some (F.Data (a i) s.0, s.1) in
    ap (λ o. o >>= λ r. all_read r.0 r.1) c
frame_read (F.Ack number) h = ap (λ n. Some (F.Ack n)) (number_is number h)
