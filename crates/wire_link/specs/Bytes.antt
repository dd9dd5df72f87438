-- The encoding of frames as bytes, and the decoding of bytes to a frame. Numbers have four bytes, in big-endian order.
use Rattle.std.specs.Prelude.{◌≡◌, ℕ, suc, zero, ◌^◌, ◌<◌, ◌≤◌, ◌==◌, List, [], ◌∷◌, ◌++◌, length, Option, Some, None, true, false, if◌then◌else◌, nat_le}
use Rattle.std.specs.Int.{w32, w64, to_be_bytes, from_be_bytes, cast_unsigned, cast_signed}
use Rattle.arrayvec.specs.ArrayVec.{ArrayVec}
use Rattle.run_types.specs.declared.types.Value.{Value}
use Rattle.run_types.specs.declared.types.Value.TheVariants as V
use Rattle.run_types.specs.Partial.{◌>>=◌}
use Rattle.run_types.specs.Tables.{Each}
use Rattle.rendezvous_protocol.specs.declared.packet.Packet.{Packet}
use Rattle.rendezvous_protocol.specs.declared.packet.Packet.TheVariants as P
use Rattle.wire_link.specs.declared.frame.Frame.{Frame}
use Rattle.wire_link.specs.declared.frame.Frame.TheVariants as F

-- encoding

abbrev pub number_bytes : ℕ → List ℕ
number_bytes n = to_be_bytes w32 n

-- a byte for the kind, and then eight bytes of two's complement, one of a truth value, four of a name, or none
abbrev pub value_bytes : Value → List ℕ
value_bytes (V.Int z) = 1 ∷ to_be_bytes w64 (cast_unsigned w64 z)
value_bytes (V.Bool false) = 2 ∷ 0 ∷ []
value_bytes (V.Bool true) = 2 ∷ 1 ∷ []
value_bytes (V.Ref n) = 3 ∷ number_bytes n
value_bytes V.Nil = 4 ∷ []

abbrev pub values_bytes : List Value → List ℕ
values_bytes [] = []
values_bytes (v ∷ vs) = value_bytes v ++ values_bytes vs

-- their count, and the values
abbrev pub args_bytes : List Value → List ℕ
args_bytes vs = length vs ∷ values_bytes vs

-- a byte for the kind, and the fields in order
abbrev pub packet_bytes : Packet → List ℕ
packet_bytes (P.Create number from node class) = 1 ∷ (number_bytes number ++ (number_bytes from ++ (number_bytes node ++ number_bytes class.0)))
packet_bytes (P.Created number to name) = 2 ∷ (number_bytes number ++ (number_bytes to ++ number_bytes name))
packet_bytes (P.Request number from to method args) = 3 ∷ (number_bytes number ++ (number_bytes from ++ (number_bytes to ++ (number_bytes method.0 ++ args_bytes args))))
packet_bytes (P.Result number to value) = 4 ∷ (number_bytes number ++ (number_bytes to ++ value_bytes value))
packet_bytes (P.Async from to method args) = 5 ∷ (number_bytes from ++ (number_bytes to ++ (number_bytes method.0 ++ args_bytes args)))

-- a byte for its side, the number, and the packet of a data frame
abbrev pub encoding : Frame → List ℕ
encoding (F.Data number packet) = 1 ∷ (number_bytes number ++ packet_bytes packet)
encoding (F.Ack number) = 2 ∷ number_bytes number

-- the bytes of a frame as they are stored
abbrev pub bytes_of : Frame → ArrayVec ℕ
bytes_of f = record { items = encoding f }

-- decoding: the item that was read, and the bytes after it

abbrev pub Read : Type 0 → Type 0
Read X = Option (X × List ℕ)

abbrev pub read_byte : List ℕ → Read ℕ
read_byte [] = None
read_byte (b ∷ rest) = Some (b, rest)

abbrev pub read_number : List ℕ → Read ℕ
read_number (a ∷ b ∷ c ∷ d ∷ rest) = Some (from_be_bytes w32 (a ∷ b ∷ c ∷ d ∷ []), rest)
read_number (a ∷ b ∷ c ∷ []) = None
read_number (a ∷ b ∷ []) = None
read_number (a ∷ []) = None
read_number [] = None

abbrev pub read_integer : List ℕ → Read Value
read_integer (a ∷ b ∷ c ∷ d ∷ e ∷ f ∷ g ∷ h ∷ rest) = Some (V.Int (cast_signed w64 (from_be_bytes w64 (a ∷ b ∷ c ∷ d ∷ e ∷ f ∷ g ∷ h ∷ []))), rest)
read_integer (a ∷ b ∷ c ∷ d ∷ e ∷ f ∷ g ∷ []) = None
read_integer (a ∷ b ∷ c ∷ d ∷ e ∷ f ∷ []) = None
read_integer (a ∷ b ∷ c ∷ d ∷ e ∷ []) = None
read_integer (a ∷ b ∷ c ∷ d ∷ []) = None
read_integer (a ∷ b ∷ c ∷ []) = None
read_integer (a ∷ b ∷ []) = None
read_integer (a ∷ []) = None
read_integer [] = None

abbrev pub read_truth : List ℕ → Read Value
read_truth [] = None
read_truth (b ∷ rest) = if b == 0 then Some (V.Bool false, rest) else (if b == 1 then Some (V.Bool true, rest) else None)

abbrev pub read_value_of : ℕ → List ℕ → Read Value
read_value_of k rest =
    if k == 1 then read_integer rest
    else (if k == 2 then read_truth rest
    else (if k == 3 then (read_number rest >>= λ r. Some (V.Ref r.0, r.1))
    else (if k == 4 then Some (V.Nil, rest) else None)))

abbrev pub read_value : List ℕ → Read Value
read_value bs = read_byte bs >>= λ r. read_value_of r.0 r.1

-- n values
abbrev pub read_values : ℕ → List ℕ → Read (List Value)
read_values zero bs = Some ([], bs)
read_values (suc n) bs = read_value bs >>= λ r. read_values n r.1 >>= λ s. Some (r.0 ∷ s.0, s.1)

-- their count, at most eight, and the values
abbrev pub read_args : List ℕ → Read (List Value)
read_args bs = read_byte bs >>= λ r. if nat_le r.0 8 then read_values r.0 r.1 else None

abbrev pub read_create : List ℕ → Read Packet
read_create bs = read_number bs >>= λ r. read_number r.1 >>= λ s. read_number s.1 >>= λ t. read_number t.1 >>= λ u. Some (P.Create r.0 s.0 t.0 (record { 0 = u.0 }), u.1)

abbrev pub read_created : List ℕ → Read Packet
read_created bs = read_number bs >>= λ r. read_number r.1 >>= λ s. read_number s.1 >>= λ t. Some (P.Created r.0 s.0 t.0, t.1)

abbrev pub read_request : List ℕ → Read Packet
read_request bs =
    read_number bs >>= λ r. read_number r.1 >>= λ s. read_number s.1 >>= λ t. read_number t.1 >>= λ u. read_args u.1 >>= λ v. Some (P.Request r.0 s.0 t.0 (record { 0 = u.0 }) v.0, v.1)

abbrev pub read_result : List ℕ → Read Packet
read_result bs = read_number bs >>= λ r. read_number r.1 >>= λ s. read_value s.1 >>= λ t. Some (P.Result r.0 s.0 t.0, t.1)

abbrev pub read_async : List ℕ → Read Packet
read_async bs = read_number bs >>= λ r. read_number r.1 >>= λ s. read_number s.1 >>= λ t. read_args t.1 >>= λ u. Some (P.Async r.0 s.0 (record { 0 = t.0 }) u.0, u.1)

abbrev pub read_packet_of : ℕ → List ℕ → Read Packet
read_packet_of k rest =
    if k == 1 then read_create rest
    else (if k == 2 then read_created rest
    else (if k == 3 then read_request rest
    else (if k == 4 then read_result rest
    else (if k == 5 then read_async rest else None))))

abbrev pub read_packet : List ℕ → Read Packet
read_packet bs = read_byte bs >>= λ r. read_packet_of r.0 r.1

abbrev pub read_data : List ℕ → Read Frame
read_data bs = read_number bs >>= λ r. read_packet r.1 >>= λ s. Some (F.Data r.0 s.0, s.1)

abbrev pub read_ack : List ℕ → Read Frame
read_ack bs = read_number bs >>= λ r. Some (F.Ack r.0, r.1)

abbrev pub read_frame_of : ℕ → List ℕ → Read Frame
read_frame_of k rest = if k == 1 then read_data rest else (if k == 2 then read_ack rest else None)

abbrev pub read_frame : List ℕ → Read Frame
read_frame bs = read_byte bs >>= λ r. read_frame_of r.0 r.1

-- the item that was read, if no byte is left
abbrev pub all_read : {X : Type 0} → X → List ℕ → Option X
all_read x [] = Some x
all_read x (b ∷ bs) = None

-- the frame that these bytes encode, if they encode one
abbrev pub decoded : List ℕ → Option Frame
decoded bs = read_frame bs >>= λ r. all_read r.0 r.1

-- the data frame with a number and the packet that was read, if no byte is left
abbrev pub with_number : ℕ → Read Packet → Read Frame
with_number number o = o >>= λ s. Some (F.Data number s.0, s.1)

abbrev pub data_frame : ℕ → Read Packet → Option Frame
data_frame number o = with_number number o >>= λ r. all_read r.0 r.1

-- the frames that have an encoding: numbers of 32 bits, integers of 64, and at most eight values

abbrev pub IsNumber : ℕ → Type 0
IsNumber n = n < 2 ^ 32

abbrev pub ValueFits : Value → Type 0
ValueFits (V.Int z) = (cast_unsigned w64 z < 2 ^ 64) × (cast_signed w64 (cast_unsigned w64 z) ≡ z)
ValueFits (V.Bool b) = Unit {0}
ValueFits (V.Ref n) = IsNumber n
ValueFits V.Nil = Unit {0}

abbrev pub ArgsFit : List Value → Type 0
ArgsFit vs = (length vs ≤ 8) × Each ValueFits vs

abbrev pub PacketFits : Packet → Type 0
PacketFits (P.Create number from node class) = IsNumber number × IsNumber from × IsNumber node × IsNumber class.0
PacketFits (P.Created number to name) = IsNumber number × IsNumber to × IsNumber name
PacketFits (P.Request number from to method args) = IsNumber number × IsNumber from × IsNumber to × IsNumber method.0 × ArgsFit args
PacketFits (P.Result number to value) = IsNumber number × IsNumber to × ValueFits value
PacketFits (P.Async from to method args) = IsNumber from × IsNumber to × IsNumber method.0 × ArgsFit args

abbrev pub FrameFits : Frame → Type 0
FrameFits (F.Data number packet) = IsNumber number × PacketFits packet
FrameFits (F.Ack number) = IsNumber number

-- a list of bytes
abbrev pub AreBytes : List ℕ → Type 0
AreBytes bs = Each (λ b. b < 256) bs
