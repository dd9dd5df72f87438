-- The encoding of frames between stations as bytes, and the decoding of bytes to a frame: the number of the run, the
-- upper half of the number of the frame, and the bytes of the frame of a wire with the lower half. Each of the first
-- two has four bytes, in big-endian order.
use Rattle.std.specs.Prelude.{ℕ, ◌+◌, ◌*◌, ◌/◌, ◌%◌, ◌^◌, ◌<◌, List, ◌++◌, Option, Some}
use Rattle.run_types.specs.Partial.{◌>>=◌}
use Rattle.wire_link.specs.declared.frame.Frame.{Frame}
use Rattle.wire_link.specs.declared.frame.Frame.TheVariants as F
use Rattle.wire_link.specs.Bytes as B
use Rattle.wire_link.specs.Bytes.{number_bytes, read_number, PacketFits}
use Rattle.station_frames.specs.declared.frame.StationFrame.{StationFrame}
use Rattle.station_frames.specs.declared.frame.StationFrame.TheVariants as S

-- the upper half of the number of a frame
abbrev pub upper : StationFrame → ℕ
upper (S.Data n p) = n / 2 ^ 32
upper (S.Ack n) = n / 2 ^ 32

-- the frame of a wire with the lower half of the number
abbrev pub lower : StationFrame → Frame
lower (S.Data n p) = F.Data (n % 2 ^ 32) p
lower (S.Ack n) = F.Ack (n % 2 ^ 32)

-- the bytes of a frame of this run
abbrev pub encoding : ℕ → StationFrame → List ℕ
encoding run f = number_bytes run ++ (number_bytes (upper f) ++ B.encoding (lower f))

-- the frame whose number has this upper half, and the lower half of the frame of a wire
abbrev pub joined : ℕ → Frame → StationFrame
joined high (F.Data low p) = S.Data (high * 2 ^ 32 + low) p
joined high (F.Ack low) = S.Ack (high * 2 ^ 32 + low)

-- the frame of a wire that these bytes encode
abbrev pub tail_frame : List ℕ → Option Frame
tail_frame bs = B.decoded bs

-- a frame of this run whose number has this upper half
abbrev pub of_run : ℕ → ℕ → Frame → Option (ℕ × StationFrame)
of_run run high f = Some (run, joined high f)

-- the run and the frame that these bytes encode, if they encode one
abbrev pub decoded : List ℕ → Option (ℕ × StationFrame)
decoded bs = read_number bs >>= λ r. read_number r.1 >>= λ s. tail_frame s.1 >>= of_run r.0 s.0

-- the frames that have an encoding: those with a number of 64 bits, and a packet that has one
abbrev pub FrameFits : StationFrame → Type 0
FrameFits (S.Data n p) = (n < 2 ^ 64) × PacketFits p
FrameFits (S.Ack n) = n < 2 ^ 64
