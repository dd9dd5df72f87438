-- The binary form: pieces, each with its length before it in four bytes, in big-endian order. A piece that a station
-- reads has a byte for its kind: 1 for turns and 2 for a call to send again, each with a number of four bytes; 3 for a
-- frame, with the number of the neighbour and the bytes; 4 for the end. A piece that it writes has 1 for a line, and 2
-- for a frame.
use Rattle.std.specs.Prelude.{◌≡◌, ℕ, ◌==◌, [], ◌∷◌, ◌++◌, length, take, drop, Option, Some, None, Result, Ok, Err, if◌then◌else◌, nat_le, nat_lt}
use Rattle.run_types.specs.Partial.{◌>>=◌}
use Rattle.text_scan.specs.Text.{Text}
use Rattle.wire_link.specs.Bytes.{number_bytes, read_number}
use Rattle.station_frames.specs.declared.frame.StationFrame.{StationFrame}
use Rattle.station_frames.specs.Bytes.{decoded, encoding}
use Rattle.station_text.specs.declared.commands.Command.{Command}
use Rattle.station_text.specs.declared.commands.Command.TheVariants as C
use Rattle.station_text.specs.declared.commands.CommandFault.{CommandFault}
use Rattle.station_text.specs.declared.commands.CommandFault.TheVariants as X
use Rattle.station_text.specs.Commands.{or_fault, then_of}

-- a piece with its length
abbrev pub piece_bytes : Text → Text
piece_bytes bs = number_bytes (length bs) ++ bs

-- the first bytes of a text, and those after them, if it has as many
abbrev pub cut_at : ℕ → Text → Option (Text × Text)
cut_at size t = if nat_le size (length t) then Some (take size t, drop size t) else None

-- the first piece of a text, and the text after it
abbrev pub first_piece : Text → Option (Text × Text)
first_piece t = read_number t >>= λ r. cut_at r.0 r.1

-- a number, if no byte is left
abbrev pub all_of : ℕ × Text → Option ℕ
all_of (n, []) = Some n
all_of (n, b ∷ bs) = None

abbrev pub number_piece : Text → Result ℕ CommandFault
number_piece bs = or_fault X.Number (read_number bs >>= all_of)

-- the run and the frame of at most 104 bytes
abbrev pub short_frame : Text → Result (ℕ × StationFrame) CommandFault
short_frame bs = if nat_lt 104 (length bs) then Err X.Frame else or_fault X.Frame (decoded bs)

abbrev pub from_piece : Text → Result Command CommandFault
from_piece bs = then_of (or_fault X.Number (read_number bs)) (λ r. then_of (short_frame r.1) (λ f. Ok (C.From r.0 f.0 f.1)))

-- the end has no bytes
abbrev pub stop_piece : Text → Result Command CommandFault
stop_piece [] = Ok C.Stop
stop_piece (b ∷ bs) = Err X.Form

abbrev pub kind_command : ℕ → Text → Result Command CommandFault
kind_command k bs =
    if k == 1 then then_of (number_piece bs) (λ n. Ok (C.Turns n))
    else (if k == 2 then then_of (number_piece bs) (λ b. Ok (C.Again b))
    else (if k == 3 then from_piece bs
    else (if k == 4 then stop_piece bs else Err X.Form)))

-- the command of a piece, or its first fault
abbrev pub piece_command : Text → Result Command CommandFault
piece_command [] = Err X.Form
piece_command (k ∷ bs) = kind_command k bs

-- the piece of a frame of this run for a neighbour
abbrev pub frame_piece : ℕ → ℕ → StationFrame → Text
frame_piece to run f = 2 ∷ (number_bytes to ++ encoding run f)

-- a text begins with a whole piece
abbrev pub IsFirstPiece : Text → Text → Text → Type 0
IsFirstPiece t bs rest = ◌≡◌ {A = Option (Text × Text)} (first_piece t) (Some (bs, rest))
