-- The lines that a station reads: turns, a call to send again, a frame from a neighbour, and the end. A line without
-- such a form has a fault: the first of its words that is wrong.
use Rattle.std.specs.Prelude.{ℕ, List, [], ◌∷◌, Option, Some, None, Result, Ok, Err, if◌then◌else◌, bytes_eq, codes}
use Rattle.text_scan.specs.Text.{Text}
use Rattle.record_parser.specs.Fields.{count_of}
use Rattle.station_frames.specs.declared.frame.StationFrame.{StationFrame}
use Rattle.station_frames.specs.Bytes.{decoded}
use Rattle.station_text.specs.declared.commands.Command.{Command}
use Rattle.station_text.specs.declared.commands.Command.TheVariants as C
use Rattle.station_text.specs.declared.commands.CommandFault.{CommandFault}
use Rattle.station_text.specs.declared.commands.CommandFault.TheVariants as X
use Rattle.station_text.specs.Digits.{frame_bytes}

-- the value, or this fault
abbrev pub or_fault : {V : Type 0} → CommandFault → Option V → Result V CommandFault
or_fault fault None = Err fault
or_fault fault (Some v) = Ok v

-- what comes of a value without a fault
abbrev pub then_of : {V W : Type 0} → Result V CommandFault → (V → Result W CommandFault) → Result W CommandFault
then_of (Err fault) next = Err fault
then_of (Ok v) next = next v

abbrev pub number_or : Text → Result ℕ CommandFault
number_or w = or_fault X.Number (count_of w)

-- the run and the frame that digits spell
abbrev pub frame_or : Text → Result (ℕ × StationFrame) CommandFault
frame_or w = then_of (or_fault X.Digits (frame_bytes w)) (λ bytes. or_fault X.Frame (decoded bytes))

abbrev pub from_of : Text → Text → Result Command CommandFault
from_of a w = then_of (number_or a) (λ from. then_of (frame_or w) (λ f. Ok (C.From from f.0 f.1)))

abbrev pub two_words : Text → Text → Result Command CommandFault
two_words w x =
    if bytes_eq w (codes "turn") then then_of (number_or x) (λ k. Ok (C.Turns k))
    else (if bytes_eq w (codes "send") then then_of (number_or x) (λ b. Ok (C.Again b)) else Err X.Form)

abbrev pub three_words : Text → Text → Text → Result Command CommandFault
three_words w x y = if bytes_eq w (codes "from") then from_of x y else Err X.Form

-- the command of these words, or their first fault
abbrev pub command_in : List Text → Result Command CommandFault
command_in [] = Err X.Form
command_in (w ∷ []) = if bytes_eq w (codes "stop") then Ok C.Stop else Err X.Form
command_in (w ∷ x ∷ []) = two_words w x
command_in (w ∷ x ∷ y ∷ []) = three_words w x y
command_in (w ∷ x ∷ y ∷ z ∷ rest) = Err X.Form
