-- Rows worked out by hand: lines that are commands, and lines with a fault.
use Rattle.std.proofs.Common.{◌≡◌, refl, [], ◌∷◌, Some, None, true}
use Rattle.std.specs.Fmt.{digits}
use Rattle.std.specs.Prelude.{Ok, Err, codes}
use Rattle.record_parser.specs.Fields.{fields}
use Rattle.run_types.specs.declared.types.Event.TheVariants as E
use Rattle.run_types.specs.declared.types.FullKind.TheVariants as K
use Rattle.run_types.specs.declared.types.What.TheVariants as W
use Rattle.station_frames.specs.declared.frame.StationFrame.TheVariants as S
use Rattle.station_text.specs.declared.commands.Command.TheVariants as C
use Rattle.station_text.specs.declared.commands.CommandFault.TheVariants as X
use Rattle.station_text.specs.AnswerText.{frame_line, full_line, last_line, log_line}
use Rattle.station_text.specs.Commands.{command_in}
use Rattle.station_text.specs.Pieces.{frame_piece, piece_bytes, piece_command}

turns : command_in (fields (codes "turn 64")) ≡ Ok (C.Turns 64)
unfolding digits
turns = refl

again : command_in (fields (codes "send 3")) ≡ Ok (C.Again 3)
unfolding digits
again = refl

stop : command_in (fields (codes "stop")) ≡ Ok C.Stop
stop = refl

frame : command_in (fields (codes "from 1 00000007000000010200000002")) ≡ Ok (C.From 1 7 (S.Ack 4294967298))
unfolding digits
frame = refl

no_word : command_in (fields (codes "go 1")) ≡ Err X.Form
no_word = refl

too_many_words : command_in (fields (codes "turn 1 2")) ≡ Err X.Form
too_many_words = refl

a_leading_zero : command_in (fields (codes "turn 01")) ≡ Err X.Number
unfolding digits
a_leading_zero = refl

half_a_byte : command_in (fields (codes "from 1 0000000700000001020000000")) ≡ Err X.Digits
unfolding digits
half_a_byte = refl

a_capital_digit : command_in (fields (codes "from 1 0A")) ≡ Err X.Digits
unfolding digits
a_capital_digit = refl

no_frame : command_in (fields (codes "from 1 0000000700000001030000000a")) ≡ Err X.Frame
unfolding digits
no_frame = refl

a_frame_goes : frame_line 2 7 (S.Ack 4294967298) ≡ codes "to 2 00000007000000010200000002\n"
unfolding digits
a_frame_goes = refl

a_pass : log_line [] (E.Link 0 1) W.Pass (Some 2) ≡ codes "log 2 link 0 1 pass\n"
unfolding digits
a_pass = refl

nothing_is_put : log_line [] (E.Link 0 1) (W.Created 65536 3) None ≡ codes "log - link 0 1 created 1.0 0.3\n"
unfolding digits
nothing_is_put = refl

a_limit : full_line K.Cells ≡ codes "full cells\n"
a_limit = refl

last_words : last_line true ((1, 4) ∷ (4, 0) ∷ []) ((1, 4294967296) ∷ []) ≡ codes "end idle put 1 4 put 4 0 handed 1 4294967296\n"
unfolding digits
last_words = refl

a_piece_of_turns : piece_command (1 ∷ 0 ∷ 0 ∷ 1 ∷ 0 ∷ []) ≡ Ok (C.Turns 256)
a_piece_of_turns = refl

a_piece_of_a_frame : piece_command (3 ∷ 0 ∷ 0 ∷ 0 ∷ 1 ∷ 0 ∷ 0 ∷ 0 ∷ 7 ∷ 0 ∷ 0 ∷ 0 ∷ 1 ∷ 2 ∷ 0 ∷ 0 ∷ 0 ∷ 2 ∷ []) ≡ Ok (C.From 1 7 (S.Ack 4294967298))
a_piece_of_a_frame = refl

a_piece_with_half_a_number : piece_command (2 ∷ 0 ∷ 0 ∷ 1 ∷ []) ≡ Err X.Number
a_piece_with_half_a_number = refl

an_end_with_more : piece_command (4 ∷ 0 ∷ []) ≡ Err X.Form
an_end_with_more = refl

no_kind : piece_command (5 ∷ []) ≡ Err X.Form
no_kind = refl

a_piece_that_goes : piece_bytes (frame_piece 2 7 (S.Ack 4294967298)) ≡ 0 ∷ 0 ∷ 0 ∷ 18 ∷ 2 ∷ 0 ∷ 0 ∷ 0 ∷ 2 ∷ 0 ∷ 0 ∷ 0 ∷ 7 ∷ 0 ∷ 0 ∷ 0 ∷ 1 ∷ 2 ∷ 0 ∷ 0 ∷ 0 ∷ 2 ∷ []
a_piece_that_goes = refl
