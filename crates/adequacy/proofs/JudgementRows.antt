-- Readings of a text of one byte that begins no token, and of one that is too long.
use Rattle.std.proofs.Common.{refl, [], ◌∷◌, inl, Some, None, true, false, arith}
use Rattle.pool_syntax.specs.declared.token.LexFault.TheVariants.{BadByte}
use Rattle.command_inputs.specs.declared.fault.Fault.TheVariants as F
use Rattle.text_scan.specs.Text.{Text}
use Rattle.pool_outside.specs.Reading.{Reading}
use Rattle.command_inputs.specs.Inputs.{too_long, faulty}
use Rattle.command_inputs.specs.Programs.{HasTypedFault, IsTypedProgram}
use Rattle.pool_lexer.proofs.Laws.{not_both}
use Rattle.adequacy.specs.Judgement.{IsJudged, Refused, Unread}

abbrev name : Text
name = 112 ∷ []

-- `@`
abbrev text : Text
text = 64 ∷ []

abbrev whole : Reading
whole = record { told = λ n. Some text; opens = 0; opened = 1; given = 1; live = false; faults = 0; failed = 0 }

bad_byte : HasTypedFault text (F.Lex (BadByte 0))
bad_byte = inl ([], text, refl, tt, refl)

no_program : IsTypedProgram text → ⊥
no_program w = not_both text w.1.0.0 w.1.0.1.0 (BadByte 0) w.1.0.1.1 ([], text, refl, tt, refl)

refused : IsJudged whole name (Refused (F.Lex (BadByte 0)))
refused = (faulty text ((refl, omega arith), refl, refl) bad_byte no_program, refl)

-- more bytes than the limit were given, and the text goes on
long : IsJudged (record { told = λ n. None; opens = 0; opened = 1; given = 1048577; live = true; faults = 0; failed = 0 }) name (Refused F.TooLong)
long = (too_long refl (omega arith) refl tt, refl)

unread : IsJudged (record { told = λ n. None; opens = 0; opened = 1; given = 7; live = true; faults = 0; failed = 1 }) name Unread
unread = (inl (omega arith), omega arith)
