-- The judgement on a program that was read under a name: accepted, rejected for a fault, or not read.
use Rattle.std.specs.Prelude.{◌≡◌, ◌≤◌, Result, Ok, Err}
use Rattle.pool_outside.specs.Outside.{Rose}
use Rattle.text_scan.specs.Text.{Text}
use Rattle.command_inputs.specs.declared.fault.Input.TheVariants as I
use Rattle.command_inputs.specs.declared.fault.Fault.{Fault}
use Rattle.command_inputs.specs.declared.fault.InputError.{InputError}
use Rattle.command_inputs.specs.declared.fault.InputError.TheVariants as T
use Rattle.pool_outside.specs.Reading.{AllRead, Reading}
use Rattle.command_inputs.specs.Inputs.{limit_of, Stops, WasRead}
use Rattle.command_inputs.specs.Readers.{IsTypedProgramOf}
use Rattle.command_inputs.specs.Programs.{HasTypedFault, IsTypedProgram}
use Rattle.command_inputs.specs.declared.program.Parsed.{Parsed}

pub data Judgement : Type 0 where
  -- read completely as this text, and accepted
  Accepted : (s : Text) → Judgement
  -- rejected for this fault: it is too long, or it was read completely and has the fault
  Refused : (fault : Fault) → Judgement
  -- a read failed
  Unread : Judgement

-- the judgement on the input of this name, by what was read last
abbrev pub IsJudged : Reading → (name : Text) → Judgement → Type 0
IsJudged k name (Accepted s) = WasRead k I.Program name s × IsTypedProgram s × AllRead k
IsJudged k name (Refused f) = Stops k I.Program name IsTypedProgram HasTypedFault f × AllRead k
IsJudged k name Unread = Rose k.faults k.failed × (k.given ≤ limit_of I.Program)

-- the answer that corresponds to the judgement
abbrev pub AnswerOf : Judgement → Result Parsed InputError → Type 0
AnswerOf (Accepted s) answer = (parsed : Parsed) × (answer ≡ Ok parsed) × IsTypedProgramOf s parsed
AnswerOf (Refused f) answer = answer ≡ Err (T.Refused I.Program f)
AnswerOf Unread answer = answer ≡ Err (T.Unread I.Program)
