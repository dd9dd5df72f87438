-- The possible results of making an output and of reporting an input error, below the top-level function.
use Rattle.std.specs.Prelude.{◌≡◌, Result, Ok, Err}
use Rattle.text_scan.specs.Text.{Text}
use Rattle.pool_outside.specs.Reading.{Reading}
use Rattle.command_inputs.specs.declared.fault.Input.{Input}
use Rattle.command_inputs.specs.declared.fault.Fault.{Fault}
use Rattle.command_inputs.specs.declared.fault.InputError.{InputError}
use Rattle.command_inputs.specs.declared.fault.InputError.TheVariants as T
use Rattle.command_inputs.specs.FaultText.{refusal_line, unread_line}
use Rattle.command_shell.specs.declared.status.Status.{Status}
use Rattle.command_shell.specs.declared.status.Status.TheVariants as S
use Rattle.command_shell.specs.Programs.{Program}
use Rattle.command_shell.specs.Ends.{IsAnswered, IsRefused, IsUnmade, IsUnread}
use Rattle.command_shell.specs.Writing.{Writing, IsIdle, Writes}

-- The results for the inputs of a request. An output has a text and a status, and can be written.
pub data ResultsIn (P : Program) {A : Type 0} (text_of : A → Text) (status_of : A → Status) (IsWritable : A → Type 0) (k : Reading) (r : P.Request) (result : Result A InputError) : Type 0 where
  made : (o : A) → result ≡ Ok o → IsAnswered P k r (text_of o) (status_of o) → IsWritable o → ResultsIn P text_of status_of IsWritable k r result
  refused : (input : Input) (f : Fault) → result ≡ Err (T.Refused input f) → IsRefused P k r input f → ResultsIn P text_of status_of IsWritable k r result
  unmade : (input : Input) (f : Fault) → result ≡ Err (T.Refused input f) → IsUnmade P k r input f → ResultsIn P text_of status_of IsWritable k r result
  unread : (input : Input) → result ≡ Err (T.Unread input) → IsUnread P k r input → ResultsIn P text_of status_of IsWritable k r result
  memory : result ≡ Err T.Memory → ResultsIn P text_of status_of IsWritable k r result

-- a line with the reason was written, or a prefix of it; or memory ran out and nothing was written
pub data ReportsInputError (k : Writing) (stop : InputError) (status : Status) : Type 0 where
  refusal : (input : Input) (f : Fault) → stop ≡ T.Refused input f → Writes k (refusal_line input f) S.Refused status → ReportsInputError k stop status
  unread : (input : Input) → stop ≡ T.Unread input → Writes k (unread_line input) S.ReadFault status → ReportsInputError k stop status
  memory : status ≡ S.Memory → IsIdle k → ReportsInputError k stop status
