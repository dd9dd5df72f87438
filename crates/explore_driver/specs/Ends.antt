-- How a call of `explore` ends: by the definition for programs, or in one of the ways of a stream that is followed.
use Rattle.std.specs.Prelude.{◌≡◌, ◌⊎◌, ◌<◌, List, [], ◌∷◌, length, Option, Some, None, Bool}
use Rattle.text_scan.specs.Text.{Text}
use Rattle.command_inputs.specs.declared.fault.Input.{Input}
use Rattle.command_inputs.specs.declared.fault.Input.TheVariants as I
use Rattle.command_inputs.specs.declared.fault.Fault.{Fault}
use Rattle.command_inputs.specs.Programs.{HasTypedFault, IsTypedProgram}
use Rattle.command_inputs.specs.declared.fault.Fault.TheVariants as F
use Rattle.run_record.specs.Records.{record_of}
use Rattle.command_shell.specs.declared.status.Status.{Status}
use Rattle.command_shell.specs.Programs.{AreServed, Program}
use Rattle.command_shell.specs.Ends as Shell
use Rattle.pool_outside.specs.Reading.{Reading, Told}
use Rattle.pool_outside.specs.Writing.{Writing}
use Rattle.explore_driver.specs.Following.{EndsFollowing, IsWholeStream, most_given}
use Rattle.explore_driver.specs.Outputs.{IsOutput}
use Rattle.explore_driver.specs.Unexpected.{usage_line, usage_text}
use Rattle.explore_driver.specs.Words.{Request, of_fill, of_follow, of_search, of_watch}

-- the inputs of a command with the names of their files, in the order of reading
abbrev pub inputs : Request → List (Input × Text)
inputs (of_search question name) = (I.Program, name) ∷ []
inputs (of_watch shown name record_name) = (I.Program, name) ∷ (I.Record, record_name) ∷ []
inputs (of_fill name record_name) = (I.Program, name) ∷ (I.Record, record_name) ∷ []
inputs (of_follow fills name stream_name) = (I.Program, name) ∷ []

-- the files that a command opens, in order: its inputs, and a stream, which has no limit
abbrev pub files_of : Request → List (Input × Text)
files_of (of_follow fills name stream_name) = (I.Program, name) ∷ (I.Record, stream_name) ∷ []
files_of r = inputs r

-- the text is accepted as this input, given the texts of the inputs before it
abbrev pub IsAccepted : List Text → Input → Text → Type 0
IsAccepted [] I.Program s = IsTypedProgram s
IsAccepted (source ∷ []) I.Record s = (record_of s).fault ≡ None
IsAccepted _ _ s = ⊥

-- the text has this fault as this input, given the texts of the inputs before it
abbrev pub HasFault : List Text → Input → Text → Fault → Type 0
HasFault [] I.Program s fault = HasTypedFault s fault
HasFault (source ∷ []) I.Record s (F.Record fault) = (record_of s).fault ≡ Some fault
HasFault _ _ s fault = ⊥

-- the program `explore`, which says this where the arguments are not a command; it makes no text of an input itself
abbrev pub program_saying : Text → Program
program_saying usage = record {
  Request = Request;
  inputs = inputs;
  IsAccepted = IsAccepted;
  HasFault = HasFault;
  IsUnfit = λ r input fault. ⊥;
  IsOutput = IsOutput;
  usage = usage;
}

-- the program where no word of the arguments is named
abbrev pub explore_program : Program
explore_program = program_saying usage_line

-- the call followed a stream
pub record HasFollowed (words : Option Request) (files : Reading) (out err : Writing) (status : Status) : Type 0 where
  pub fills : Bool
  pub name : Text
  pub stream_name : Text
  pub asked : words ≡ Some (of_follow fills name stream_name)
  pub ends : EndsFollowing fills name stream_name files out err status

abbrev pub Ends : Option Request → Reading → Writing → Writing → Status → Type 0
Ends words files out err status = Shell.Ends explore_program words files out err status ⊎ HasFollowed words files out err status

-- A call with these arguments, which are this command. If they are none, the usage text names the first of them that fits
-- nowhere, if there is one.
abbrev pub EndsOf : List Text → Option Request → Reading → Writing → Writing → Status → Type 0
EndsOf ws None files out err status = Shell.Ends (program_saying (usage_text ws)) None files out err status
EndsOf ws (Some r) files out err status = Ends (Some r) files out err status

-- a stream that is followed has fewer bytes than are counted, an end line, and no fault before it
abbrev pub IsStreamServed : Told → Request → Type 0
IsStreamServed told (of_follow fills name stream_name) = (s : Text) × (told stream_name ≡ Some s) × (length s < most_given) × IsWholeStream s
IsStreamServed told r = Unit {0}

-- all inputs of the command are accepted
abbrev pub IsServable : Told → Request → Type 0
IsServable told r = AreServed IsAccepted told [] (inputs r) × IsStreamServed told r
