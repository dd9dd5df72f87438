-- How a call of a program ends: the state of its inputs, and the text on its two sinks.
use Rattle.std.specs.Prelude.{◌≡◌, ℕ, ◌+◌, ◌≤◌, List, [], ◌∷◌, ◌++◌, length, slice_get, Option, Some, None, false, ◌⊎◌}
use Rattle.pool_outside.specs.Outside.{Rose}
use Rattle.text_scan.specs.Text.{Text}
use Rattle.pool_outside.specs.Reading.{Reading, AllRead}
use Rattle.pool_outside.specs.Writing.{Writing, IsIdle, Wrote, WroteFront}
use Rattle.command_inputs.specs.declared.fault.Input.{Input}
use Rattle.command_inputs.specs.declared.fault.Fault.{Fault}
use Rattle.command_inputs.specs.FaultText.{refusal_line, unread_line}
use Rattle.command_inputs.specs.Inputs.{limit_of, one_read, Stops}
use Rattle.command_shell.specs.declared.status.Status.{Status}
use Rattle.command_shell.specs.declared.status.Status.TheVariants as S
use Rattle.command_shell.specs.Programs.{Program, WereAccepted}

-- The input that was opened last has given at most its limit and
-- one read. It has this place among the inputs of the request.
abbrev pub StaysWithin : Reading → List (Input × Text) → Type 0
StaysWithin k inputs =
    (place : ℕ) (input : Input) (name : Text) → slice_get inputs place ≡ Some (input, name) → k.opened ≡ k.opens + (place + 1) → k.given ≤ limit_of input + one_read

-- The inputs of the request up to this one were opened, each
-- once and in order. Those before it were read and are accepted.
pub record Reaches (P : Program) (k : Reading) (r : P.Request) (input : Input) (name : Text) : Type 0 where
  pub before : List (Input × Text)
  pub behind : List (Input × Text)
  pub texts : List Text
  pub place : P.inputs r ≡ before ++ (input, name) ∷ behind
  pub accepted : WereAccepted P.IsAccepted k.told [] before texts
  pub opened : k.opened ≡ k.opens + (length before + 1)

-- this is the first input that is not accepted; it has this fault, and no read failed
pub record IsRefused (P : Program) (k : Reading) (r : P.Request) (input : Input) (fault : Fault) : Type 0 where
  pub name : Text
  pub reached : Reaches P k r input name
  pub why : Stops k input name (P.IsAccepted reached.texts input) (P.HasFault reached.texts input) fault
  pub calm : AllRead k

-- nothing was opened; a text that the program made for the request is not accepted, and has this fault
pub record IsUnmade (P : Program) (k : Reading) (r : P.Request) (input : Input) (fault : Fault) : Type 0 where
  pub why : P.IsUnfit r input fault
  pub opened : k.opened ≡ k.opens
  pub calm : AllRead k

-- a read of this input failed, after at most its limit was given
pub record IsUnread (P : Program) (k : Reading) (r : P.Request) (input : Input) : Type 0 where
  pub name : Text
  pub reached : Reaches P k r input name
  pub rose : Rose k.faults k.failed
  pub within : k.given ≤ limit_of input

-- the length of the last text
abbrev pub last_length : List Text → ℕ
last_length [] = 0
last_length (s ∷ []) = length s
last_length (s ∷ t ∷ ts) = last_length (t ∷ ts)

-- the number of bytes that were given since the last open, if there was one
abbrev pub HasGiven : List Text → ℕ → Type 0
HasGiven [] given = Unit {0}
HasGiven (s ∷ ss) given = last_length (s ∷ ss) ≡ given

-- All inputs of the request were opened, each once and in order,
-- and read to their ends. No read failed, and each is accepted.
-- The text is the output of the request.
pub record IsAnswered (P : Program) (k : Reading) (r : P.Request) (text : Text) (status : Status) : Type 0 where
  pub texts : List Text
  pub accepted : WereAccepted P.IsAccepted k.told [] (P.inputs r) texts
  pub opened : k.opened ≡ k.opens + length (P.inputs r)
  pub given : HasGiven texts k.given
  pub ended : k.live ≡ false
  pub calm : AllRead k
  pub output : P.IsOutput r texts text status

-- the arguments are not a command, and nothing was opened
pub record IsNoCommand (P : Program) (k : Reading) (words : Option P.Request) : Type 0 where
  pub none : words ≡ None
  pub opened : k.opened ≡ k.opens
  pub calm : AllRead k

-- A line for the error sink, its cause, and the status with which it is written.
pub data Says (P : Program) (k : Reading) (words : Option P.Request) (line : Text) (status : Status) : Type 0 where
  usage : IsNoCommand P k words → line ≡ P.usage → status ≡ S.Usage → Says P k words line status
  refusal : (r : P.Request) (input : Input) (fault : Fault) → words ≡ Some r → IsRefused P k r input fault → line ≡ refusal_line input fault → status ≡ S.Refused → Says P k words line status
  unmade : (r : P.Request) (input : Input) (fault : Fault) → words ≡ Some r → IsUnmade P k r input fault → line ≡ refusal_line input fault → status ≡ S.Refused → Says P k words line status
  unread : (r : P.Request) (input : Input) → words ≡ Some r → IsUnread P k r input → line ≡ unread_line input → status ≡ S.ReadFault → Says P k words line status

-- How a call ends. Either the output was written whole, or a line was written to the error sink and no output.
-- Or a failed write cut one of the two off.
-- Or memory ran out before anything was written; reading the arguments takes memory too.
pub data Ends (P : Program) (words : Option P.Request) (files : Reading) (out err : Writing) (status : Status) : Type 0 where
  whole : (r : P.Request) (text : Text) → words ≡ Some r → IsAnswered P files r text status → Wrote out text → IsIdle err → Ends P words files out err status
  said : (line : Text) → Says P files words line status → Wrote err line → IsIdle out → Ends P words files out err status
  cut : (r : P.Request) (text : Text) (planned : Status) → words ≡ Some r → IsAnswered P files r text planned → WroteFront out text → IsIdle err → status ≡ S.WriteFault → Ends P words files out err status
  line_cut : (line : Text) (planned : Status) → Says P files words line planned → WroteFront err line → IsIdle out → status ≡ S.WriteFault → Ends P words files out err status
  no_memory : IsIdle out → IsIdle err → status ≡ S.Memory → Ends P words files out err status

-- the status says that the whole output was written
abbrev pub WholeTextWritten : Status → Type 0
WholeTextWritten status = (status ≡ S.Done) ⊎ ((status ≡ S.DoneFaulted) ⊎ ((status ≡ S.ScheduleOver) ⊎ (status ≡ S.Full)))
