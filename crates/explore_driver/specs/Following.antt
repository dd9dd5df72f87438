-- How a call ends that follows a stream: what was read of it, and what was written.
use Rattle.std.specs.Prelude.{◌≡◌, ℕ, ◌+◌, ◌-◌, ◌^◌, List, [], ◌++◌, length, min, Option, Some, None, Bool, true, false, IfSome}
use Rattle.std.specs.List.{list_any}
use Rattle.text_scan.specs.Text.{Text}
use Rattle.pool_syntax.specs.Terms.{ProgramTree}
use Rattle.pool_syntax.specs.Typing.{faults}
use Rattle.pool_outside.specs.Outside.{Rose}
use Rattle.pool_outside.specs.Reading.{AllRead, Reading}
use Rattle.pool_outside.specs.Writing.{IsIdle, Writing, Wrote, WroteFront}
use Rattle.run_record.specs.Records.{is_end}
use Rattle.run_record.specs.declared.fault.RecordFault.{RecordFault}
use Rattle.run_types.specs.declared.verdicts.Verdict.{Verdict}
use Rattle.command_inputs.specs.declared.fault.Fault.TheVariants as F
use Rattle.command_inputs.specs.declared.fault.Input.TheVariants as I
use Rattle.command_inputs.specs.FaultText.{refusal_line, unread_line}
use Rattle.command_inputs.specs.Inputs.{IsReadAs}
use Rattle.command_inputs.specs.Programs.{IsParsed}
use Rattle.command_shell.specs.declared.status.Status.{Status}
use Rattle.command_shell.specs.declared.status.Status.TheVariants as S
use Rattle.command_shell.specs.Verdicts.{status_of_verdict}
use Rattle.stream_check.specs.declared.judge.Stop.{Stop}
use Rattle.stream_check.specs.declared.judge.Stop.TheVariants as Why
use Rattle.stream_check.specs.FilledStream.{IsFollowedBy}
use Rattle.stream_check.specs.Stream.{cut_off, stream_fault, stream_lines, stream_rows}

-- the stream has an end line, and no fault before it
abbrev pub IsWholeStream : Text → Type 0
IsWholeStream s = (stream_fault s ≡ None) × (list_any (λ t. is_end t.line) (stream_rows s).told ≡ true)

-- the count of the bytes that were given stops here
abbrev pub most_given : ℕ
most_given = 2 ^ 64 - 1

-- if the text of the stream is known, these are its first bytes
abbrev pub IsFrontOf : Reading → Text → Text → Type 0
IsFrontOf k stream_name s = IfSome (k.told stream_name) (λ t. (rest : Text) × (t ≡ s ++ rest))

-- These bytes are what the stream has given. If its text is known, they are the first bytes of it.
pub record HasCome (k : Reading) (stream_name s : Text) : Type 0 where
  pub front : IsFrontOf k stream_name s
  pub given : k.given ≡ min (length s) most_given

-- The program was read and is one without class faults, and the stream was opened after it. The text is what the judge
-- writes after these bytes of the stream; if it fills in local transitions, for the lines with those filled in.
pub record HasJudged (fills : Bool) (name : Text) (k : Reading) (s text : Text) (stop : Option Stop) : Type 0 where
  pub source : Text
  pub read : IsReadAs k.told I.Program name source
  pub names : List Text
  pub program : ProgramTree
  pub parsed : IsParsed source names program
  pub typed : faults program ≡ []
  pub opened : k.opened ≡ k.opens + 2
  pub follows : IsFollowedBy fills program names s text stop

-- the stream has come to its end, and these bytes are all
pub record HasEnded (k : Reading) (stream_name s : Text) : Type 0 where
  pub ended : k.live ≡ false
  pub whole : IfSome (k.told stream_name) (λ t. t ≡ s)
  pub calm : AllRead k

-- A line for the error sink, after these bytes and this text: a line has a fault; the stream ended before its end line;
-- it gave more bytes than are counted; or the open or a read failed.
pub data Tells (fills : Bool) (name stream_name : Text) (k : Reading) (s text line : Text) (status : Status) : Type 0 where
  faulty : (f : RecordFault) → HasJudged fills name k s text (Some (Why.Faulty f)) → HasCome k stream_name s → AllRead k → line ≡ refusal_line I.Record (F.Record f) → status ≡ S.Refused → Tells fills name stream_name k s text line status
  ended : (j : HasJudged fills name k s text None) → HasCome k stream_name s → HasEnded k stream_name s → line ≡ refusal_line I.Record (F.Record (cut_off (stream_lines j.names s))) → status ≡ S.Refused → Tells fills name stream_name k s text line status
  too_long : HasJudged fills name k s text None → HasCome k stream_name s → k.given ≡ most_given → AllRead k → line ≡ refusal_line I.Record F.TooLong → status ≡ S.Refused → Tells fills name stream_name k s text line status
  unread : HasJudged fills name k s text None → HasCome k stream_name s → Rose k.faults k.failed → line ≡ unread_line I.Record → status ≡ S.ReadFault → Tells fills name stream_name k s text line status

-- How the call ends. The text on `out` is what the judge writes after the bytes that were read, and the status is that
-- of the verdict. Or a line on `err` says why there is none. Or a write failed, and `out` or `err` has a proper prefix
-- of its text. Or memory ran out, and `out` has what the judge writes after some first bytes.
pub data EndsFollowing (fills : Bool) (name stream_name : Text) (k : Reading) (out err : Writing) (status : Status) : Type 0 where
  judged : (s text : Text) (v : Verdict) → HasJudged fills name k s text (Some (Why.Judged v)) → HasCome k stream_name s → AllRead k → Wrote out text → IsIdle err → status ≡ status_of_verdict v → EndsFollowing fills name stream_name k out err status
  told : (s text line : Text) → Tells fills name stream_name k s text line status → Wrote out text → Wrote err line → EndsFollowing fills name stream_name k out err status
  line_cut : (s text line : Text) (planned : Status) → Tells fills name stream_name k s text line planned → Wrote out text → WroteFront err line → status ≡ S.WriteFault → EndsFollowing fills name stream_name k out err status
  cut : (s text : Text) (stop : Option Stop) → HasJudged fills name k s text stop → HasCome k stream_name s → WroteFront out text → IsIdle err → status ≡ S.WriteFault → EndsFollowing fills name stream_name k out err status
  memory : (s text : Text) (stop : Option Stop) → HasJudged fills name k s text stop → IsFrontOf k stream_name s → Wrote out text → IsIdle err → status ≡ S.Memory → EndsFollowing fills name stream_name k out err status
