-- What the judge of a stream has written after some bytes of it, if it fills in local transitions; and why it stopped,
-- if it did.
use Rattle.std.specs.Prelude.{◌≡◌, List, Option, Some, None, Bool, true, false}
use Rattle.text_scan.specs.Text.{Text}
use Rattle.run_types.specs.declared.types.Line.{Line}
use Rattle.pool_syntax.specs.Terms.{ProgramTree}
use Rattle.record_writer.specs.WrittenText.{writes_text}
use Rattle.stream_check.specs.declared.judge.Stop.{Stop}
use Rattle.stream_check.specs.declared.judge.Stop.TheVariants as S
use Rattle.stream_check.specs.Filled.{IsFilled, IsSame}
use Rattle.stream_check.specs.Followed.{IsFollowed, IsFront, IsJudged}
use Rattle.stream_check.specs.Stream.{has_end, stream_fault, stream_lines}

-- the lines with local transitions filled in lead from the start of the program to a configuration
abbrev pub IsFilledFront : ProgramTree → List Line → Type 0
IsFilledFront p ls = (fs : List Line) × IsSame ls fs × IsFront p fs

-- The text for the bytes s of a stream. Before the judge stops, it is what the lines write. A verdict is that on the
-- lines with local transitions filled in, and the text is that for these lines.
abbrev pub IsFilledStream : ProgramTree → List Text → Text → Text → Option Stop → Type 0
IsFilledStream p names s text None = (stream_fault s ≡ None) × (has_end (stream_lines names s) ≡ false) × IsFilledFront p (stream_lines names s) × (text ≡ writes_text names (stream_lines names s))
IsFilledStream p names s text (Some (S.Faulty f)) = (stream_fault s ≡ Some f) × IsFilledFront p (stream_lines names s) × (text ≡ writes_text names (stream_lines names s))
IsFilledStream p names s text (Some (S.Judged v)) = (fs : List Line) × IsFilled p (stream_lines names s) fs v × IsJudged p names fs text v

-- the same for a judge that fills in local transitions, or does not
abbrev pub IsFollowedBy : Bool → ProgramTree → List Text → Text → Text → Option Stop → Type 0
IsFollowedBy true p names s text stop = IsFilledStream p names s text stop
IsFollowedBy false p names s text stop = IsFollowed p names s text stop
