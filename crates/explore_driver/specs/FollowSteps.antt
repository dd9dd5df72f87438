-- How a stream that is followed comes to its end, below the top-level function.
use Rattle.std.specs.Prelude.{◌≡◌, List, ◌++◌, Option, Some, None, Bool}
use Rattle.text_scan.specs.Text.{Text}
use Rattle.pool_syntax.specs.Terms.{ProgramTree}
use Rattle.pool_outside.specs.Outside.{Rose}
use Rattle.pool_outside.specs.Reading.{AllRead, Reading}
use Rattle.pool_outside.specs.Writing.{IsIdle, Writing, Wrote, WroteFront}
use Rattle.run_record.specs.declared.fault.RecordFault.{RecordFault}
use Rattle.command_inputs.specs.declared.fault.Fault.{Fault}
use Rattle.command_inputs.specs.declared.fault.Fault.TheVariants as F
use Rattle.command_inputs.specs.declared.fault.Input.TheVariants as I
use Rattle.command_inputs.specs.declared.fault.InputError.TheVariants as T
use Rattle.record_writer.specs.WrittenText.{writes_text}
use Rattle.stream_check.specs.declared.judge.Judge.{Judge}
use Rattle.stream_check.specs.declared.judge.Stop.{Stop}
use Rattle.stream_check.specs.declared.judge.Stop.TheVariants as Why
use Rattle.stream_check.specs.FilledStream.{IsFollowedBy}
use Rattle.stream_check.specs.Progress.{HasRead}
use Rattle.stream_check.specs.Stream.{cut_off, stream_lines}
use Rattle.explore_driver.specs.declared.follow.Followed.{Followed}
use Rattle.explore_driver.specs.declared.follow.Followed.TheVariants as E
use Rattle.explore_driver.specs.Following.{HasCome, HasEnded, IsFrontOf, most_given}

-- the text for these bytes, while the judge goes on
abbrev pub so_far : List Text → Text → Text
so_far names s = writes_text names (stream_lines names s)

-- the end of the stream at which the judge stops, if it does
abbrev pub end_by : Option Stop → Option Followed
end_by None = None
end_by (Some (Why.Judged v)) = Some (E.Judged v)
end_by (Some (Why.Faulty f)) = Some (E.Stopped (T.Refused I.Record (F.Record f)))

-- what comes of a piece that the judge has read after the bytes s: nothing yet, and the judge goes on; or an end of the
-- stream
abbrev pub PieceEnds : Bool → ProgramTree → List Text → Text → Text → Writing → Judge → Option Followed → Type 0
PieceEnds fills p names s piece w judge None = (more : Text) × IsFollowedBy fills p names (s ++ piece) (so_far names s ++ more) None × Wrote w more × HasRead fills p names (s ++ piece) judge
PieceEnds fills p names s piece w judge (Some (E.Judged v)) = (more : Text) × IsFollowedBy fills p names (s ++ piece) (so_far names s ++ more) (Some (Why.Judged v)) × Wrote w more
PieceEnds fills p names s piece w judge (Some (E.Stopped (T.Refused i f))) =
    (g : RecordFault) × (more : Text) × (i ≡ I.Record) × (f ≡ F.Record g) × IsFollowedBy fills p names (s ++ piece) (so_far names s ++ more) (Some (Why.Faulty g)) × Wrote w more
PieceEnds fills p names s piece w judge (Some (E.Stopped (T.Unread i))) = ⊥
PieceEnds fills p names s piece w judge (Some (E.Stopped T.Memory)) = IsIdle w
PieceEnds fills p names s piece w judge (Some E.Unwritten) = (more : Text) × (stop : Option Stop) × IsFollowedBy fills p names (s ++ piece) (so_far names s ++ more) stop × WroteFront w more

-- why a stream is refused after the bytes s: a line has a fault, it ended before its end line, or it is too long
pub data Refuses (fills : Bool) (p : ProgramTree) (names : List Text) (stream_name : Text) (k : Reading) (s text : Text) (f : Fault) : Type 0 where
  faulty : (g : RecordFault) → f ≡ F.Record g → IsFollowedBy fills p names s text (Some (Why.Faulty g)) → HasCome k stream_name s → Refuses fills p names stream_name k s text f
  ended : f ≡ F.Record (cut_off (stream_lines names s)) → IsFollowedBy fills p names s text None → HasCome k stream_name s → HasEnded k stream_name s → Refuses fills p names stream_name k s text f
  too_long : f ≡ F.TooLong → IsFollowedBy fills p names s text None → HasCome k stream_name s → k.given ≡ most_given → Refuses fills p names stream_name k s text f

-- how the open stream of this name comes to its end
abbrev pub StreamEnds : Bool → ProgramTree → List Text → Text → Reading → Writing → Followed → Type 0
StreamEnds fills p names n k w (E.Judged v) = (s : Text) × (text : Text) × IsFollowedBy fills p names s text (Some (Why.Judged v)) × HasCome k n s × AllRead k × Wrote w text
StreamEnds fills p names n k w (E.Stopped (T.Refused i f)) = (s : Text) × (text : Text) × (i ≡ I.Record) × Refuses fills p names n k s text f × AllRead k × Wrote w text
StreamEnds fills p names n k w (E.Stopped (T.Unread i)) = (s : Text) × (text : Text) × (i ≡ I.Record) × IsFollowedBy fills p names s text None × HasCome k n s × Rose k.faults k.failed × Wrote w text
StreamEnds fills p names n k w (E.Stopped T.Memory) = (s : Text) × (text : Text) × (stop : Option Stop) × IsFollowedBy fills p names s text stop × IsFrontOf k n s × Wrote w text
StreamEnds fills p names n k w E.Unwritten = (s : Text) × (text : Text) × (stop : Option Stop) × IsFollowedBy fills p names s text stop × HasCome k n s × WroteFront w text
