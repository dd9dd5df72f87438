-- What the judge of a stream has written after some bytes of it, and why it stopped, if it did.
use Rattle.std.specs.Prelude.{◌≡◌, List, [], ◌∷◌, ◌++◌, Option, Some, None, true, false}
use Rattle.text_scan.specs.Text.{Text}
use Rattle.run_types.specs.declared.types.End.{End}
use Rattle.run_types.specs.declared.types.Label.{Label}
use Rattle.run_types.specs.declared.types.Line.{Line}
use Rattle.run_types.specs.declared.types.Line.TheVariants as R
use Rattle.run_types.specs.declared.verdicts.Verdict.{Verdict}
use Rattle.run_types.specs.declared.verdicts.Verdict.TheVariants as V
use Rattle.pool_syntax.specs.Terms.{ProgramTree}
use Rattle.pool_relation.specs.Configuration.{Configuration}
use Rattle.pool_relation.specs.Progress.{agent}
use Rattle.pool_semantics.specs.Shown.{Shows}
use Rattle.record_writer.specs.WrittenText.{writes_text}
use Rattle.record_check.specs.RecordJudgement.{IsRunOf, LeadsTo, StillMoves, StopsAt}
use Rattle.record_check.specs.VerdictText.{verdict_text}
use Rattle.stream_check.specs.declared.judge.Stop.{Stop}
use Rattle.stream_check.specs.declared.judge.Stop.TheVariants as S
use Rattle.stream_check.specs.Stream.{has_end, stream_fault, stream_lines}

-- the lines lead from the start of the program to a configuration
abbrev pub IsFront : ProgramTree → List Line → Type 0
IsFront p ls = (d : Configuration) × LeadsTo p ls d

-- the lines are an end line after others
pub record EndsWith (ls : List Line) (before : List Line) : Type 0 where
  pub end : End
  pub whole : ls ≡ before ++ R.End end ∷ []

-- The text for a verdict on the lines of a stream. After `yes` it is what `run` writes. If a line is impossible, it is
-- what the lines before this one write, and the verdict; and if an object can still move after a quiet end, too.
abbrev pub IsJudged : ProgramTree → List Text → List Line → Text → Verdict → Type 0
IsJudged p names ls text V.Yes = IsRunOf p ls × (has_end ls ≡ true) × (text ≡ writes_text names ls)
IsJudged p names ls text (V.No number redex) =
    (d : Configuration) × (lab : Label) × (stop : StopsAt p ls number d lab) × Shows p d (agent lab) redex
    × (text ≡ writes_text names stop.before ++ verdict_text names (V.No number redex))
IsJudged p names ls text (V.Moving o) =
    StillMoves p ls o × ((before : List Line) × EndsWith ls before × (text ≡ writes_text names before ++ verdict_text names (V.Moving o)))

-- The text for the bytes s of a stream. Before the judge stops, all lines are possible, and the text is what they
-- write.
abbrev pub IsFollowed : ProgramTree → List Text → Text → Text → Option Stop → Type 0
IsFollowed p names s text None = (stream_fault s ≡ None) × (has_end (stream_lines names s) ≡ false) × IsFront p (stream_lines names s) × (text ≡ writes_text names (stream_lines names s))
IsFollowed p names s text (Some (S.Faulty f)) = (stream_fault s ≡ Some f) × IsFront p (stream_lines names s) × (text ≡ writes_text names (stream_lines names s))
IsFollowed p names s text (Some (S.Judged v)) = IsJudged p names (stream_lines names s) text v
