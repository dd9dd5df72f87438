-- The text that shows a record as a run of a program: the run or some lines of it, who waits at its end, and the
-- verdict.
use Rattle.std.specs.Prelude.{◌≡◌, ℕ, ◌-◌, List, [], ◌∷◌, ◌++◌, take, drop, Option, Some, None, false, codes}
use Rattle.text_scan.specs.Text.{Text}
use Rattle.run_types.specs.declared.types.Line.{Line}
use Rattle.run_types.specs.declared.verdicts.Verdict.{Verdict}
use Rattle.pool_syntax.specs.Terms.{ProgramTree}
use Rattle.pool_relation.specs.Configuration.{Configuration}
use Rattle.pool_relation.specs.Transition.{run, start}
use Rattle.mesh_semantics.specs.Record.{labels}
use Rattle.record_check.specs.RecordJudgement.{Judged, root}
use Rattle.record_check.specs.VerdictText.{verdict_text}
use Rattle.wait_report.specs.Report.{cycles_in, cycles_text}
use Rattle.waiting_objects.specs.Waiting.{waiting_rows}
use Rattle.waiting_objects.specs.WaitsText.{waits_text}
use Rattle.term_text.specs.Watched.{line, watched_text}

-- the objects that wait at a call or in one, and the cycles of calls among them
abbrev pub waiting_text : List Text → ProgramTree → Configuration → Text
waiting_text names p d = waits_text names (waiting_rows false p d) ++ cycles_text (cycles_in (waiting_rows false p d))

-- the end of the text: if each line is possible, who waits in the last configuration; and the verdict
abbrev pub ending : List Text → ProgramTree → Option Configuration → Verdict → Text
ending names p None v = verdict_text names v
ending names p (Some d) v = waiting_text names p d ++ verdict_text names v

-- The verdict is that of `check`. The text shows the start, each line with what it changed, up to the first impossible
-- line, and the end.
pub record IsWatched (p : ProgramTree) (names : List Text) (ls : List Line) (text : Text) (verdict : Verdict) : Type 0 where
  pub judged : Judged p ls verdict
  pub from : Configuration
  pub starts : start p (root ls) ≡ Some from
  pub is : text ≡ watched_text names p from ls ++ ending names p (run p from (labels ls)) verdict

-- the lines before line `first`; lines are counted from 1
abbrev pub lines_before : ℕ → List Line → List Line
lines_before first ls = take (first - 1) ls

-- the lines from line `first` to line `last`, these two included
abbrev pub lines_between : ℕ → ℕ → List Line → List Line
lines_between first last ls = drop (first - 1) (take last ls)

-- some lines: if the lines before them are possible, the configuration that those lead to, and each line with what it
-- changed
abbrev pub part_text : List Text → ProgramTree → Option Configuration → List Line → Text
part_text names p None ls = line (codes "watch" ∷ [])
part_text names p (Some c) ls = watched_text names p c ls

-- The verdict is that of `check` on the whole record. The text shows the configuration before line `first`, then each
-- line from there to line `last` with what it changed, up to the first impossible line, and the end of the whole
-- record.
pub record IsWatchedPart (p : ProgramTree) (names : List Text) (ls : List Line) (first last : ℕ) (text : Text) (verdict : Verdict) : Type 0 where
  pub judged : Judged p ls verdict
  pub from : Configuration
  pub starts : start p (root ls) ≡ Some from
  pub is : text ≡ part_text names p (run p from (labels (lines_before first ls))) (lines_between first last ls) ++ ending names p (run p from (labels ls)) verdict
