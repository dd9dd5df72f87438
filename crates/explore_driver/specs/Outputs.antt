-- The output of each command, given the texts of its inputs.
use Rattle.std.specs.Prelude.{◌≡◌, ◌≤◌, length, List, [], ◌∷◌, None}
use Rattle.text_scan.specs.Text.{Text}
use Rattle.pool_syntax.specs.Terms.{ProgramTree}
use Rattle.pool_syntax.specs.Typing.{faults}
use Rattle.run_types.specs.declared.types.Line.{Line}
use Rattle.run_types.specs.declared.verdicts.Verdict.{Verdict}
use Rattle.run_record.specs.Numbered.{lines_after, names_after}
use Rattle.run_record.specs.Records.{record_of}
use Rattle.run_record.specs.Readable.{IsRecord}
use Rattle.command_inputs.specs.Programs.{IsParsed}
use Rattle.command_shell.specs.declared.status.Status.{Status}
use Rattle.command_shell.specs.declared.status.Status.TheVariants as S
use Rattle.command_shell.specs.Verdicts.{status_of_verdict}
use Rattle.record_check.specs.RecordJudgement.{Judged}
use Rattle.search_text.specs.declared.answers.Found.{Found}
use Rattle.search_text.specs.declared.answers.Found.TheVariants as O
use Rattle.search_text.specs.Answers.{Inquiry, IsAnswerTo}
use Rattle.stream_check.specs.Filled.{IsFilled}
use Rattle.record_writer.specs.RecordText.{record_text}
use Rattle.watch_text.specs.WatchedRun.{IsWatched, IsWatchedPart}
use Rattle.watch_text.specs.Waits.{IsWaits}
use Rattle.explore_driver.specs.declared.words.Shown.{Shown}
use Rattle.explore_driver.specs.declared.words.Shown.TheVariants as Sh
use Rattle.explore_driver.specs.Words.{Request, of_fill, of_search, of_watch}

-- the status with which the answer of a search is written
abbrev pub status_of_found : Found → Status
status_of_found O.Finite = S.Done
status_of_found O.Running = S.ScheduleOver
status_of_found O.Shown = S.DoneFaulted
status_of_found O.Over = S.ScheduleOver
status_of_found O.Run = S.Done
status_of_found O.Missing = S.DoneFaulted

-- the source is a program without class faults, and the text is the answer of the search for it
pub record IsAnswerOn (q : Inquiry) (source text : Text) (status : Status) : Type 0 where
  pub names : List Text
  pub program : ProgramTree
  pub parsed : IsParsed source names program
  pub typed : faults program ≡ []
  pub found : Found
  pub answers : IsAnswerTo names program q text found
  pub ended : status ≡ status_of_found found

-- the text shows the lines as a run of the program, whole or in part, or who waits after them, with the verdict on them
abbrev pub IsTextOf : Shown → ProgramTree → List Text → List Line → Text → Verdict → Type 0
IsTextOf Sh.Whole p names ls text verdict = IsWatched p names ls text verdict
IsTextOf (Sh.Lines first last) p names ls text verdict = IsWatchedPart p names ls first last text verdict
IsTextOf Sh.Waits p names ls text verdict = IsWaits p names ls text verdict

-- The source is a program without class faults, and the record has no fault. The text shows its lines, read with the
-- program's names, with the only verdict that is right for them.
pub record IsWatchOn (shown : Shown) (source s text : Text) (status : Status) : Type 0 where
  pub names : List Text
  pub program : ProgramTree
  pub parsed : IsParsed source names program
  pub typed : faults program ≡ []
  pub faultless : (record_of s).fault ≡ None
  pub verdict : Verdict
  pub shows : IsTextOf shown program (names_after names (record_of s).told) (lines_after names (record_of s).told) text verdict
  pub only : (v : Verdict) → Judged program (lines_after names (record_of s).told) v → v ≡ verdict
  pub ended : status ≡ status_of_verdict verdict

-- The text is that of the lines with local transitions filled in, with the verdict on them. With at most 2,000,000 events
-- they are the lines of a record, so the text can be read.
abbrev pub IsFilledText : ProgramTree → List Text → List Line → Text → Verdict → Type 0
IsFilledText p names ls text verdict = (fs : List Line) × IsFilled p ls fs verdict × (text ≡ record_text names fs) × (length fs ≤ 2000001 → IsRecord names fs)

-- The source is a program without class faults, and the record has no fault. The text has its lines, read with the
-- program's names, with local transitions filled in, in the first form. The verdict is that on the filled record.
pub record IsFillOn (source s text : Text) (status : Status) : Type 0 where
  pub names : List Text
  pub program : ProgramTree
  pub parsed : IsParsed source names program
  pub typed : faults program ≡ []
  pub faultless : (record_of s).fault ≡ None
  pub verdict : Verdict
  pub filled : IsFilledText program (names_after names (record_of s).told) (lines_after names (record_of s).told) text verdict
  pub ended : status ≡ status_of_verdict verdict

-- the output of a command, given the texts of its inputs in order; that of a stream has a definition of its own
abbrev pub IsOutput : Request → List Text → Text → Status → Type 0
IsOutput (of_search q name) (source ∷ []) text status = IsAnswerOn q source text status
IsOutput (of_watch shown name record_name) (source ∷ s ∷ []) text status = IsWatchOn shown source s text status
IsOutput (of_fill name record_name) (source ∷ s ∷ []) text status = IsFillOn source s text status
IsOutput _ _ text status = ⊥
