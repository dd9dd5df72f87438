-- The output of a request, as a text and a status, in terms of the texts of its inputs.
use Rattle.std.specs.Prelude.{◌≡◌, ℕ, List, [], ◌∷◌, ◌++◌, None, ◌⊎◌}
use Rattle.text_scan.specs.Text.{Text}
use Rattle.pool_syntax.specs.Terms.{ProgramTree}
use Rattle.pool_syntax.specs.Typing.{faults}
use Rattle.object_code.specs.FileBytes.{file_bytes}
use Rattle.object_code.specs.Listing.{listing}
use Rattle.pool_printer.specs.Canonical.{canonical}
use Rattle.record_writer.specs.SecondForm.{text2}
use Rattle.command_shell.specs.declared.status.Status.{Status}
use Rattle.command_shell.specs.declared.status.Status.TheVariants as S
use Rattle.command_shell.specs.Verdicts.{status_of_verdict}
use Rattle.command_line.specs.declared.command.Show.{Show}
use Rattle.command_line.specs.declared.command.Show.TheVariants as Sh
use Rattle.command_line.specs.declared.command.Ask.{Ask}
use Rattle.command_line.specs.declared.command.Ask.TheVariants as As
use Rattle.run_record.specs.Numbered.{lines_after, names_after}
use Rattle.run_record.specs.Records as Rec
use Rattle.command_line.specs.Commands.{Request, of_run, of_program, of_ring, of_convert, of_check, of_load}
use Rattle.pool_driver.specs.Inputs.{unit_of}
use Rattle.command_inputs.specs.Programs.{IsParsed}
use Rattle.run_loop.specs.Reports.{rows_of}
use Rattle.pool_driver.specs.Runs.{CodeMeaning, Meaning, ShowsCodeRun, ShowsRun, code_record_of, record_of}
use Rattle.run_loop.specs.Shown.{ends_text, ring_text, status_of}
use Rattle.record_writer.specs.WrittenText.{writes_text}
use Rattle.pool_gen.specs.Ring.{ring_placement, ring_program, ring_schedule}
use Rattle.wait_report.specs.Report.{report_text}
use Rattle.run_types.specs.declared.verdicts.Verdict.{Verdict}
use Rattle.record_check.specs.RecordJudgement.{Judged}
use Rattle.record_check.specs.VerdictText.{verdict_text}
use Rattle.compiler_correctness.specs.DeclaredKinds.{file_of}
use Rattle.pool_driver.specs.UnitFiles.{IsVerifiedFile}

-- the text of the run of the three inputs: its lines, its output, or the report of `why`
abbrev pub shown_text : {source place plan : Text} → Show → Meaning source place plan → Text
shown_text Sh.Record m = text2 m.names (record_of m).lines
shown_text Sh.Writes m = writes_text m.names (record_of m).lines
shown_text Sh.Report m = report_text m.names (rows_of m.program (record_of m).last (record_of m).delay) ++ ends_text m.names (record_of m).lines

-- The three texts have a meaning. The text is that of their run, with the status
-- of its record, and the record's lines show one run of the transition relation.
pub record IsRunOf (show : Show) (source place plan : Text) (text : Text) (status : Status) : Type 0 where
  pub meaning : Meaning source place plan
  pub written : text ≡ shown_text show meaning
  pub ended : status ≡ status_of (record_of meaning).lines
  pub run : ShowsRun meaning

-- the canonical text, the listing or the object code file of a program
abbrev pub asked_text : Ask → List Text → ProgramTree → Text
asked_text As.Canonical names p = canonical names p
asked_text As.Listing names p = listing (unit_of names p)
asked_text As.File names p = file_bytes (file_of names p)

-- the bytes that `build` writes are a verified object code file, and it is that of the program
abbrev pub IsBuilt : Ask → List Text → ProgramTree → Text → Type 0
IsBuilt As.Canonical names p text = Unit {0}
IsBuilt As.Listing names p text = Unit {0}
IsBuilt As.File names p text = IsVerifiedFile text (file_of names p)

-- the source is a program without class faults, and the text is its canonical text, its listing or its object code file
pub record IsTextFor (ask : Ask) (source : Text) (text : Text) : Type 0 where
  pub names : List Text
  pub program : ProgramTree
  pub parsed : IsParsed source names program
  pub typed : faults program ≡ []
  pub written : text ≡ asked_text ask names program
  pub built : IsBuilt ask names program text

-- the texts of a ring have a meaning, and the text has the counts of their run and its end line
pub record IsRingOf (k : ℕ) (text : Text) (status : Status) : Type 0 where
  pub meaning : Meaning (ring_program k) ring_placement (ring_schedule k)
  pub written : text ≡ ring_text meaning.names (record_of meaning).lines
  pub ended : status ≡ status_of (record_of meaning).lines
  pub run : ShowsRun meaning

-- the record has no fault, and the text has its lines in the second form
pub record IsCarriedOver (s text : Text) : Type 0 where
  pub faultless : (Rec.record_of s).fault ≡ None
  pub written : text ≡ text2 (names_after [] (Rec.record_of s).told) (lines_after [] (Rec.record_of s).told)

-- The program has no class faults, and the record has no fault. Its lines, read with the program's
-- names, have this verdict and no other. The text is the line of the verdict, with its status.
pub record IsVerdictOn (source s : Text) (text : Text) (status : Status) : Type 0 where
  pub names : List Text
  pub program : ProgramTree
  pub parsed : IsParsed source names program
  pub typed : faults program ≡ []
  pub faultless : (Rec.record_of s).fault ≡ None
  pub verdict : Verdict
  pub judged : Judged program (lines_after names (Rec.record_of s).told) verdict
  pub only : (v : Verdict) → Judged program (lines_after names (Rec.record_of s).told) v → v ≡ verdict
  pub written : text ≡ verdict_text names verdict
  pub ended : status ≡ status_of_verdict verdict

-- The three texts have a meaning, with the first as an object code file. The text has the lines of their
-- record in the second form, with its status. The lines show one run of the relation over objects of code.
pub record IsLoadOf (source place plan : Text) (text : Text) (status : Status) : Type 0 where
  pub meaning : CodeMeaning source place plan
  pub written : text ≡ text2 meaning.file.unit.names (code_record_of meaning).lines
  pub ended : status ≡ status_of (code_record_of meaning).lines
  pub run : ShowsCodeRun meaning

-- the output of a request, given the texts of its inputs in order
abbrev pub IsOutput : Request → List Text → Text → Status → Type 0
IsOutput (of_run show names) (program ∷ placement ∷ schedule ∷ []) text status = IsRunOf show program placement schedule text status
IsOutput (of_program ask name) (program ∷ []) text status = IsTextFor ask program text × (status ≡ S.Done)
IsOutput (of_ring k) [] text status = IsRingOf k text status
IsOutput (of_convert name) (s ∷ []) text status = IsCarriedOver s text × (status ≡ S.Done)
IsOutput (of_check name record_name) (program ∷ s ∷ []) text status = IsVerdictOn program s text status
IsOutput (of_load unit_name place_name plan_name) (source ∷ placement ∷ schedule ∷ []) text status = IsLoadOf source placement schedule text status
IsOutput r _ text status = ⊥
