use Rattle.std.proofs.Common.{◌≡◌, ◌∙◌, List, ap, subst}
use Rattle.text_scan.specs.Text.{Text}
use Rattle.pool_syntax.specs.Terms.{ProgramTree}
use Rattle.run_types.specs.declared.types.Line.{Line}
use Rattle.pool_machine.specs.SentPackets.{nothing_sent}
use Rattle.compiler_correctness.proofs.Laws.{parsed_checked}
use Rattle.compiler_correctness.specs.ReadsBack.{ReadsBack}
use Rattle.compiler_correctness.proofs.Laws.{parsed_distinct, reads_back}
use Rattle.run_record.specs.Numbered.{lines_after}
use Rattle.run_record.specs.Records as Rec
use Rattle.run_types.specs.declared.verdicts.Verdict.{Verdict}
use Rattle.run_types.specs.declared.verdicts.Verdict.TheVariants as V
use Rattle.record_check.specs.RecordJudgement.{Judged}
use Rattle.record_check.specs.VerdictText.{verdict_text}
use Rattle.command_shell.specs.Verdicts.{status_of_verdict}
use Rattle.pool_driver.specs.Runs.{Meaning, ShowsRun, record_of}
use Rattle.pool_driver.proofs.theorems.what_is_recorded_is_judged_yes.Goals as goal

-- the text of a run's lines is read as these lines
back : {source place plan : Text} (m : Meaning source place plan) → ShowsRun m → ReadsBack m.names (record_of m).lines
back {source} m run = reads_back m.names (record_of m).lines (parsed_distinct source m.names m.program m.parsed) run.readable

pub returns-clause-accepted : goal.returns-clause-accepted
returns-clause-accepted c = λ source place plan text status h. ap (λ (s : Text). (Rec.record_of s).fault) h.written ∙ (back h.meaning h.run).faultless2

pub returns-clause-yes : goal.returns-clause-yes
returns-clause-yes c = λ source place plan text line status end h v.
    let m = h.meaning in
    let same = c.a_text_has_one_program.ensures source v.names m.names v.program m.program v.parsed m.parsed in
    let checked = parsed_checked source m.names m.program m.parsed m.typed in
    let lines : lines_after v.names (Rec.record_of text).told ≡ (record_of m).lines =
    ap (λ (names : List Text). lines_after names (Rec.record_of text).told) same.0 ∙ ap (λ (s : Text). lines_after m.names (Rec.record_of s).told) h.written ∙ (back m h.run).lines2 in
    let judged : Judged m.program (record_of m).lines v.verdict =
    subst (λ (p : ProgramTree). Judged p (record_of m).lines v.verdict) same.1 (subst (λ (ls : List Line). Judged v.program ls v.verdict) lines v.judged) in
    let run = c.shown_runs_are_runs.ensures m.program m.layout m.schedule.quantum h.run.first (nothing_sent m.schedule.lossy) (record_of m) m.typed checked.written h.run.starts h.run.run in
    let yes : v.verdict ≡ V.Yes = c.a_run_is_judged_yes.ensures m.program (record_of m).lines v.verdict run judged in
    (v.written ∙ ap (λ (w : Verdict). verdict_text v.names w) yes, v.ended ∙ ap status_of_verdict yes)
