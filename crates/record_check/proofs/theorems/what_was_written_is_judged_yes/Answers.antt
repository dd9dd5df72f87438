-- A written record is read back as the same lines, and they are a run.
use Rattle.std.proofs.Common.{◌≡◌, ap, subst, ◌∙◌, List, true}
use Rattle.run_types.specs.Table.{is_distinct}
use Rattle.text_scan.specs.Text.{Text}
use Rattle.pool_syntax.specs.Terms.{ProgramTree}
use Rattle.run_types.specs.declared.types.Line.{Line}
use Rattle.record_writer.specs.SecondForm.{text2}
use Rattle.run_record.specs.Numbered.{lines_after}
use Rattle.run_record.specs.Records.{record_of}
use Rattle.run_record.specs.Readable.{IsRecord}
use Rattle.run_record.proofs.Laws.{lines_back, record_placed, text2_read}
use Rattle.run_types.specs.declared.verdicts.Verdict.{Verdict}
use Rattle.run_types.specs.declared.verdicts.Verdict.TheVariants.{Yes}
use Rattle.record_check.specs.RecordJudgement.{IsRunOf, Judged}
use Rattle.record_check.proofs.OneVerdict.{only_yes}
use Rattle.record_check.proofs.RecordIsRun.{is_run, is_run_on_wires}
use Rattle.record_check.proofs.theorems.what_was_written_is_judged_yes.Goals as goal

read_back : (names : List Text) (ls : List Line) → is_distinct names ≡ true → IsRecord names ls → lines_after names (record_of (text2 names ls)).told ≡ ls
read_back names ls distinct h = ap (λ r. lines_after names r.told) (text2_read names ls h) ∙ lines_back names ls distinct (record_placed names 0 ls h)

judged_yes : (names : List Text) (p : ProgramTree) (ls : List Line) (v : Verdict) → is_distinct names ≡ true → IsRecord names ls → IsRunOf p ls → Judged p (lines_after names (record_of (text2 names ls)).told) v → v ≡ Yes
judged_yes names p ls v distinct h run j = only_yes p ls v run (subst (λ (xs : List Line). Judged p xs v) (read_back names ls distinct h) j)

pub returns-clause-records : goal.returns-clause-records
returns-clause-records c = λ names p l q es v distinct none written fit some h j. judged_yes names p _ v distinct h (is_run p none written l fit some q es) j

pub returns-clause-on_wires : goal.returns-clause-on_wires
returns-clause-on_wires c = λ names p l q es v distinct none written fit some h j. judged_yes names p _ v distinct h (is_run_on_wires p none written l fit some q es) j
