use Rattle.std.proofs.Common.{◌∙◌, ◌<◌, ◌^◌, List, ap, length, refl, subst, sym}
use Rattle.text_scan.specs.Text.{Text}
use Rattle.run_record.specs.Numbered.{lines_after, names_after}
use Rattle.run_record.specs.Records.{record_of}
use Rattle.command_inputs.specs.Readers as R
use Rattle.command_inputs.specs.Readers.{AreNamedLinesOf}
use Rattle.command_inputs.proofs.ReadLaws.{record_refused}
use Rattle.command_inputs.proofs.record.judge_named_lines.Goals as goal

pub read_record-requires-clause-few : goal.read_record-requires-clause-few
read_record-requires-clause-few c = subst (λ (names : List Text). length names < 2 ^ 31) (sym c.in-Ok.ensures) c.requires.few

pub returns-in-Ok-read_record : goal.returns-in-Ok-read_record
returns-in-Ok-read_record c =
    let h = c.in-Ok-read_record.ensures in
    R.fits _ refl (
      (h.faultless, h.lines ∙ ap (λ (names : List Text). lines_after names (record_of c.args.bytes.now).told) c.in-Ok.ensures),
      h.names ∙ ap (λ (names : List Text). names_after names (record_of c.args.bytes.now).told) c.in-Ok.ensures,
    )

pub returns-in-Err-read_record : goal.returns-in-Err-read_record
returns-in-Err-read_record c =
    record_refused (AreNamedLinesOf c.args.names.now) c.args.bytes.now c.in-Err-read_record.fault c.record_stop.result c.record_stop.ensures c.in-Err-read_record.ensures.fault
