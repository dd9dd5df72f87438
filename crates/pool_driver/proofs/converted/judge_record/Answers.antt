use Rattle.std.proofs.Common.{◌∙◌, List, ap, refl}
use Rattle.text_scan.specs.Text.{Text}
use Rattle.run_record.specs.Numbered.{lines_after, names_after}
use Rattle.run_record.specs.Records.{record_of}
use Rattle.command_inputs.specs.Readers as R
use Rattle.pool_driver.specs.Readers.{IsRecordOf}
use Rattle.command_inputs.proofs.Laws.{record_refused}
use Rattle.pool_driver.proofs.converted.judge_record.Goals as goal

pub returns-in-Ok-asks_of : goal.returns-in-Ok-asks_of
returns-in-Ok-asks_of c =
    let h = c.in-Ok.ensures in
    let told = (record_of c.args.bytes.now).told in
    let none = c.make-names.ensures in
    R.fits _ refl (record {
      faultless = h.faultless;
      lines = h.lines ∙ ap (λ (names : List Text). lines_after names told) none;
      names = h.names ∙ ap (λ (names : List Text). names_after names told) none;
      showable = record { writable = h.writable; asked = c.in-Ok-asks_of.ensures };
    })

pub returns-in-Err : goal.returns-in-Err
returns-in-Err c = record_refused IsRecordOf c.args.bytes.now c.in-Err.fault c.record_stop.result c.record_stop.ensures c.in-Err.ensures.fault

pub returns-in-Err-asks_of : goal.returns-in-Err-asks_of
returns-in-Err-asks_of c = R.forgets refl
