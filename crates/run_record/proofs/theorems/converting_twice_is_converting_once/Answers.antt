-- The conversion of a text is read as the same lines, so it converts to itself.
use Rattle.std.proofs.Common.{◌≡◌, ap, ◌∙◌, None, List, []}
use Rattle.text_scan.specs.Text.{Text}
use Rattle.record_parser.specs.Lines.{Told}
use Rattle.record_writer.specs.SecondForm.{text2}
use Rattle.run_record.specs.Numbered.{lines_after, names_after}
use Rattle.run_record.specs.Records.{Rows, record_of}
use Rattle.run_record.proofs.ReadIsReadable.{record_again}
use Rattle.run_record.specs.Converted.{converted}
use Rattle.run_record.proofs.LineOrder.{record_readable}
use Rattle.run_record.proofs.LineRoundTrip.{whole}
use Rattle.run_record.proofs.SecondFormRoundTrip.{text2_read}
use Rattle.run_record.proofs.theorems.converting_twice_is_converting_once.Goals as goal

read_again : (s : Text) → (record_of s).fault ≡ None → record_of (converted s) ≡ whole (record_of s).told
read_again s e = text2_read (names_after [] (record_of s).told) (lines_after [] (record_of s).told) (record_readable s [] e) ∙ ap whole (record_again s [])

pub returns-clause-faultless : goal.returns-clause-faultless
returns-clause-faultless c = λ s e. ap (λ (r : Rows). r.fault) (read_again s e)

pub returns-clause-same : goal.returns-clause-same
returns-clause-same c = λ s e. ap (λ (r : Rows). r.told) (read_again s e)

pub returns-clause-once : goal.returns-clause-once
returns-clause-once c = λ s e. ap (λ (ts : List Told). text2 (names_after [] ts) (lines_after [] ts)) (ap (λ (r : Rows). r.told) (read_again s e))
