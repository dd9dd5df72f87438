-- Lines that are read back from both forms of their text: without a fault, and as the same lines with the table of names that wrote them.
use Rattle.std.specs.Prelude.{◌≡◌, List, None}
use Rattle.run_types.specs.declared.types.Line.{Line}
use Rattle.text_scan.specs.Text.{Text}
use Rattle.record_writer.specs.RecordText.{record_text}
use Rattle.record_writer.specs.SecondForm.{text2}
use Rattle.run_record.specs.Numbered.{lines_after}
use Rattle.run_record.specs.Records.{record_of}

pub record ReadsBack (names : List Text) (ls : List Line) : Type 0 where
  pub faultless : (record_of (record_text names ls)).fault ≡ None
  pub lines : lines_after names (record_of (record_text names ls)).told ≡ ls
  pub faultless2 : (record_of (text2 names ls)).fault ≡ None
  pub lines2 : lines_after names (record_of (text2 names ls)).told ≡ ls
