-- The conversion of a record: the lines of its text, written in the second form.
use Rattle.std.specs.Prelude.{[]}
use Rattle.text_scan.specs.Text.{Text}
use Rattle.record_writer.specs.SecondForm.{text2}
use Rattle.run_record.specs.Numbered.{lines_after, names_after}
use Rattle.run_record.specs.Records.{record_of}

abbrev pub converted : Text → Text
converted s = text2 (names_after [] (record_of s).told) (lines_after [] (record_of s).told)
