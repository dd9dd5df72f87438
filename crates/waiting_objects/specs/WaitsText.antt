-- The lines of objects that wait.
use Rattle.std.specs.Prelude.{List, [], ◌∷◌, ◌++◌, codes}
use Rattle.text_scan.specs.Text.{Text}
use Rattle.record_writer.specs.RecordText.{object_text, text_at}
use Rattle.wait_report.specs.declared.rows.ObjectRow.{ObjectRow}
use Rattle.wait_report.specs.Report.{line, standing_words}

-- an object that waits: its name, its class and its status
abbrev pub waits_line : List Text → ObjectRow → Text
waits_line names r = line (codes "waits" ∷ object_text r.name ∷ text_at names r.class ∷ standing_words names r.standing)

abbrev pub waits_text : List Text → List ObjectRow → Text
waits_text names [] = []
waits_text names (r ∷ rows) = waits_line names r ++ waits_text names rows
