-- The line and request number that a parsed line of the code represents.
use Rattle.std.specs.Prelude.{ℕ, List}
use Rattle.text_scan.specs.Text.{Text}
use Rattle.run_record.specs.declared.parsed_line.WithRequest.{WithRequest}
use Rattle.run_record.specs.declared.parsed_line.ParsedLine.{ParsedLine}
use Rattle.record_parser.specs.Fields.{fields}
use Rattle.run_record.specs.Records.{Row}
use Rattle.record_parser.specs.ReadLineView.{told}

abbrev pub row : ParsedLine → Row
row r = record { told = told r.read; ask = r.ask }

abbrev pub carried : WithRequest → List Text × ℕ
carried c = (fields c.front.now, c.ask)
