-- The run of loaded inputs, in terms of objects of code, and the text that is written of it.
use Rattle.std.specs.Prelude.{List, ◌++◌}
use Rattle.text_scan.specs.Text.{Text}
use Rattle.run_types.specs.declared.types.Line.{Line}
use Rattle.mesh_semantics.specs.Record.{Record}
use Rattle.mesh_of_code.specs.Coded.{Placed, coded}
use Rattle.wait_report.specs.Report.{report_text}
use Rattle.command_line.specs.declared.command.Show.{Show}
use Rattle.command_line.specs.declared.command.Show.TheVariants as Sh
use Rattle.run_loop.specs.declared.loaded.Loaded.{Loaded}
use Rattle.run_loop.specs.RunOutput.{shown_record}
use Rattle.run_loop.specs.ReportRows.{rows_in}
use Rattle.run_loop.specs.Shown.{ends_text, record_over}

-- the record of a run
abbrev pub run_of : Loaded → Record Placed
run_of r = record_over (coded r.unit) r.placement r.schedule

-- its lines
abbrev pub lines_of : Loaded → List Line
lines_of r = (run_of r).lines

-- the text of a run: its lines, its output, or the status of each object at its end with the end line
abbrev pub run_text : Show → Loaded → Text
run_text Sh.Record r = shown_record Sh.Record r.unit.names (lines_of r)
run_text Sh.Writes r = shown_record Sh.Writes r.unit.names (lines_of r)
run_text Sh.Report r = report_text r.unit.names (rows_in (coded r.unit) (run_of r).delay (run_of r).last.objects) ++ ends_text r.unit.names (lines_of r)
