use Rattle.std.proofs.Common.{◌≡◌, ◌++◌, drop}
use Rattle.wait_report.specs.Report.{rows_text}
use Rattle.watch_text.proofs.waits.push_objects.Given as goal

abbrev pub invariant-loop-row : goal.invariant-loop-row
invariant-loop-row l = l.fn.text.items ++ rows_text l.names l.rows ≡ l.text.items ++ rows_text l.names (drop l.row-index l.rows)
