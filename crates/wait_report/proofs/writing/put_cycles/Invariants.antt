use Rattle.std.proofs.Common.{◌≡◌, ◌++◌, length, drop}
use Rattle.std.specs.Prelude.{filter_map}
use Rattle.mesh_semantics.specs.Standing.{chase}
use Rattle.wait_report.specs.Report.{called_in, cycles_in, cycles_text}
use Rattle.wait_report.proofs.writing.put_cycles.Given as goal

abbrev pub invariant-loop-at : goal.invariant-loop-at
invariant-loop-at l =
    l.fn.text.items ++ cycles_text (cycles_in l.rows)
    ≡ l.text.items ++ cycles_text (filter_map (λ r. chase (called_in l.rows) (length l.rows) r.name r.name) (drop l.at l.rows))
