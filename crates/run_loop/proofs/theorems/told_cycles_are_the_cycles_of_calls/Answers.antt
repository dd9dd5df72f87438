use Rattle.std.proofs.Common.{sym}
use Rattle.mesh_semantics.specs.Cycles.{called_by}
use Rattle.mesh_of_terms.specs.Terms.{terms}
use Rattle.wait_report.specs.Report.{called_in}
use Rattle.run_loop.specs.Reports.{rows_of}
use Rattle.run_loop.proofs.CycleLaws.{called_same, cycle_as}
use Rattle.run_loop.proofs.theorems.told_cycles_are_the_cycles_of_calls.Goals as goal

pub returns-clause-all : goal.returns-clause-all
returns-clause-all c p cfg d ns h =
    c.cycles_are_all_and_no_other.ensures.all (rows_of p cfg d) ns
    (cycle_as (called_by (terms p) cfg d) (called_in (rows_of p cfg d)) (λ o. sym (called_same (terms p) d cfg.objects o)) ns h)

pub returns-clause-no_other : goal.returns-clause-no_other
returns-clause-no_other c p cfg d ns h =
    cycle_as (called_in (rows_of p cfg d)) (called_by (terms p) cfg d) (called_same (terms p) d cfg.objects) ns (c.cycles_are_all_and_no_other.ensures.no_other (rows_of p cfg d) ns h)
