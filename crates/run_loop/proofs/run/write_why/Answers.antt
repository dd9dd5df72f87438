use Rattle.std.proofs.Common.{◌∙◌, refl, sym, ap, subst}
use Rattle.run_types.specs.declared.types.Placement.{Placement}
use Rattle.code_semantics.specs.declared.unit.Unit.{Unit as Code}
use Rattle.code_semantics.specs.Proper.{IsProper}
use Rattle.code_semantics.specs.Suits.{Suits}
use Rattle.command_line.specs.declared.command.Show.TheVariants as Sh
use Rattle.run_loop.specs.Loading.{run_of}
use Rattle.run_loop.proofs.DriveLaws.{report_delivers, report_of_run}
use Rattle.run_loop.proofs.FinishedRuns.{cut_report, first_delay, same_run, was_driven}
use Rattle.run_loop.proofs.run.write_why.Goals as goal

pub write_report-requires-clause-proper : goal.write_report-requires-clause-proper
write_report-requires-clause-proper g c =
    let w = was_driven c.args.loaded.now Sh.Report _ c.in-Ok.ran c.in-Ok.ensures in subst IsProper (sym w.2.unit) c.requires.proper

pub write_report-requires-clause-suits : goal.write_report-requires-clause-suits
write_report-requires-clause-suits g c =
    let w = was_driven c.args.loaded.now Sh.Report _ c.in-Ok.ran c.in-Ok.ensures in
    subst (λ (x : Placement). Suits x c.in-Ok.ran.machine.unit) (sym w.2.placement) (subst (Suits c.args.loaded.now.placement) (sym w.2.unit) c.requires.suits)

pub write_report-requires-clause-same : goal.write_report-requires-clause-same
write_report-requires-clause-same g c = let w = was_driven c.args.loaded.now Sh.Report _ c.in-Ok.ran c.in-Ok.ensures in c.placement.ensures ∙ sym w.2.placement

pub write_report-requires-clause-table : goal.write_report-requires-clause-table
write_report-requires-clause-table g c =
    let w = was_driven c.args.loaded.now Sh.Report _ c.in-Ok.ran c.in-Ok.ensures in ap (λ (v : Code). v.names) (sym w.2.unit)

pub write_report-requires-clause-under_way : goal.write_report-requires-clause-under_way
write_report-requires-clause-under_way g c =
    let w = was_driven c.args.loaded.now Sh.Report _ c.in-Ok.ran c.in-Ok.ensures in record { config = _; delay = _; stands = w.2.stands }

pub returns-in-Ok : goal.returns-in-Ok
returns-in-Ok g c =
    let r = c.args.loaded.now in
    let w = was_driven r Sh.Report _ c.in-Ok.ran c.in-Ok.ensures in
    report_of_run _ r.unit _ (run_of r) c.write_report.result (same_run r w.0 w.1)
    (report_delivers r.unit r.placement r.schedule w.0 (first_delay r) c.in-Ok.ran.machine _ r.unit.names _ c.in-Ok.ran.last c.write_report.result refl w.2 (refl, refl) c.write_report.ensures)

pub returns-in-Err : goal.returns-in-Err
returns-in-Err g c = cut_report c.args.loaded.now _ c.in-Err.status _ _ c.in-Err.ensures
