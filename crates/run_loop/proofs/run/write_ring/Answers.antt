use Rattle.std.proofs.Common.{refl}
use Rattle.command_line.specs.declared.command.Show.TheVariants as Sh
use Rattle.run_loop.specs.Loading.{run_of}
use Rattle.run_loop.proofs.DriveLaws.{ring_delivers, ring_of_run}
use Rattle.run_loop.proofs.FinishedRuns.{cut_report, first_delay, same_run, was_driven}
use Rattle.run_loop.proofs.run.write_ring.Goals as goal

pub returns-in-Ok : goal.returns-in-Ok
returns-in-Ok g c =
    let r = c.args.loaded.now in
    let w = was_driven r Sh.Report _ c.in-Ok.ran c.in-Ok.ensures in
    ring_of_run _ r.unit.names _ (run_of r) c.write_counts.result (same_run r w.0 w.1)
    (ring_delivers r.unit r.placement r.schedule w.0 (first_delay r) c.in-Ok.ran.machine _ r.unit.names _ c.in-Ok.ran.last c.write_counts.result refl w.2 (refl, refl) c.write_counts.ensures)

pub returns-in-Err : goal.returns-in-Err
returns-in-Err g c = cut_report c.args.loaded.now _ c.in-Err.status _ _ c.in-Err.ensures
