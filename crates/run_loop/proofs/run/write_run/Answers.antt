use Rattle.std.proofs.Common.{refl}
use Rattle.run_loop.specs.Loading.{run_of}
use Rattle.run_loop.proofs.DriveLaws.{delivers_of, end_writes}
use Rattle.run_loop.proofs.FinishedRuns.{cut_run, first_delay, same_run, was_driven}
use Rattle.run_loop.proofs.run.write_run.Goals as goal

pub returns-in-Ok : goal.returns-in-Ok
returns-in-Ok g c =
    let r = c.args.loaded.now in
    let show = c.args.show in
    let w = was_driven r show _ c.in-Ok.ran c.in-Ok.ensures in
    delivers_of _ show r.unit.names _ (run_of r) c.finish.result (same_run r w.0 w.1)
    (end_writes show r.unit r.placement r.schedule w.0 (first_delay r) _ _ r.unit.names _ c.in-Ok.ran.last c.finish.result refl w.2 (refl, refl) c.finish.ensures)

pub returns-in-Err : goal.returns-in-Err
returns-in-Err g c = cut_run c.args.loaded.now c.args.show _ c.in-Err.status c.in-Err.ensures
