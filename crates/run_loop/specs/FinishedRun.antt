-- The possible results of a run of loaded inputs, and the text that is written with each.
use Rattle.std.specs.Prelude.{◌≡◌, [], Some, Result, Ok, Err}
use Rattle.mesh_semantics.specs.Config.{Config}
use Rattle.mesh_semantics.specs.Record.{start}
use Rattle.pool_machine.specs.SentPackets.{nothing_sent}
use Rattle.mesh_of_code.specs.Coded.{Placed, coded}
use Rattle.command_line.specs.declared.command.Show.{Show}
use Rattle.command_line.specs.declared.command.Show.TheVariants as Sh
use Rattle.run_loop.specs.declared.loaded.Loaded.{Loaded}
use Rattle.run_loop.specs.declared.run.FinishedRun.{FinishedRun}
use Rattle.command_shell.specs.declared.status.Status.{Status}
use Rattle.command_shell.specs.declared.status.Status.TheVariants as S
use Rattle.run_loop.specs.RunOutput.{HasRun, shown_record}
use Rattle.run_loop.specs.Loading.{lines_of}
use Rattle.command_shell.specs.Writing.{Writing, IsIdle, WroteFront}

-- The run has ended, and its text was written except the end
-- line. Or a write failed after a prefix of the text was written.
-- A report writes nothing before its end. Or memory ran out, and nothing was written.
pub data HasDriven (show : Show) (r : Loaded) (k : Writing) (result : Result FinishedRun Status) : Type 0 where
  driven : (x : FinishedRun) (c : Config Placed) → result ≡ Ok x → start (coded r.unit) r.placement ≡ Some c
      → HasRun show r.unit r.placement r.schedule c (nothing_sent r.schedule.lossy) x.machine k x.last → HasDriven show r k result
  halted : result ≡ Err S.WriteFault → WroteFront k (shown_record show r.unit.names (lines_of r)) → (show ≡ Sh.Report → WroteFront k []) → HasDriven show r k result
  lacks : result ≡ Err S.Memory → IsIdle k → HasDriven show r k result
