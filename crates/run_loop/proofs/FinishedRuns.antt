-- The results of a run of loaded inputs, and the text that is written after the run.
use Rattle.std.proofs.Common.{◌≡◌, [], Option, Some, Ok, Err, refl, sym, ap, subst}
use Rattle.text_scan.specs.Text.{Text}
use Rattle.pool_outside.specs.declared.calls.WriteFault.{WriteFault}
use Rattle.mesh_semantics.specs.Config.{Config}
use Rattle.mesh_semantics.specs.Delay.{Delay}
use Rattle.mesh_semantics.specs.Record.{Record, record_at, start}
use Rattle.mesh_of_code.specs.Coded.{Placed, coded}
use Rattle.pool_machine.specs.SentPackets.{nothing_sent}
use Rattle.pool_machine.specs.MachineOf.{MachineOf}
use Rattle.command_line.specs.declared.command.Show.{Show}
use Rattle.command_line.specs.declared.command.Show.TheVariants as Sh
use Rattle.run_loop.specs.declared.loaded.Loaded.{Loaded}
use Rattle.run_loop.specs.declared.run.FinishedRun.{FinishedRun}
use Rattle.command_shell.specs.declared.status.Status.{Status}
use Rattle.command_shell.specs.declared.status.Status.TheVariants as S
use Rattle.run_loop.specs.FinishedRun.{HasDriven, driven, halted, lacks}
use Rattle.run_loop.specs.RunOutput.{Drives, HasRun, run, run_from, shown_record, stopped}
use Rattle.run_loop.specs.Loading.{lines_of, run_of}
use Rattle.run_loop.specs.Shown.{status_of}
use Rattle.command_shell.specs.Writing as D
use Rattle.command_shell.specs.Writing.{Writing, Delivers, WroteFront}
use Rattle.run_loop.proofs.DriveLaws.{front_of_first}

module _ (r : Loaded) where
  abbrev pub first_delay : Delay
  first_delay = nothing_sent r.schedule.lossy

  -- the run from the start is the run of what was loaded
  pub same_run : (c : Config Placed) → start (coded r.unit) r.placement ≡ Some c → run_from r.unit r.placement r.schedule c first_delay 0 r.schedule.events ≡ run_of r
  same_run c e = sym (ap (λ (o : Option (Config Placed)). record_at (coded r.unit) r.placement r.schedule.quantum o first_delay r.schedule.events) e)

  -- a run that has ended, and one that was cut off

  pub was_driven : (show : Show) (k : Writing) (x : FinishedRun) → HasDriven show r k (Ok x)
      → (c : Config Placed) × (start (coded r.unit) r.placement ≡ Some c) × HasRun show r.unit r.placement r.schedule c first_delay x.machine k x.last
  was_driven show k x (driven y c e i h) =
      let same : y ≡ x = cc in (c, i, subst (λ (z : FinishedRun). HasRun show r.unit r.placement r.schedule c first_delay z.machine k z.last) same h)
  was_driven show k x (halted e front silent) = absurd (cc)
  was_driven show k x (lacks e idle) = absurd (cc)

  pub was_halted : (show : Show) (m : MachineOf) (k : Writing) (c : Config Placed) (fault : WriteFault) → start (coded r.unit) r.placement ≡ Some c
      → Drives show r.unit r.placement r.schedule c first_delay m k (Err fault) → HasDriven show r k (Err S.WriteFault)
  was_halted show m k c fault i (run e is h) = absurd (cc)
  was_halted show m k c fault i (stopped f is front silent) =
      halted refl (subst (λ (x : Record Placed). WroteFront k (shown_record show r.unit.names x.lines)) (same_run c i) front) silent

  pub cut_run : (show : Show) (k : Writing) (status : Status) → HasDriven show r k (Err status) → Delivers k (shown_record show r.unit.names (lines_of r)) (status_of (lines_of r)) status
  cut_run show k status (driven y c e i h) = absurd (cc)
  cut_run show k status (halted e front silent) = let same : status ≡ S.WriteFault = cc in D.written (D.cut front same)
  cut_run show k status (lacks e idle) = let same : status ≡ S.Memory = cc in D.nothing idle same

  -- of a report nothing was written
  pub cut_report : (k : Writing) (status : Status) (text : Text) (planned : Status) → HasDriven Sh.Report r k (Err status) → Delivers k text planned status
  cut_report k status text planned (driven y c e i h) = absurd (cc)
  cut_report k status text planned (halted e front silent) =
      let same : status ≡ S.WriteFault = cc in D.written (D.cut (front_of_first [] text k (silent refl)) same)
  cut_report k status text planned (lacks e idle) = let same : status ≡ S.Memory = cc in D.nothing idle same
