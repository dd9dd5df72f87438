use Rattle.std.proofs.Common.{Err, refl, subst}
use Rattle.run_types.specs.declared.types.Placement.{Placement}
use Rattle.command_inputs.specs.declared.fault.Input.TheVariants as I
use Rattle.command_inputs.specs.Readers as R
use Rattle.command_inputs.specs.Readers.{Judges}
use Rattle.pool_driver.specs.Readers.{HasScheduleFault, IsAcceptedSchedule, IsScheduledAs}
use Rattle.pool_driver.proofs.ReadLaws.{schedule_refused}
use Rattle.pool_driver.proofs.inputs.judge_schedule.Goals as goal

pub returns-in-Ok : goal.returns-in-Ok
returns-in-Ok c = R.fits c.in-Ok.schedule refl (subst (λ (l : Placement). IsScheduledAs l c.args.bytes.now c.in-Ok.schedule) c.placement.ensures c.in-Ok.ensures.ok)

pub returns-in-Err : goal.returns-in-Err
returns-in-Err c =
    subst (λ (l : Placement). Judges I.Schedule (IsAcceptedSchedule l) (HasScheduleFault l) (IsScheduledAs l) c.args.bytes.now (Err c.schedule_stop.result)) c.placement.ensures
    (schedule_refused c.placement.result.now c.args.bytes.now c.in-Err.fault c.schedule_stop.result c.schedule_stop.ensures c.in-Err.ensures.err)
