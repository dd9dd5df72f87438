use Rattle.std.proofs.Common.{refl}
use Rattle.command_inputs.specs.Readers as R
use Rattle.pool_driver.proofs.ReadLaws.{unit_refused}
use Rattle.pool_driver.proofs.inputs.judge_unit.Goals as goal

pub returns-in-Ok : goal.returns-in-Ok
returns-in-Ok c = R.fits c.in-Ok.unit refl c.in-Ok.ensures.ok

pub returns-in-Err : goal.returns-in-Err
returns-in-Err c = unit_refused c.args.bytes.now c.in-Err.fault c.unit_stop.result c.unit_stop.ensures c.in-Err.ensures.fault
