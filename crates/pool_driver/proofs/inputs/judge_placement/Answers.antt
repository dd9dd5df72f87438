use Rattle.std.proofs.Common.{refl}
use Rattle.command_inputs.specs.Readers as R
use Rattle.pool_driver.proofs.ReadLaws.{placement_refused}
use Rattle.pool_driver.proofs.inputs.judge_placement.Goals as goal

pub returns-in-Ok : goal.returns-in-Ok
returns-in-Ok c = R.fits c.in-Ok.placement refl (c.in-Ok.ensures.ok, c.in-Ok.ensures.suits)

pub returns-in-Err : goal.returns-in-Err
returns-in-Err c = placement_refused c.args.unit.now c.args.bytes.now c.in-Err.fault c.placement_stop.result c.placement_stop.ensures c.in-Err.ensures.err
