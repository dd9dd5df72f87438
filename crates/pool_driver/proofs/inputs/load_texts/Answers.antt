use Rattle.std.proofs.Common.{refl}
use Rattle.pool_driver.specs.Readers as R
use Rattle.pool_driver.proofs.OutputLaws.{loads_placement, loads_program, loads_schedule}
use Rattle.command_inputs.proofs.Laws.{fits_is}
use Rattle.pool_driver.proofs.inputs.load_texts.Goals as goal

pub returns-in-Err : goal.returns-in-Err
returns-in-Err c = loads_program c.args.program.now c.args.placement.now c.args.schedule.now c.in-Err.stop c.in-Err.ensures

pub returns-in-Err-judge_placement : goal.returns-in-Err-judge_placement
returns-in-Err-judge_placement c =
    loads_placement c.args.program.now c.args.placement.now c.args.schedule.now c.in-Err-judge_placement.stop c.in-Ok.unit (fits_is _ _ _ _ _ c.in-Ok.unit c.in-Ok.ensures)
    c.in-Err-judge_placement.ensures

pub judge_schedule-requires-clause-width : goal.judge_schedule-requires-clause-width
judge_schedule-requires-clause-width c = (fits_is _ _ _ _ _ c.in-Ok-judge_placement.layout c.in-Ok-judge_placement.ensures).1.width

pub judge_schedule-requires-clause-height : goal.judge_schedule-requires-clause-height
judge_schedule-requires-clause-height c = (fits_is _ _ _ _ _ c.in-Ok-judge_placement.layout c.in-Ok-judge_placement.ensures).1.height

pub returns-in-Err-judge_schedule : goal.returns-in-Err-judge_schedule
returns-in-Err-judge_schedule c =
    loads_schedule c.args.program.now c.args.placement.now c.args.schedule.now c.in-Err-judge_schedule.stop c.in-Ok.unit c.in-Ok-judge_placement.layout
    (fits_is _ _ _ _ _ c.in-Ok.unit c.in-Ok.ensures) (fits_is _ _ _ _ _ c.in-Ok-judge_placement.layout c.in-Ok-judge_placement.ensures) c.in-Err-judge_schedule.ensures

pub returns : goal.returns
returns c =
    R.loads _ refl (fits_is _ _ _ _ _ c.in-Ok.unit c.in-Ok.ensures) (fits_is _ _ _ _ _ c.in-Ok-judge_placement.layout c.in-Ok-judge_placement.ensures)
    (fits_is _ _ _ _ _ c.in-Ok-judge_schedule.plan c.in-Ok-judge_schedule.ensures)
