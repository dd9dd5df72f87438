use Rattle.std.proofs.Common.{inl}
use Rattle.command_inputs.specs.declared.fault.Input.TheVariants as I
use Rattle.command_inputs.specs.Programs.{IsFaultOfText, HasTypedFault, IsTypedProgram}
use Rattle.pool_driver.specs.Readers.{IsUnitOf}
use Rattle.command_inputs.specs.Readers.{IsAnyProgram, IsProgramOf}
use Rattle.pool_driver.proofs.ReadLaws.{unit_judged}
use Rattle.command_inputs.proofs.Laws.{fits_is, judge_passed, program_judged}
use Rattle.pool_driver.proofs.inputs.judge_program.Goals as goal

pub returns-in-Err : goal.returns-in-Err
returns-in-Err c =
    judge_passed I.Program IsAnyProgram IsTypedProgram IsFaultOfText HasTypedFault IsProgramOf IsUnitOf c.args.bytes.now c.in-Err.stop (λ f h. inl h) (λ q. (q.0, q.1.0))
    (program_judged c.args.bytes.now _ c.in-Err.ensures.ok c.in-Err.ensures.grammatical c.in-Err.ensures.spelled c.in-Err.ensures.refused c.in-Err.ensures.no_read c.in-Err.ensures.only)

pub returns : goal.returns
returns c =
    unit_judged c.args.bytes.now c.in-Ok.parsed c.code_of.result
    (fits_is I.Program IsAnyProgram IsFaultOfText IsProgramOf c.args.bytes.now c.in-Ok.parsed
    (program_judged c.args.bytes.now _ c.in-Ok.ensures.ok c.in-Ok.ensures.grammatical c.in-Ok.ensures.spelled c.in-Ok.ensures.refused c.in-Ok.ensures.no_read c.in-Ok.ensures.only))
    c.code_of.ensures.code c.code_of.ensures.proper c.code_of.ensures.typed c.code_of.ensures.only c.code_of.ensures.refused c.code_of.ensures.no_read
