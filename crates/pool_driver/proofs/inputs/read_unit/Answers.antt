use Rattle.std.proofs.Common.{inl}
use Rattle.pool_driver.proofs.ReadLaws.{unit_judged}
use Rattle.command_inputs.proofs.Laws.{input_passed_on, input_judged}
use Rattle.pool_driver.proofs.inputs.read_unit.Goals as goal

pub returns-in-Err : goal.returns-in-Err
returns-in-Err g c = input_passed_on _ _ _ _ _ _ _ _ _ c.in-Err.stop (λ s f h. inl h) (λ s q. (q.0, q.1.0)) c.in-Err.ensures

pub returns : goal.returns
returns g c =
    input_judged _ _ _ _ _ _ _ _ _ c.in-Ok.parsed c.code_of.result c.in-Ok.ensures (λ s is.
    unit_judged s c.in-Ok.parsed c.code_of.result is c.code_of.ensures.code c.code_of.ensures.proper c.code_of.ensures.typed c.code_of.ensures.only c.code_of.ensures.refused c.code_of.ensures.no_read)
