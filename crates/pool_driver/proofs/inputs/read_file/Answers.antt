use Rattle.std.proofs.Common.{◌∙◌, ℕ, List, subst}
use Rattle.command_inputs.specs.declared.fault.Input.TheVariants as I
use Rattle.command_inputs.specs.Readers.{Judges}
use Rattle.command_inputs.proofs.Laws.{input_passed_on, input_judged}
use Rattle.pool_driver.specs.Readers.{HasUnitFault, IsAcceptedUnit}
use Rattle.pool_driver.specs.UnitOfFile.{IsUnitOfFile}
use Rattle.pool_driver.proofs.inputs.read_file.Goals as goal

pub returns-in-Err : goal.returns-in-Err
returns-in-Err g c = input_passed_on _ _ _ _ _ _ _ _ _ c.in-Err.stop (λ s f h. absurd h) (λ s q. tt) c.in-Err.ensures

pub returns : goal.returns
returns g c =
    input_judged _ _ _ _ _ _ _ _ _ c.in-Ok.text c.judge_unit.result c.in-Ok.ensures (λ s is.
    subst (λ (z : List ℕ). Judges I.Unit IsAcceptedUnit HasUnitFault IsUnitOfFile z c.judge_unit.result) (c.deref.ensures.value ∙ is) c.judge_unit.ensures)
