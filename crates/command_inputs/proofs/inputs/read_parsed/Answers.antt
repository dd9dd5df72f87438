use Rattle.std.proofs.Common.{◌∙◌, ℕ, List, subst}
use Rattle.command_inputs.specs.declared.fault.Input.TheVariants as I
use Rattle.command_inputs.specs.Programs.{IsFaultOfText}
use Rattle.command_inputs.specs.Readers.{Judges, IsAnyProgram, IsProgramOf}
use Rattle.command_inputs.proofs.ReadLaws.{input_passed_on, input_judged, program_judged}
use Rattle.command_inputs.proofs.inputs.read_parsed.Goals as goal

pub returns-in-Err : goal.returns-in-Err
returns-in-Err g c = input_passed_on _ _ _ _ _ _ _ _ _ c.in-Err.stop (λ s f h. absurd h) (λ s q. tt) c.in-Err.ensures

pub returns : goal.returns
returns g c =
    input_judged _ _ _ _ _ _ _ _ _ c.in-Ok.text c.read_program.result c.in-Ok.ensures (λ s is.
    subst (λ (z : List ℕ). Judges I.Program IsAnyProgram IsFaultOfText IsProgramOf z c.read_program.result) (c.deref.ensures.value ∙ is)
    (program_judged c.deref.result.now c.read_program.result c.read_program.ensures.ok c.read_program.ensures.grammatical c.read_program.ensures.spelled c.read_program.ensures.refused
    c.read_program.ensures.no_read c.read_program.ensures.only))
