use Rattle.std.proofs.Common.{◌∙◌, ℕ, List, subst}
use Rattle.command_inputs.specs.declared.fault.Input.TheVariants as I
use Rattle.command_inputs.specs.Readers.{AreNamedLinesOf, HasRecordFault, IsAcceptedRecord, Judges}
use Rattle.command_inputs.proofs.ReadLaws.{input_passed_on, input_judged}
use Rattle.command_inputs.proofs.record.read_named_lines.Goals as goal

pub returns-in-Err : goal.returns-in-Err
returns-in-Err g c = input_passed_on _ _ _ _ _ _ _ _ _ c.in-Err.stop (λ s f h. absurd h) (λ s q. tt) c.in-Err.ensures

pub returns : goal.returns
returns g c =
    input_judged _ _ _ _ _ _ _ _ _ c.in-Ok.text c.judge_named_lines.result c.in-Ok.ensures (λ s is.
    subst (λ (z : List ℕ). Judges I.Record IsAcceptedRecord HasRecordFault (AreNamedLinesOf c.args.names.now) z c.judge_named_lines.result) (c.deref.ensures.value ∙ is) c.judge_named_lines.ensures)
