use Rattle.std.proofs.Common.{◌≡◌, ◌∙◌, ap, Err, inl, inr, refl}
use Rattle.pool_syntax.specs.TreeOf.{program_of}
use Rattle.pool_syntax.specs.Typing.{faults}
use Rattle.command_inputs.specs.declared.fault.Input.TheVariants as I
use Rattle.command_inputs.specs.declared.fault.InputError.TheVariants as T
use Rattle.command_inputs.specs.Readers as R
use Rattle.command_inputs.specs.Readers.{IsTypedProgramOf}
use Rattle.command_inputs.specs.Programs.{IsTypedProgram, HasTypedFault}
use Rattle.command_inputs.proofs.ReadLaws.{input_passed_on, input_judged, judges_refusal}
use Rattle.command_inputs.proofs.inputs.read_typed.Goals as goal

pub returns-in-Err : goal.returns-in-Err
returns-in-Err g c = input_passed_on _ _ _ _ _ _ _ _ _ c.in-Err.stop (λ s f h. inl h) (λ s q. (q.0, q.1.0)) c.in-Err.ensures

pub returns-in-Err-judge_classes : goal.returns-in-Err-judge_classes
returns-in-Err-judge_classes g c =
    let stop = c.in-Err-judge_classes.stop in
    let h = c.in-Err-judge_classes.ensures in
    input_judged _ _ _ _ _ _ _ _ _ c.in-Ok.parsed _ c.in-Ok.ensures (λ s is.
    judges_refusal I.Program IsTypedProgram HasTypedFault IsTypedProgramOf s stop
    (λ i f e. let why = h.refused i f (ap Err e) in (why.0, inr (program_of c.in-Ok.parsed.program, (c.in-Ok.parsed.names, is.parsed), why.1)))
    (λ i e. h.no_read i (ap Err e))
    (λ q. let z = h.only (ap faults (is.only q.1.0.0 q.0 q.1.0.1).1 ∙ q.1.1) refl in let same : stop ≡ T.Memory = cc in same))

pub returns : goal.returns
returns g c = input_judged _ _ _ _ _ _ _ _ _ c.in-Ok.parsed _ c.in-Ok.ensures (λ s is. R.fits c.in-Ok.parsed refl (is, c.in-Ok-judge_classes.ensures.typed refl))
