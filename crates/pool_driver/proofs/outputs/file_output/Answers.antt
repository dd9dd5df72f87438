use Rattle.std.proofs.Common.{◌≡◌, ◌∙◌, ◌∷◌, [], Err, ap, inl, inr, refl}
use Rattle.pool_syntax.specs.TreeOf.{program_of}
use Rattle.pool_syntax.specs.Typing.{faults}
use Rattle.object_code.specs.FileBytes.{file_bytes}
use Rattle.command_inputs.specs.declared.fault.Input.TheVariants as I
use Rattle.command_inputs.specs.declared.fault.InputError.TheVariants as T
use Rattle.command_line.specs.declared.command.Ask.TheVariants as As
use Rattle.pool_driver.specs.declared.outputs.Output.TheVariants as O
use Rattle.command_line.specs.Commands.{of_program}
use Rattle.pool_driver.specs.Inputs.{IsAccepted, inputs}
use Rattle.command_shell.specs.Results as R
use Rattle.pool_driver.specs.Ends.{pool_program}
use Rattle.pool_driver.specs.Readers.{IsPrintable, status_of_output, text_of}
use Rattle.command_inputs.specs.Readers.{IsTypedProgramOf}
use Rattle.command_inputs.specs.Programs.{HasTypedFault, IsTypedProgram}
use Rattle.command_shell.proofs.Laws.{may_at, none_opened, reaches_first, stops_at}
use Rattle.command_inputs.proofs.Laws.{judged, judges_refusal, was_read}
use Rattle.pool_driver.proofs.BuiltFiles.{file_is_built}
use Rattle.pool_driver.proofs.TextLaws.{parsed_listed}
use Rattle.pool_driver.proofs.outputs.file_output.Goals as goal

pub read_parsed-requires-clause-allowed : goal.read_parsed-requires-clause-allowed
read_parsed-requires-clause-allowed g c =
    may_at (g.F.Files.may c.args.files.now) (g.F.Files.may c.args.files.now) (inputs (of_program As.File c.args.name.now)) (g.F.Files.opens c.args.files.now) (g.F.Files.opens c.args.files.now) 0 I.Program c.args.name.now c.requires.allowed refl (none_opened (g.F.Files.opens c.args.files.now)) refl

pub file_of_parsed-requires-clause-grammatical : goal.file_of_parsed-requires-clause-grammatical
file_of_parsed-requires-clause-grammatical g c = (was_read _ _ _ _ _ _ c.in-Ok.parsed c.in-Ok.ensures.reads).2.grammatical

pub file_of_parsed-requires-clause-spelled : goal.file_of_parsed-requires-clause-spelled
file_of_parsed-requires-clause-spelled g c = (was_read _ _ _ _ _ _ c.in-Ok.parsed c.in-Ok.ensures.reads).2.spelled

pub file_of_parsed-requires-clause-few : goal.file_of_parsed-requires-clause-few
file_of_parsed-requires-clause-few g c =
    let w = was_read _ _ _ _ _ _ c.in-Ok.parsed c.in-Ok.ensures.reads in
    parsed_listed w.0 c.in-Ok.parsed.names (program_of c.in-Ok.parsed.program) w.2.parsed w.1.0.1

pub returns-in-Err-clause-makes : goal.returns-in-Err-clause-makes
returns-in-Err-clause-makes g c =
    stops_at pool_program text_of status_of_output IsPrintable _ _ _ _ _ _ (of_program As.File c.args.name.now) c.in-Err.stop (reaches_first pool_program _ _ _ _ _ refl c.in-Err.ensures.opened_once) (λ s f h. inl h) (λ s q. (q.0, q.1.0)) c.in-Err.ensures.reads

pub returns-clause-makes : goal.returns-clause-makes
returns-clause-makes g c =
    let stop = c.in-Err-file_of_parsed.stop in
    let h = c.in-Err-file_of_parsed.ensures in
    let reads = judged _ _ _ _ _ _ _ _ IsTypedProgramOf c.in-Ok.parsed _ c.in-Ok.ensures.reads (λ s is.
    judges_refusal I.Program IsTypedProgram HasTypedFault IsTypedProgramOf s stop
    (λ i f e. let why = h.refused i f (ap Err e) in (why.0, inr (program_of c.in-Ok.parsed.program, (c.in-Ok.parsed.names, is.parsed), why.1)))
    (λ i e. h.no_read i (ap Err e))
    (λ q. let z = h.only (ap faults (is.only q.1.0.0 q.0 q.1.0.1).1 ∙ q.1.1) refl in let same : stop ≡ T.Memory = cc in same)) in
    stops_at pool_program text_of status_of_output IsPrintable _ _ _ _ _ _ (of_program As.File c.args.name.now) stop (reaches_first pool_program _ _ _ _ _ refl c.in-Ok.ensures.opened_once) (λ s f x. x) (λ s q. q) reads

pub returns-in-Ok-file_of_parsed-clause-makes : goal.returns-in-Ok-file_of_parsed-clause-makes
returns-in-Ok-file_of_parsed-clause-makes g c =
    let parsed = c.in-Ok.parsed in
    let file = c.in-Ok-file_of_parsed.file in
    let h = c.in-Ok-file_of_parsed.ensures in
    let w = was_read _ _ _ _ _ _ parsed c.in-Ok.ensures.reads in
    let typed = h.typed refl in
    let accepted : IsAccepted [] I.Program w.0 = (program_of parsed.program, ((parsed.names, w.2.parsed), typed)) in
    let built = file_is_built w.0 parsed.names (program_of parsed.program) file w.2.parsed w.2.spelled h.file h.shaped h.short h.good in
    R.made (O.File file) refl (record {
      texts = w.0 ∷ [];
      accepted = (w.1.0, accepted, tt);
      opened = c.in-Ok.ensures.opened_once;
      given = w.1.1;
      ended = w.1.2;
      calm = w.3;
      output = (record { names = parsed.names; program = program_of parsed.program; parsed = w.2.parsed; typed = typed; written = ap file_bytes h.file; built = built }, refl);
    }) (h.shaped, h.short)
