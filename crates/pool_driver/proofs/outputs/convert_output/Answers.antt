use Rattle.std.proofs.Common.{◌∷◌, [], ap₂, refl}
use Rattle.command_inputs.specs.declared.fault.Input.TheVariants as I
use Rattle.record_writer.specs.SecondForm.{text2}
use Rattle.command_line.specs.Commands.{of_convert}
use Rattle.pool_driver.specs.declared.outputs.Output.TheVariants as O
use Rattle.command_shell.specs.Results as R
use Rattle.pool_driver.specs.Ends.{pool_program}
use Rattle.pool_driver.specs.Inputs.{inputs}
use Rattle.pool_driver.specs.Readers.{IsPrintable, status_of_output, text_of}
use Rattle.command_shell.proofs.Laws.{may_at, none_opened, reaches_first, stops_at}
use Rattle.pool_driver.proofs.OutputLaws.{record_fault}
use Rattle.command_inputs.proofs.Laws.{was_read}
use Rattle.pool_driver.proofs.outputs.convert_output.Goals as goal

pub read_recorded-requires-clause-allowed : goal.read_recorded-requires-clause-allowed
read_recorded-requires-clause-allowed g c =
    may_at (g.F.Files.may c.args.files.now) (g.F.Files.may c.args.files.now) (inputs (of_convert c.args.name.now)) (g.F.Files.opens c.args.files.now) (g.F.Files.opens c.args.files.now) 0 I.Record c.args.name.now c.requires.allowed refl (none_opened (g.F.Files.opens c.args.files.now)) refl

pub returns-in-Ok-clause-makes : goal.returns-in-Ok-clause-makes
returns-in-Ok-clause-makes g c =
    let recorded = c.in-Ok.recorded in
    let w = was_read _ _ _ _ _ _ recorded c.in-Ok.ensures.reads in
    let is = w.2 in
    R.made (O.Converted recorded) refl (record {
      texts = w.0 ∷ [];
      accepted = (w.1.0, is.faultless, tt);
      opened = c.in-Ok.ensures.opened_once;
      given = w.1.1;
      ended = w.1.2;
      calm = w.3;
      output = (record { faultless = is.faultless; written = ap₂ text2 is.names is.lines }, refl);
    }) is.showable

pub returns-in-Err-clause-makes : goal.returns-in-Err-clause-makes
returns-in-Err-clause-makes g c =
    stops_at pool_program text_of status_of_output IsPrintable _ _ _ _ _ _ (of_convert c.args.name.now) c.in-Err.stop (reaches_first pool_program _ _ _ _ _ refl c.in-Err.ensures.opened_once) record_fault (λ s q. q) c.in-Err.ensures.reads
