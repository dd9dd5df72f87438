use Rattle.std.proofs.Common.{◌∷◌, [], refl, ap}
use Rattle.object_code.specs.Listing.{listing}
use Rattle.command_inputs.specs.declared.fault.Input.TheVariants as I
use Rattle.command_line.specs.declared.command.Ask.TheVariants as As
use Rattle.pool_driver.specs.declared.outputs.Output.TheVariants as O
use Rattle.command_line.specs.Commands.{of_program}
use Rattle.command_shell.specs.Results as R
use Rattle.pool_driver.specs.Ends.{pool_program}
use Rattle.pool_driver.specs.Inputs.{inputs}
use Rattle.pool_driver.specs.Readers.{IsPrintable, status_of_output, text_of}
use Rattle.command_shell.proofs.Laws.{may_at, none_opened, reaches_first, stops_at}
use Rattle.pool_driver.proofs.OutputLaws.{accepts}
use Rattle.command_inputs.proofs.Laws.{was_read}
use Rattle.pool_driver.proofs.outputs.listing_output.Goals as goal

pub read_unit-requires-clause-allowed : goal.read_unit-requires-clause-allowed
read_unit-requires-clause-allowed g c =
    may_at (g.F.Files.may c.args.files.now) (g.F.Files.may c.args.files.now) (inputs (of_program As.Listing c.args.name.now)) (g.F.Files.opens c.args.files.now) (g.F.Files.opens c.args.files.now) 0 I.Program c.args.name.now c.requires.allowed refl (none_opened (g.F.Files.opens c.args.files.now)) refl

pub returns-in-Ok-clause-makes : goal.returns-in-Ok-clause-makes
returns-in-Ok-clause-makes g c =
    let unit = c.in-Ok.unit in
    let w = was_read _ _ _ _ _ _ unit c.in-Ok.ensures.reads in
    let is = w.2 in
    R.made (O.Listing unit) refl (record {
      texts = w.0 ∷ [];
      accepted = (w.1.0, accepts w.0 unit is, tt);
      opened = c.in-Ok.ensures.opened_once;
      given = w.1.1;
      ended = w.1.2;
      calm = w.3;
      output = (record { names = is.code.names; program = is.code.program; parsed = is.code.parsed; typed = is.code.typed; written = ap listing is.code.coded; built = tt }, refl);
    }) is.proper

pub returns-in-Err-clause-makes : goal.returns-in-Err-clause-makes
returns-in-Err-clause-makes g c =
    stops_at pool_program text_of status_of_output IsPrintable _ _ _ _ _ _ (of_program As.Listing c.args.name.now) c.in-Err.stop (reaches_first pool_program _ _ _ _ _ refl c.in-Err.ensures.opened_once) (λ s f h. h) (λ s q. q) c.in-Err.ensures.reads
