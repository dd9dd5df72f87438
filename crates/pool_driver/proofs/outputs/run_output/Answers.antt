use Rattle.std.proofs.Common.{◌∙◌, ◌∷◌, [], refl}
use Rattle.command_inputs.specs.declared.fault.Input.TheVariants as I
use Rattle.pool_driver.specs.declared.outputs.Output.TheVariants as O
use Rattle.command_line.specs.Commands.{of_run}
use Rattle.command_line.specs.Requests.{names_of}
use Rattle.command_shell.specs.Results as R
use Rattle.pool_driver.specs.Ends.{pool_program}
use Rattle.pool_driver.specs.Inputs.{inputs}
use Rattle.pool_driver.specs.Readers.{IsPrintable, status_of_output, text_of}
use Rattle.command_shell.proofs.Laws.{may_at, none_opened, reaches_first, reaches_second, reaches_third, stops_at, three_opened, two_opened}
use Rattle.pool_driver.proofs.OutputLaws.{accepts, placement_accepted, placement_fault, places, schedule_accepted, schedule_fault}
use Rattle.command_inputs.proofs.Laws.{since, was_read}
use Rattle.pool_driver.proofs.RunLaws.{loaded, run_is}
use Rattle.pool_driver.proofs.outputs.run_output.Goals as goal

pub read_unit-requires-clause-allowed : goal.read_unit-requires-clause-allowed
read_unit-requires-clause-allowed g c =
    let names = names_of c.args.names in
    may_at (g.F.Files.may c.args.files.now) (g.F.Files.may c.args.files.now) (inputs (of_run c.args.show names)) (g.F.Files.opens c.args.files.now) (g.F.Files.opens c.args.files.now) 0 I.Program names.program c.requires.allowed refl (none_opened (g.F.Files.opens c.args.files.now)) refl

pub returns-in-Err-clause-makes : goal.returns-in-Err-clause-makes
returns-in-Err-clause-makes g c =
    let names = names_of c.args.names in
    stops_at pool_program text_of status_of_output IsPrintable _ _ _ _ _ _ (of_run c.args.show names) c.in-Err.stop (reaches_first pool_program _ _ _ _ _ refl c.in-Err.ensures.opened_once) (λ s f h. h) (λ s q. q) c.in-Err.ensures.reads

pub read_placed-requires-clause-allowed : goal.read_placed-requires-clause-allowed
read_placed-requires-clause-allowed g c =
    let names = names_of c.args.names in
    may_at (g.F.Files.may c.args.files.now) (g.F.Files.may c.read_unit.new.files) (inputs (of_run c.args.show names)) (g.F.Files.opens c.args.files.now) (g.F.Files.opens c.read_unit.new.files) 1 I.Placement names.placement c.requires.allowed c.in-Ok.ensures.same_leave c.in-Ok.ensures.opened_once refl

pub returns-in-Err-read_placed-clause-makes : goal.returns-in-Err-read_placed-clause-makes
returns-in-Err-read_placed-clause-makes g c =
    let names = names_of c.args.names in
    let unit = c.in-Ok.unit in
    let w = was_read _ _ _ _ _ _ unit c.in-Ok.ensures.reads in
    let opened = two_opened (g.F.Files.opens c.args.files.now) (g.F.Files.opens c.read_unit.new.files) (g.F.Files.opens c.read_placed.new.files) c.in-Ok.ensures.opened_once c.in-Err-read_placed.ensures.opened_once in
    stops_at pool_program text_of status_of_output IsPrintable _ _ _ _ _ _ (of_run c.args.show names) c.in-Err-read_placed.stop (reaches_second pool_program _ _ _ _ _ _ w.0 refl w.1.0 (accepts w.0 unit w.2) opened)
    (placement_fault w.0 unit w.2) (placement_accepted w.0 unit w.2)
    (since _ (g.F.Files.told c.args.files.now) (g.F.Files.opens c.args.files.now) (g.F.Files.faults c.args.files.now) _ _ _ _ _ _ c.in-Ok.ensures.same_texts w.3 c.in-Err-read_placed.ensures.reads)

pub read_scheduled-requires-clause-allowed : goal.read_scheduled-requires-clause-allowed
read_scheduled-requires-clause-allowed g c =
    let names = names_of c.args.names in
    let opened = two_opened (g.F.Files.opens c.args.files.now) (g.F.Files.opens c.read_unit.new.files) (g.F.Files.opens c.read_placed.new.files) c.in-Ok.ensures.opened_once c.in-Ok-read_placed.ensures.opened_once in
    may_at (g.F.Files.may c.args.files.now) (g.F.Files.may c.read_placed.new.files) (inputs (of_run c.args.show names)) (g.F.Files.opens c.args.files.now) (g.F.Files.opens c.read_placed.new.files) 2 I.Schedule names.schedule c.requires.allowed
    (c.in-Ok-read_placed.ensures.same_leave ∙ c.in-Ok.ensures.same_leave) opened refl

pub read_scheduled-requires-clause-width : goal.read_scheduled-requires-clause-width
read_scheduled-requires-clause-width g c = (was_read _ _ _ _ _ _ c.in-Ok-read_placed.placement c.in-Ok-read_placed.ensures.reads).2.1.width

pub read_scheduled-requires-clause-height : goal.read_scheduled-requires-clause-height
read_scheduled-requires-clause-height g c = (was_read _ _ _ _ _ _ c.in-Ok-read_placed.placement c.in-Ok-read_placed.ensures.reads).2.1.height

pub returns-in-Err-read_scheduled-clause-makes : goal.returns-in-Err-read_scheduled-clause-makes
returns-in-Err-read_scheduled-clause-makes g c =
    let names = names_of c.args.names in
    let told = g.F.Files.told c.args.files.now in
    let opens = g.F.Files.opens c.args.files.now in
    let faulted = g.F.Files.faults c.args.files.now in
    let unit = c.in-Ok.unit in
    let placement = c.in-Ok-read_placed.placement in
    let w = was_read _ _ _ _ _ _ unit c.in-Ok.ensures.reads in
    let v = was_read _ _ _ _ _ _ placement (since _ told opens faulted _ _ _ _ _ _ c.in-Ok.ensures.same_texts w.3 c.in-Ok-read_placed.ensures.reads) in
    let opened = three_opened opens (g.F.Files.opens c.read_unit.new.files) (g.F.Files.opens c.read_placed.new.files) (g.F.Files.opens c.read_scheduled.new.files)
    c.in-Ok.ensures.opened_once c.in-Ok-read_placed.ensures.opened_once c.in-Err-read_scheduled.ensures.opened_once in
    stops_at pool_program text_of status_of_output IsPrintable _ _ _ _ _ _ (of_run c.args.show names) c.in-Err-read_scheduled.stop
    (reaches_third pool_program _ _ _ _ _ _ _ w.0 v.0 refl w.1.0 (accepts w.0 unit w.2) v.1.0 (placement, places w.0 unit w.2 v.0 placement v.2.0) opened)
    (schedule_fault w.0 unit w.2 v.0 placement v.2.0) (schedule_accepted w.0 unit w.2 v.0 placement v.2.0)
    (since _ told opens faulted _ _ _ _ _ _ (c.in-Ok-read_placed.ensures.same_texts ∙ c.in-Ok.ensures.same_texts) v.3 c.in-Err-read_scheduled.ensures.reads)

pub returns-clause-makes : goal.returns-clause-makes
returns-clause-makes g c =
    let names = names_of c.args.names in
    let told = g.F.Files.told c.args.files.now in
    let opens = g.F.Files.opens c.args.files.now in
    let faulted = g.F.Files.faults c.args.files.now in
    let unit = c.in-Ok.unit in
    let placement = c.in-Ok-read_placed.placement in
    let schedule = c.in-Ok-read_scheduled.schedule in
    let w = was_read _ _ _ _ _ _ unit c.in-Ok.ensures.reads in
    let v = was_read _ _ _ _ _ _ placement (since _ told opens faulted _ _ _ _ _ _ c.in-Ok.ensures.same_texts w.3 c.in-Ok-read_placed.ensures.reads) in
    let u = was_read _ _ _ _ _ _ schedule (since _ told opens faulted _ _ _ _ _ _ (c.in-Ok-read_placed.ensures.same_texts ∙ c.in-Ok.ensures.same_texts) v.3 c.in-Ok-read_scheduled.ensures.reads) in
    R.made (O.Run c.args.show (record { unit = unit; placement = placement; schedule = schedule })) refl (record {
      texts = w.0 ∷ v.0 ∷ u.0 ∷ [];
      accepted = (w.1.0, accepts w.0 unit w.2, (v.1.0, (placement, places w.0 unit w.2 v.0 placement v.2.0), (u.1.0, (placement, schedule, places w.0 unit w.2 v.0 placement v.2.0, u.2), tt)));
      opened = three_opened opens (g.F.Files.opens c.read_unit.new.files) (g.F.Files.opens c.read_placed.new.files) (g.F.Files.opens c.read_scheduled.new.files)
          c.in-Ok.ensures.opened_once c.in-Ok-read_placed.ensures.opened_once c.in-Ok-read_scheduled.ensures.opened_once;
      given = u.1.1;
      ended = u.1.2;
      calm = u.3;
      output = run_is w.0 v.0 u.0 unit placement schedule w.2 v.2 u.2 c.args.show;
    }) (loaded w.0 v.0 u.0 unit placement schedule w.2 v.2 u.2)
