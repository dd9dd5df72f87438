use Rattle.std.proofs.Common.{◌∙◌, ◌∷◌, [], refl, arith}
use Rattle.command_inputs.specs.declared.fault.Input.TheVariants as I
use Rattle.pool_driver.specs.declared.outputs.Output.TheVariants as O
use Rattle.command_line.specs.declared.command.Show.TheVariants as Sh
use Rattle.command_line.specs.Commands.{of_load}
use Rattle.command_shell.specs.Results as R
use Rattle.command_inputs.specs.Inputs.{most_bytes}
use Rattle.pool_driver.specs.Ends.{pool_program}
use Rattle.pool_driver.specs.Inputs.{inputs}
use Rattle.pool_driver.specs.Readers.{IsPrintable, status_of_output, text_of}
use Rattle.command_shell.proofs.Laws.{all_within, may_at, none_opened, opened_within, reaches_first, reaches_second, reaches_third, stops_at, three_opened, two_opened}
use Rattle.pool_driver.proofs.OutputLaws.{file_accepted, file_fault, file_placement_accepted, file_placement_fault, file_places, file_schedule_accepted, file_schedule_fault}
use Rattle.command_inputs.proofs.Laws.{since, was_read}
use Rattle.pool_driver.proofs.RunLaws.{file_is_loaded, load_is}
use Rattle.pool_driver.proofs.outputs.load_output.Goals as goal

pub read_file-requires-clause-allowed : goal.read_file-requires-clause-allowed
read_file-requires-clause-allowed g c =
    may_at (g.F.Files.may c.args.files.now) (g.F.Files.may c.args.files.now) (inputs (of_load c.args.file.now c.args.place.now c.args.plan.now)) (g.F.Files.opens c.args.files.now) (g.F.Files.opens c.args.files.now) 0 I.Unit c.args.file.now c.requires.allowed refl (none_opened (g.F.Files.opens c.args.files.now)) refl

pub returns-in-Err-clause-makes : goal.returns-in-Err-clause-makes
returns-in-Err-clause-makes g c =
    stops_at pool_program text_of status_of_output IsPrintable _ _ _ _ _ _ (of_load c.args.file.now c.args.place.now c.args.plan.now) c.in-Err.stop (reaches_first pool_program _ _ _ _ _ refl c.in-Err.ensures.opened_once) file_fault (λ s q. q) c.in-Err.ensures.reads

pub read_placed-requires-clause-allowed : goal.read_placed-requires-clause-allowed
read_placed-requires-clause-allowed g c =
    may_at (g.F.Files.may c.args.files.now) (g.F.Files.may c.read_file.new.files) (inputs (of_load c.args.file.now c.args.place.now c.args.plan.now)) (g.F.Files.opens c.args.files.now) (g.F.Files.opens c.read_file.new.files) 1 I.Placement c.args.place.now c.requires.allowed c.in-Ok.ensures.same_leave c.in-Ok.ensures.opened_once refl

pub returns-in-Err-read_placed-clause-makes : goal.returns-in-Err-read_placed-clause-makes
returns-in-Err-read_placed-clause-makes g c =
    let unit = c.in-Ok.unit in
    let w = was_read _ _ _ _ _ _ unit c.in-Ok.ensures.reads in
    let opened = two_opened (g.F.Files.opens c.args.files.now) (g.F.Files.opens c.read_file.new.files) (g.F.Files.opens c.read_placed.new.files) c.in-Ok.ensures.opened_once c.in-Err-read_placed.ensures.opened_once in
    stops_at pool_program text_of status_of_output IsPrintable _ _ _ _ _ _ (of_load c.args.file.now c.args.place.now c.args.plan.now) c.in-Err-read_placed.stop (reaches_second pool_program _ _ _ _ _ _ w.0 refl w.1.0 (file_accepted w.0 unit w.2) opened)
    (file_placement_fault w.0 unit w.2) (file_placement_accepted w.0 unit w.2)
    (since _ (g.F.Files.told c.args.files.now) (g.F.Files.opens c.args.files.now) (g.F.Files.faults c.args.files.now) _ _ _ _ _ _ c.in-Ok.ensures.same_texts w.3 c.in-Err-read_placed.ensures.reads)

pub read_scheduled-requires-clause-allowed : goal.read_scheduled-requires-clause-allowed
read_scheduled-requires-clause-allowed g c =
    let opened = two_opened (g.F.Files.opens c.args.files.now) (g.F.Files.opens c.read_file.new.files) (g.F.Files.opens c.read_placed.new.files) c.in-Ok.ensures.opened_once c.in-Ok-read_placed.ensures.opened_once in
    may_at (g.F.Files.may c.args.files.now) (g.F.Files.may c.read_placed.new.files) (inputs (of_load c.args.file.now c.args.place.now c.args.plan.now)) (g.F.Files.opens c.args.files.now) (g.F.Files.opens c.read_placed.new.files) 2 I.Schedule c.args.plan.now c.requires.allowed
    (c.in-Ok-read_placed.ensures.same_leave ∙ c.in-Ok.ensures.same_leave) opened refl

pub read_scheduled-requires-clause-width : goal.read_scheduled-requires-clause-width
read_scheduled-requires-clause-width g c = (was_read _ _ _ _ _ _ c.in-Ok-read_placed.placement c.in-Ok-read_placed.ensures.reads).2.1.width

pub read_scheduled-requires-clause-height : goal.read_scheduled-requires-clause-height
read_scheduled-requires-clause-height g c = (was_read _ _ _ _ _ _ c.in-Ok-read_placed.placement c.in-Ok-read_placed.ensures.reads).2.1.height

pub returns-in-Err-read_scheduled-clause-makes : goal.returns-in-Err-read_scheduled-clause-makes
returns-in-Err-read_scheduled-clause-makes g c =
    let told = g.F.Files.told c.args.files.now in
    let opens = g.F.Files.opens c.args.files.now in
    let faulted = g.F.Files.faults c.args.files.now in
    let unit = c.in-Ok.unit in
    let placement = c.in-Ok-read_placed.placement in
    let w = was_read _ _ _ _ _ _ unit c.in-Ok.ensures.reads in
    let v = was_read _ _ _ _ _ _ placement (since _ told opens faulted _ _ _ _ _ _ c.in-Ok.ensures.same_texts w.3 c.in-Ok-read_placed.ensures.reads) in
    let opened = three_opened opens (g.F.Files.opens c.read_file.new.files) (g.F.Files.opens c.read_placed.new.files) (g.F.Files.opens c.read_scheduled.new.files)
    c.in-Ok.ensures.opened_once c.in-Ok-read_placed.ensures.opened_once c.in-Err-read_scheduled.ensures.opened_once in
    stops_at pool_program text_of status_of_output IsPrintable _ _ _ _ _ _ (of_load c.args.file.now c.args.place.now c.args.plan.now) c.in-Err-read_scheduled.stop
    (reaches_third pool_program _ _ _ _ _ _ _ w.0 v.0 refl w.1.0 (file_accepted w.0 unit w.2) v.1.0 (placement, file_places w.0 unit w.2 v.0 placement v.2.0) opened)
    (file_schedule_fault w.0 unit w.2 v.0 placement v.2.0) (file_schedule_accepted w.0 unit w.2 v.0 placement v.2.0)
    (since _ told opens faulted _ _ _ _ _ _ (c.in-Ok-read_placed.ensures.same_texts ∙ c.in-Ok.ensures.same_texts) v.3 c.in-Err-read_scheduled.ensures.reads)

pub returns-clause-makes : goal.returns-clause-makes
returns-clause-makes g c =
    let told = g.F.Files.told c.args.files.now in
    let opens = g.F.Files.opens c.args.files.now in
    let faulted = g.F.Files.faults c.args.files.now in
    let unit = c.in-Ok.unit in
    let placement = c.in-Ok-read_placed.placement in
    let schedule = c.in-Ok-read_scheduled.schedule in
    let w = was_read _ _ _ _ _ _ unit c.in-Ok.ensures.reads in
    let v = was_read _ _ _ _ _ _ placement (since _ told opens faulted _ _ _ _ _ _ c.in-Ok.ensures.same_texts w.3 c.in-Ok-read_placed.ensures.reads) in
    let u = was_read _ _ _ _ _ _ schedule (since _ told opens faulted _ _ _ _ _ _ (c.in-Ok-read_placed.ensures.same_texts ∙ c.in-Ok.ensures.same_texts) v.3 c.in-Ok-read_scheduled.ensures.reads) in
    R.made (O.Run Sh.Record (record { unit = unit; placement = placement; schedule = schedule })) refl (record {
      texts = w.0 ∷ v.0 ∷ u.0 ∷ [];
      accepted = (w.1.0, file_accepted w.0 unit w.2, (v.1.0, (placement, file_places w.0 unit w.2 v.0 placement v.2.0), (u.1.0, (placement, schedule, file_places w.0 unit w.2 v.0 placement v.2.0, u.2), tt)));
      opened = three_opened opens (g.F.Files.opens c.read_file.new.files) (g.F.Files.opens c.read_placed.new.files) (g.F.Files.opens c.read_scheduled.new.files)
          c.in-Ok.ensures.opened_once c.in-Ok-read_placed.ensures.opened_once c.in-Ok-read_scheduled.ensures.opened_once;
      given = u.1.1;
      ended = u.1.2;
      calm = u.3;
      output = load_is w.0 v.0 u.0 unit placement schedule w.2 v.2 u.2;
    }) (file_is_loaded w.0 v.0 u.0 unit placement schedule w.2 v.2 u.2)

pub returns-in-Err-clause-unread_within : goal.returns-in-Err-clause-unread_within
returns-in-Err-clause-unread_within g c = opened_within _ _ _ (inputs (of_load c.args.file.now c.args.place.now c.args.plan.now)) 0 I.Unit c.args.file.now refl c.in-Err.ensures.opened_once c.in-Err.ensures.unread_within

pub returns-in-Err-read_placed-clause-unread_within : goal.returns-in-Err-read_placed-clause-unread_within
returns-in-Err-read_placed-clause-unread_within g c = all_within _ _ _ most_bytes (inputs (of_load c.args.file.now c.args.place.now c.args.plan.now)) (omega arith, (omega arith, (omega arith, tt))) c.in-Err-read_placed.ensures.unread_within

pub returns-in-Err-read_scheduled-clause-unread_within : goal.returns-in-Err-read_scheduled-clause-unread_within
returns-in-Err-read_scheduled-clause-unread_within g c = all_within _ _ _ most_bytes (inputs (of_load c.args.file.now c.args.place.now c.args.plan.now)) (omega arith, (omega arith, (omega arith, tt))) c.in-Err-read_scheduled.ensures.unread_within

pub returns-clause-unread_within : goal.returns-clause-unread_within
returns-clause-unread_within g c = all_within _ _ _ most_bytes (inputs (of_load c.args.file.now c.args.place.now c.args.plan.now)) (omega arith, (omega arith, (omega arith, tt))) c.in-Ok-read_scheduled.ensures.unread_within
