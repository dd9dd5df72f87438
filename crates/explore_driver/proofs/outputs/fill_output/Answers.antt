use Rattle.std.proofs.Common.{◌≡◌, ◌<◌, ◌≤◌, ◌^◌, ℕ, Err, ap, arith, inl, length, [], ◌∷◌, refl, subst, sym}
use Rattle.pool_syntax.specs.Terms.{ProgramTree}
use Rattle.pool_syntax.specs.TreeOf.{program_of}
use Rattle.command_inputs.specs.declared.fault.Fault.{Fault}
use Rattle.command_inputs.specs.declared.fault.Input.TheVariants as I
use Rattle.command_inputs.specs.declared.fault.InputError.TheVariants as T
use Rattle.command_inputs.proofs.Laws.{parsed_few, since, was_read}
use Rattle.command_shell.proofs.Laws.{may_at, none_opened, opened_within, reaches_first, reaches_second, stops_at, two_opened}
use Rattle.explore_driver.specs.Ends.{explore_program, inputs}
use Rattle.explore_driver.specs.Results.{IsWritable, status_of, text_of}
use Rattle.command_inputs.specs.Readers.{HasRecordFault}
use Rattle.explore_driver.specs.Ends.{HasFault}
use Rattle.explore_driver.specs.Outputs.{IsFilledText}
use Rattle.explore_driver.specs.Words.{of_fill}
use Rattle.explore_driver.proofs.OutputLaws.{class_stops, fill_makes, read_again}
use Rattle.explore_driver.proofs.outputs.fill_output.Goals as goal

few : (n m : ℕ) → n ≤ m → m ≤ 1048576 → n < 2 ^ 31
few n m a b = omega (arith, a, b)

record_fault : (source s : _) (f : Fault) → HasRecordFault s f → HasFault (source ∷ []) I.Record s f
record_fault source s f h = subst (λ (x : Fault). HasFault (source ∷ []) I.Record s x) (sym h.1) h.2

pub read_parsed-requires-clause-allowed : goal.read_parsed-requires-clause-allowed
read_parsed-requires-clause-allowed g c =
    let name = c.args.program.now in
    may_at (g.F.Files.may c.args.files.now) (g.F.Files.may c.args.files.now) (inputs (of_fill name c.args.claim.now)) (g.F.Files.opens c.args.files.now) (g.F.Files.opens c.args.files.now) 0 I.Program name
    c.requires.allowed refl (none_opened (g.F.Files.opens c.args.files.now)) refl

pub judge_classes-requires-clause-grammatical : goal.judge_classes-requires-clause-grammatical
judge_classes-requires-clause-grammatical g c = (was_read _ _ _ _ _ _ c.in-Ok.parsed c.in-Ok.ensures.reads).2.grammatical

pub judge_classes-requires-clause-spelled : goal.judge_classes-requires-clause-spelled
judge_classes-requires-clause-spelled g c = (was_read _ _ _ _ _ _ c.in-Ok.parsed c.in-Ok.ensures.reads).2.spelled

pub read_named_lines-requires-clause-allowed : goal.read_named_lines-requires-clause-allowed
read_named_lines-requires-clause-allowed g c =
    let other = c.args.claim.now in
    may_at (g.F.Files.may c.args.files.now) (g.F.Files.may c.read_parsed.new.files) (inputs (of_fill c.args.program.now other)) (g.F.Files.opens c.args.files.now) (g.F.Files.opens c.read_parsed.new.files) 1 I.Record other
    c.requires.allowed c.in-Ok.ensures.same_leave c.in-Ok.ensures.opened_once refl

pub read_named_lines-requires-clause-few : goal.read_named_lines-requires-clause-few
read_named_lines-requires-clause-few g c =
    let w = was_read _ _ _ _ _ _ c.in-Ok.parsed c.in-Ok.ensures.reads in
    few (length c.in-Ok.parsed.names) (length w.0) (parsed_few w.0 c.in-Ok.parsed.names (program_of c.in-Ok.parsed.program) w.2.parsed) w.1.0.1

pub returns-in-Err-clause-makes : goal.returns-in-Err-clause-makes
returns-in-Err-clause-makes g c =
    stops_at explore_program text_of status_of IsWritable _ _ _ _ _ _ (of_fill c.args.program.now c.args.claim.now) c.in-Err.stop
    (reaches_first explore_program _ (of_fill c.args.program.now c.args.claim.now) I.Program c.args.program.now _ refl c.in-Err.ensures.opened_once) (λ s f h. inl h) (λ s q. (q.0, q.1.0)) c.in-Err.ensures.reads

pub returns-in-Err-clause-unread_within : goal.returns-in-Err-clause-unread_within
returns-in-Err-clause-unread_within g c =
    opened_within _ _ _ (inputs (of_fill c.args.program.now c.args.claim.now)) 0 I.Program c.args.program.now refl c.in-Err.ensures.opened_once c.in-Err.ensures.unread_within

pub returns-in-Err-judge_classes-clause-makes : goal.returns-in-Err-judge_classes-clause-makes
returns-in-Err-judge_classes-clause-makes g c =
    let stop = c.in-Err-judge_classes.stop in
    let h = c.in-Err-judge_classes.ensures in
    let reads = class_stops _ _ c.in-Ok.parsed stop c.in-Ok.ensures.reads (λ i f e. h.refused i f (ap Err e)) (λ i e. h.no_read i (ap Err e))
    (λ typed. let z = h.only typed refl in let same : stop ≡ T.Memory = cc in same) in
    stops_at explore_program text_of status_of IsWritable _ _ _ _ _ _ (of_fill c.args.program.now c.args.claim.now) stop
    (reaches_first explore_program _ (of_fill c.args.program.now c.args.claim.now) I.Program c.args.program.now _ refl c.in-Ok.ensures.opened_once) (λ s f x. x) (λ s q. q) reads

pub returns-in-Err-judge_classes-clause-unread_within : goal.returns-in-Err-judge_classes-clause-unread_within
returns-in-Err-judge_classes-clause-unread_within g c =
    opened_within _ _ _ (inputs (of_fill c.args.program.now c.args.claim.now)) 0 I.Program c.args.program.now refl c.in-Ok.ensures.opened_once c.in-Ok.ensures.unread_within

pub returns-in-Err-read_named_lines-clause-makes : goal.returns-in-Err-read_named_lines-clause-makes
returns-in-Err-read_named_lines-clause-makes g c =
    let read = c.in-Ok.parsed in
    let w = was_read _ _ _ _ _ _ read c.in-Ok.ensures.reads in
    let typed = c.in-Ok-judge_classes.ensures.typed refl in
    let opened = two_opened (g.F.Files.opens c.args.files.now) (g.F.Files.opens c.read_parsed.new.files) (g.F.Files.opens c.read_named_lines.new.files) c.in-Ok.ensures.opened_once c.in-Err-read_named_lines.ensures.opened_once in
    stops_at explore_program text_of status_of IsWritable _ _ _ _ _ _ (of_fill c.args.program.now c.args.claim.now) c.in-Err-read_named_lines.stop
    (reaches_second explore_program _ (of_fill c.args.program.now c.args.claim.now) (I.Program, c.args.program.now) I.Record c.args.claim.now _ w.0 refl w.1.0 (program_of read.program, ((read.names, w.2.parsed), typed)) opened)
    (record_fault w.0) (λ s q. q)
    (since _ (g.F.Files.told c.args.files.now) (g.F.Files.opens c.args.files.now) (g.F.Files.faults c.args.files.now) _ _ _ _ _ _ c.in-Ok.ensures.same_texts w.3 c.in-Err-read_named_lines.ensures.reads)

pub returns-in-Err-read_named_lines-clause-unread_within : goal.returns-in-Err-read_named_lines-clause-unread_within
returns-in-Err-read_named_lines-clause-unread_within g c =
    let opened = two_opened (g.F.Files.opens c.args.files.now) (g.F.Files.opens c.read_parsed.new.files) (g.F.Files.opens c.read_named_lines.new.files) c.in-Ok.ensures.opened_once c.in-Err-read_named_lines.ensures.opened_once in
    opened_within _ _ _ (inputs (of_fill c.args.program.now c.args.claim.now)) 1 I.Record c.args.claim.now refl opened c.in-Err-read_named_lines.ensures.unread_within

pub returns-in-Ok-filled-clause-makes : goal.returns-in-Ok-filled-clause-makes
returns-in-Ok-filled-clause-makes g c =
    let read = c.in-Ok.parsed in
    let lines = c.in-Ok-read_named_lines.read in
    let made = c.in-Ok-filled.filled in
    let opens = g.F.Files.opens c.args.files.now in
    let w = was_read _ _ _ _ _ _ read c.in-Ok.ensures.reads in
    let v = was_read _ _ _ _ _ _ lines
    (since _ (g.F.Files.told c.args.files.now) opens (g.F.Files.faults c.args.files.now) _ _ _ _ _ _ c.in-Ok.ensures.same_texts w.3 c.in-Ok-read_named_lines.ensures.reads) in
    let opened = two_opened opens (g.F.Files.opens c.read_parsed.new.files) (g.F.Files.opens c.read_named_lines.new.files) c.in-Ok.ensures.opened_once c.in-Ok-read_named_lines.ensures.opened_once in
    let shows = subst (λ (p : ProgramTree). IsFilledText p lines.names lines.lines made.text.items made.verdict) (ap program_of c.in-Ok-judge_classes.ensures.same.0) c.in-Ok-filled.ensures in
    fill_makes _ c.args.program.now c.args.claim.now w.0 v.0 read lines _ made.verdict w.1.0 w.2 (c.in-Ok-judge_classes.ensures.typed refl) v.1.0 v.2 opened v.1.1 v.1.2 v.3 shows c.status_of_verdict.ensures

pub returns-in-Ok-filled-clause-unread_within : goal.returns-in-Ok-filled-clause-unread_within
returns-in-Ok-filled-clause-unread_within g c =
    let opened = two_opened (g.F.Files.opens c.args.files.now) (g.F.Files.opens c.read_parsed.new.files) (g.F.Files.opens c.read_named_lines.new.files) c.in-Ok.ensures.opened_once c.in-Ok-read_named_lines.ensures.opened_once in
    opened_within _ _ _ (inputs (of_fill c.args.program.now c.args.claim.now)) 1 I.Record c.args.claim.now refl opened c.in-Ok-read_named_lines.ensures.unread_within

pub returns-clause-unread_within : goal.returns-clause-unread_within
returns-clause-unread_within g c =
    let opened = two_opened (g.F.Files.opens c.args.files.now) (g.F.Files.opens c.read_parsed.new.files) (g.F.Files.opens c.read_named_lines.new.files) c.in-Ok.ensures.opened_once c.in-Ok-read_named_lines.ensures.opened_once in
    opened_within _ _ _ (inputs (of_fill c.args.program.now c.args.claim.now)) 1 I.Record c.args.claim.now refl opened c.in-Ok-read_named_lines.ensures.unread_within

pub filled-requires : goal.filled-requires
filled-requires g c =
    let v = was_read _ _ _ _ _ _ c.in-Ok-read_named_lines.read c.in-Ok-read_named_lines.ensures.reads in
    read_again c.in-Ok.parsed.names v.0 c.in-Ok-read_named_lines.read v.2 (c.what_is_read_is_readable.ensures v.0 c.in-Ok.parsed.names v.2.0.0)
