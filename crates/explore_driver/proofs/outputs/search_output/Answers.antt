use Rattle.std.proofs.Common.{◌≡◌, Err, ap, inl, refl, subst}
use Rattle.pool_syntax.specs.Terms.{ProgramTree}
use Rattle.pool_syntax.specs.TreeOf.{program_of}
use Rattle.command_inputs.specs.declared.fault.Input.TheVariants as I
use Rattle.command_inputs.specs.declared.fault.InputError.TheVariants as T
use Rattle.command_inputs.proofs.Laws.{was_read}
use Rattle.command_shell.proofs.Laws.{may_at, none_opened, opened_within, stops_at}
use Rattle.explore_driver.specs.Ends.{explore_program, inputs}
use Rattle.explore_driver.specs.Results.{IsWritable, status_of, text_of}
use Rattle.explore_driver.specs.Words.{of_search}
use Rattle.search_text.specs.Answers.{IsAnswerTo}
use Rattle.search_text.specs.Inquiries.{inquiry}
use Rattle.explore_driver.proofs.OutputLaws.{class_stops, reaches_program, search_makes}
use Rattle.explore_driver.proofs.outputs.search_output.Goals as goal

pub read_parsed-requires-clause-allowed : goal.read_parsed-requires-clause-allowed
read_parsed-requires-clause-allowed g c =
    let name = c.args.name.now in
    may_at (g.F.Files.may c.args.files.now) (g.F.Files.may c.args.files.now) (inputs (of_search (inquiry c.args.question.now) name)) (g.F.Files.opens c.args.files.now) (g.F.Files.opens c.args.files.now) 0 I.Program name
    c.requires.allowed refl (none_opened (g.F.Files.opens c.args.files.now)) refl

pub judge_classes-requires-clause-grammatical : goal.judge_classes-requires-clause-grammatical
judge_classes-requires-clause-grammatical g c = (was_read _ _ _ _ _ _ c.in-Ok.parsed c.in-Ok.ensures.reads).2.grammatical

pub judge_classes-requires-clause-spelled : goal.judge_classes-requires-clause-spelled
judge_classes-requires-clause-spelled g c = (was_read _ _ _ _ _ _ c.in-Ok.parsed c.in-Ok.ensures.reads).2.spelled

pub returns-in-Err-clause-makes : goal.returns-in-Err-clause-makes
returns-in-Err-clause-makes g c =
    stops_at explore_program text_of status_of IsWritable _ _ _ _ _ _ (of_search (inquiry c.args.question.now) c.args.name.now) c.in-Err.stop
    (reaches_program _ (inquiry c.args.question.now) c.args.name.now c.in-Err.ensures.opened_once) (λ s f h. inl h) (λ s q. (q.0, q.1.0)) c.in-Err.ensures.reads

pub returns-in-Err-clause-unread_within : goal.returns-in-Err-clause-unread_within
returns-in-Err-clause-unread_within g c =
    opened_within _ _ _ (inputs (of_search (inquiry c.args.question.now) c.args.name.now)) 0 I.Program c.args.name.now refl c.in-Err.ensures.opened_once c.in-Err.ensures.unread_within

pub returns-in-Err-judge_classes-clause-makes : goal.returns-in-Err-judge_classes-clause-makes
returns-in-Err-judge_classes-clause-makes g c =
    let stop = c.in-Err-judge_classes.stop in
    let h = c.in-Err-judge_classes.ensures in
    let reads = class_stops _ _ c.in-Ok.parsed stop c.in-Ok.ensures.reads (λ i f e. h.refused i f (ap Err e)) (λ i e. h.no_read i (ap Err e))
    (λ typed. let z = h.only typed refl in let same : stop ≡ T.Memory = cc in same) in
    stops_at explore_program text_of status_of IsWritable _ _ _ _ _ _ (of_search (inquiry c.args.question.now) c.args.name.now) stop
    (reaches_program _ (inquiry c.args.question.now) c.args.name.now c.in-Ok.ensures.opened_once) (λ s f x. x) (λ s q. q) reads

pub returns-in-Err-judge_classes-clause-unread_within : goal.returns-in-Err-judge_classes-clause-unread_within
returns-in-Err-judge_classes-clause-unread_within g c =
    opened_within _ _ _ (inputs (of_search (inquiry c.args.question.now) c.args.name.now)) 0 I.Program c.args.name.now refl c.in-Ok.ensures.opened_once c.in-Ok.ensures.unread_within

pub returns-in-Ok-answer_of-clause-makes : goal.returns-in-Ok-answer_of-clause-makes
returns-in-Ok-answer_of-clause-makes g c =
    let read = c.in-Ok.parsed in
    let q = inquiry c.args.question.now in
    let a = c.in-Ok-answer_of.answer in
    let w = was_read _ _ _ _ _ _ read c.in-Ok.ensures.reads in
    search_makes _ q c.args.name.now w.0 read _ a.found w.1.0 w.2 (c.in-Ok-judge_classes.ensures.typed refl) c.in-Ok.ensures.opened_once w.1.1 w.1.2 w.3
    (subst (λ (p : ProgramTree). IsAnswerTo read.names p q a.text.items a.found) (ap program_of c.in-Ok-judge_classes.ensures.same.0) c.in-Ok-answer_of.ensures) c.status_of_found.ensures

pub returns-in-Ok-answer_of-clause-unread_within : goal.returns-in-Ok-answer_of-clause-unread_within
returns-in-Ok-answer_of-clause-unread_within g c =
    opened_within _ _ _ (inputs (of_search (inquiry c.args.question.now) c.args.name.now)) 0 I.Program c.args.name.now refl c.in-Ok.ensures.opened_once c.in-Ok.ensures.unread_within

pub returns-clause-unread_within : goal.returns-clause-unread_within
returns-clause-unread_within g c =
    opened_within _ _ _ (inputs (of_search (inquiry c.args.question.now) c.args.name.now)) 0 I.Program c.args.name.now refl c.in-Ok.ensures.opened_once c.in-Ok.ensures.unread_within
