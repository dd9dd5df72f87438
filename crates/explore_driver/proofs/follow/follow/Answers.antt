use Rattle.std.proofs.Common.{◌≡◌, ◌<◌, ◌≤◌, ◌^◌, ℕ, Err, [], ap, arith, inl, inr, length, refl}
use Rattle.pool_syntax.specs.TreeOf.{program_of}
use Rattle.command_inputs.specs.declared.fault.Input.TheVariants as I
use Rattle.command_inputs.specs.declared.fault.InputError.TheVariants as T
use Rattle.command_inputs.proofs.Laws.{parsed_few, was_read}
use Rattle.command_shell.proofs.Laws.{may_at, none_opened, reaches_first, stop_completes, stop_ends, stops_at, two_opened}
use Rattle.command_shell.specs.declared.status.Status.TheVariants as S
use Rattle.command_shell.specs.Writing.{writing}
use Rattle.pool_outside.specs.Reading.{reading}
use Rattle.explore_driver.specs.declared.follow.Followed.TheVariants as E
use Rattle.explore_driver.specs.Ends.{explore_program, files_of}
use Rattle.explore_driver.specs.Results.{IsWritable, status_of, text_of}
use Rattle.explore_driver.specs.Words.{of_follow}
use Rattle.explore_driver.proofs.FollowLaws.{cut_ends, ends_as, following_completes, read_as, stopped_ends, stream_since, verdict_ends}
use Rattle.explore_driver.proofs.OutputLaws.{class_stops, output_whole}
use Rattle.explore_driver.proofs.follow.follow.Goals as goal

few : (n m : ℕ) → n ≤ m → m ≤ 1048576 → n < 2 ^ 32
few n m a b = omega (arith, a, b)

pub read_parsed-requires-clause-allowed : goal.read_parsed-requires-clause-allowed
read_parsed-requires-clause-allowed g c =
    let name = c.args.program.now in
    let opens = g.F.Files.opens c.args.files.now in
    may_at (g.F.Files.may c.args.files.now) (g.F.Files.may c.args.files.now) (files_of (of_follow c.args.fills name c.args.stream.now)) opens opens 0 I.Program name c.requires.allowed refl (none_opened opens) refl

pub follow_stream-requires-clause-allowed : goal.follow_stream-requires-clause-allowed
follow_stream-requires-clause-allowed g c =
    may_at (g.F.Files.may c.args.files.now) (g.F.Files.may c.read_parsed.new.files) (files_of (of_follow c.args.fills c.args.program.now c.args.stream.now)) (g.F.Files.opens c.args.files.now) (g.F.Files.opens c.read_parsed.new.files) 1 I.Record c.args.stream.now
    c.requires.allowed c.in-Ok.ensures.same_leave c.in-Ok.ensures.opened_once refl

pub follow_stream-requires-clause-few : goal.follow_stream-requires-clause-few
follow_stream-requires-clause-few g c =
    let w = was_read _ _ _ _ _ _ c.in-Ok.parsed c.in-Ok.ensures.reads in
    few (length c.in-Ok.parsed.names) (length w.0) (parsed_few w.0 c.in-Ok.parsed.names (program_of c.in-Ok.parsed.program) w.2.parsed) w.1.0.1

pub follow_stream-requires-clause-fresh : goal.follow_stream-requires-clause-fresh
follow_stream-requires-clause-fresh g c =
    let names = c.in-Ok.parsed.names in read_as c.args.fills (program_of c.in-Ok-judge_classes.checked.program.now) names [] c.in-Ok-make.judge (c.in-Ok-make.ensures names)

pub returns-in-Err-clause-ends : goal.returns-in-Err-clause-ends
returns-in-Err-clause-ends g c =
    let r = of_follow c.args.fills c.args.program.now c.args.stream.now in
    inl (stop_ends explore_program text_of status_of IsWritable _ _ _ _ r c.in-Err.stop c.say_stop.result refl
    (stops_at explore_program text_of status_of IsWritable _ _ _ _ _ _ r c.in-Err.stop (reaches_first explore_program _ r I.Program c.args.program.now [] refl c.in-Err.ensures.opened_once) (λ s f h. inl h) (λ s q. (q.0, q.1.0)) c.in-Err.ensures.reads)
    c.say_stop.ensures (refl, refl))

pub returns-in-Err-judge_classes-clause-ends : goal.returns-in-Err-judge_classes-clause-ends
returns-in-Err-judge_classes-clause-ends g c =
    let r = of_follow c.args.fills c.args.program.now c.args.stream.now in
    let stop = c.in-Err-judge_classes.stop in
    let h = c.in-Err-judge_classes.ensures in
    let reads = class_stops _ _ c.in-Ok.parsed stop c.in-Ok.ensures.reads (λ i f e. h.refused i f (ap Err e)) (λ i e. h.no_read i (ap Err e))
    (λ typed. let z = h.only typed refl in let same : stop ≡ T.Memory = cc in same) in
    inl (stop_ends explore_program text_of status_of IsWritable _ _ _ _ r stop c.say_stop-in-Err-judge_classes.result refl
    (stops_at explore_program text_of status_of IsWritable _ _ _ _ _ _ r stop (reaches_first explore_program _ r I.Program c.args.program.now [] refl c.in-Ok.ensures.opened_once) (λ s f x. x) (λ s q. q) reads)
    c.say_stop-in-Err-judge_classes.ensures (refl, refl))

pub returns-in-Err-judge_classes-clause-complete : goal.returns-in-Err-judge_classes-clause-complete
returns-in-Err-judge_classes-clause-complete g c served read out err =
    let r = of_follow c.args.fills c.args.program.now c.args.stream.now in
    let stop = c.in-Err-judge_classes.stop in
    let h = c.in-Err-judge_classes.ensures in
    let reads = class_stops _ _ c.in-Ok.parsed stop c.in-Ok.ensures.reads (λ i f e. h.refused i f (ap Err e)) (λ i e. h.no_read i (ap Err e))
    (λ typed. let z = h.only typed refl in let same : stop ≡ T.Memory = cc in same) in
    stop_completes explore_program text_of status_of IsWritable output_whole _ _ _ (g.K.Sink.written c.args.out.now) (g.K.Sink.faults c.args.out.now) r stop c.say_stop-in-Err-judge_classes.result refl
    (stops_at explore_program text_of status_of IsWritable _ _ _ _ _ _ r stop (reaches_first explore_program _ r I.Program c.args.program.now [] refl c.in-Ok.ensures.opened_once) (λ s f x. x) (λ s q. q) reads)
    c.say_stop-in-Err-judge_classes.ensures r refl served.0 (λ i f h. h) read out err

pub returns-in-Judged-clause-ends : goal.returns-in-Judged-clause-ends
returns-in-Judged-clause-ends g c =
    let read = c.in-Ok.parsed in
    let w = was_read _ _ _ _ _ _ read c.in-Ok.ensures.reads in
    let k = reading g.F.Files.told g.F.Files.opens g.F.Files.given g.F.Files.live g.F.Files.faults c.read_parsed.new.files c.follow_stream.new.files in
    let same = ap program_of c.in-Ok-judge_classes.ensures.same.0 in
    let judge = c.in-Ok-make.judge in
    let out = writing g.K.Sink.written g.K.Sink.faults c.args.out.now c.follow_stream.new.out in
    let ends = stream_since c.args.fills (program_of read.program) read.names c.args.stream.now k out (E.Judged c.in-Judged.verdict) (g.F.Files.told c.args.files.now) (g.F.Files.opens c.args.files.now) (g.F.Files.faults c.args.files.now) c.in-Ok.ensures.same_texts w.3
    (ends_as c.args.fills judge.fills _ (program_of read.program) read.names c.args.stream.now k out (E.Judged c.in-Judged.verdict) (c.in-Ok-make.ensures []).mode same c.in-Judged.ensures.ends) in
    inr (record {
      fills = c.args.fills;
      name = c.args.program.now;
      stream_name = c.args.stream.now;
      asked = refl;
      ends = verdict_ends c.args.fills c.args.program.now c.args.stream.now _ out _ w.0 w.1.0 read.names (program_of read.program) w.2.parsed (c.in-Ok-judge_classes.ensures.typed refl)
          (two_opened (g.F.Files.opens c.args.files.now) (g.F.Files.opens c.read_parsed.new.files) (g.F.Files.opens c.follow_stream.new.files) c.in-Ok.ensures.opened_once c.in-Judged.ensures.opened_once)
          c.in-Judged.verdict c.status_of_verdict.result ends (refl, refl) c.status_of_verdict.ensures;
    })

pub returns-in-Stopped-clause-ends : goal.returns-in-Stopped-clause-ends
returns-in-Stopped-clause-ends g c =
    let read = c.in-Ok.parsed in
    let w = was_read _ _ _ _ _ _ read c.in-Ok.ensures.reads in
    let k = reading g.F.Files.told g.F.Files.opens g.F.Files.given g.F.Files.live g.F.Files.faults c.read_parsed.new.files c.follow_stream.new.files in
    let same = ap program_of c.in-Ok-judge_classes.ensures.same.0 in
    let judge = c.in-Ok-make.judge in
    let stop = c.in-Stopped.stop in
    let out = writing g.K.Sink.written g.K.Sink.faults c.args.out.now c.follow_stream.new.out in
    let ends = stream_since c.args.fills (program_of read.program) read.names c.args.stream.now k out (E.Stopped stop) (g.F.Files.told c.args.files.now) (g.F.Files.opens c.args.files.now) (g.F.Files.faults c.args.files.now) c.in-Ok.ensures.same_texts w.3
    (ends_as c.args.fills judge.fills _ (program_of read.program) read.names c.args.stream.now k out (E.Stopped stop) (c.in-Ok-make.ensures []).mode same c.in-Stopped.ensures.ends) in
    inr (record {
      fills = c.args.fills;
      name = c.args.program.now;
      stream_name = c.args.stream.now;
      asked = refl;
      ends = stopped_ends c.args.fills c.args.program.now c.args.stream.now _ out _ w.0 w.1.0 read.names (program_of read.program) w.2.parsed (c.in-Ok-judge_classes.ensures.typed refl)
          (two_opened (g.F.Files.opens c.args.files.now) (g.F.Files.opens c.read_parsed.new.files) (g.F.Files.opens c.follow_stream.new.files) c.in-Ok.ensures.opened_once c.in-Stopped.ensures.opened_once)
          stop c.say_stop-in-Stopped.result ends c.say_stop-in-Stopped.ensures;
    })

pub returns-in-Stopped-clause-complete : goal.returns-in-Stopped-clause-complete
returns-in-Stopped-clause-complete g c served calm out err =
    let read = c.in-Ok.parsed in
    let w = was_read _ _ _ _ _ _ read c.in-Ok.ensures.reads in
    let k = reading g.F.Files.told g.F.Files.opens g.F.Files.given g.F.Files.live g.F.Files.faults c.read_parsed.new.files c.follow_stream.new.files in
    let same = ap program_of c.in-Ok-judge_classes.ensures.same.0 in
    let judge = c.in-Ok-make.judge in
    let stop = c.in-Stopped.stop in
    let sink = writing g.K.Sink.written g.K.Sink.faults c.args.out.now c.follow_stream.new.out in
    let ends = stream_since c.args.fills (program_of read.program) read.names c.args.stream.now k sink (E.Stopped stop) (g.F.Files.told c.args.files.now) (g.F.Files.opens c.args.files.now) (g.F.Files.faults c.args.files.now) c.in-Ok.ensures.same_texts w.3
    (ends_as c.args.fills judge.fills _ (program_of read.program) read.names c.args.stream.now k sink (E.Stopped stop) (c.in-Ok-make.ensures []).mode same c.in-Stopped.ensures.ends) in
    let s = served.1 in
    following_completes c.args.fills c.args.program.now c.args.stream.now _ s.0 s.1 s.2 s.3 calm sink (writing g.E.Sink.written g.E.Sink.faults c.args.err.now c.say_stop-in-Stopped.new.err) c.say_stop-in-Stopped.result
    (stopped_ends c.args.fills c.args.program.now c.args.stream.now _ sink _ w.0 w.1.0 read.names (program_of read.program) w.2.parsed (c.in-Ok-judge_classes.ensures.typed refl)
    (two_opened (g.F.Files.opens c.args.files.now) (g.F.Files.opens c.read_parsed.new.files) (g.F.Files.opens c.follow_stream.new.files) c.in-Ok.ensures.opened_once c.in-Stopped.ensures.opened_once)
    stop c.say_stop-in-Stopped.result ends c.say_stop-in-Stopped.ensures) out err

pub returns-clause-ends : goal.returns-clause-ends
returns-clause-ends g c =
    let read = c.in-Ok.parsed in
    let w = was_read _ _ _ _ _ _ read c.in-Ok.ensures.reads in
    let k = reading g.F.Files.told g.F.Files.opens g.F.Files.given g.F.Files.live g.F.Files.faults c.read_parsed.new.files c.follow_stream.new.files in
    let same = ap program_of c.in-Ok-judge_classes.ensures.same.0 in
    let judge = c.in-Ok-make.judge in
    let out = writing g.K.Sink.written g.K.Sink.faults c.args.out.now c.follow_stream.new.out in
    let ends = stream_since c.args.fills (program_of read.program) read.names c.args.stream.now k out E.Unwritten (g.F.Files.told c.args.files.now) (g.F.Files.opens c.args.files.now) (g.F.Files.faults c.args.files.now) c.in-Ok.ensures.same_texts w.3
    (ends_as c.args.fills judge.fills _ (program_of read.program) read.names c.args.stream.now k out E.Unwritten (c.in-Ok-make.ensures []).mode same c.in-Unwritten.ensures.ends) in
    inr (record {
      fills = c.args.fills;
      name = c.args.program.now;
      stream_name = c.args.stream.now;
      asked = refl;
      ends = cut_ends c.args.fills c.args.program.now c.args.stream.now _ out _ w.0 w.1.0 read.names (program_of read.program) w.2.parsed (c.in-Ok-judge_classes.ensures.typed refl)
          (two_opened (g.F.Files.opens c.args.files.now) (g.F.Files.opens c.read_parsed.new.files) (g.F.Files.opens c.follow_stream.new.files) c.in-Ok.ensures.opened_once c.in-Unwritten.ensures.opened_once)
          S.WriteFault ends (refl, refl) refl;
    })
