use Rattle.std.proofs.Common.{inl, refl}
use Rattle.command_shell.specs.Writing.{written}
use Rattle.command_shell.proofs.Laws.{stop_completes, stop_ends, text_completes, text_ends, writes_as}
use Rattle.explore_driver.specs.AskedRequest.{request}
use Rattle.explore_driver.specs.Ends.{explore_program}
use Rattle.explore_driver.specs.Results.{IsWritable, status_of, text_of}
use Rattle.explore_driver.proofs.OutputLaws.{output_whole}
use Rattle.explore_driver.proofs.top.make.Goals as goal

pub returns-in-Ok-clause-ends : goal.returns-in-Ok-clause-ends
returns-in-Ok-clause-ends g c =
    inl (text_ends explore_program text_of status_of IsWritable _ _ _ _ (request c.args.asked.now) c.in-Ok.output c.say.result refl
    c.in-Ok.ensures.makes (written (writes_as _ _ _ _ c.say.result c.deref.ensures.value c.say.ensures)) (refl, refl))

pub returns-in-Ok-clause-complete : goal.returns-in-Ok-clause-complete
returns-in-Ok-clause-complete g c served read out err =
    text_completes explore_program text_of status_of IsWritable output_whole _ _ _ (g.E.Sink.written c.args.err.now) (g.E.Sink.faults c.args.err.now) (request c.args.asked.now) c.in-Ok.output c.say.result
    refl c.in-Ok.ensures.makes (written (writes_as _ _ _ _ c.say.result c.deref.ensures.value c.say.ensures)) (request c.args.asked.now) refl served.0
    (λ i f h. h) read out err

pub returns-in-Err-clause-ends : goal.returns-in-Err-clause-ends
returns-in-Err-clause-ends g c =
    inl (stop_ends explore_program text_of status_of IsWritable _ _ _ _ (request c.args.asked.now) c.in-Err.stop c.say_stop.result refl
    c.in-Err.ensures.makes c.say_stop.ensures (refl, refl))

pub returns-in-Err-clause-complete : goal.returns-in-Err-clause-complete
returns-in-Err-clause-complete g c served read out err =
    stop_completes explore_program text_of status_of IsWritable output_whole _ _ _ (g.K.Sink.written c.args.out.now) (g.K.Sink.faults c.args.out.now) (request c.args.asked.now) c.in-Err.stop c.say_stop.result
    refl c.in-Err.ensures.makes c.say_stop.ensures (request c.args.asked.now) refl served.0 (λ i f h. h) read out err
