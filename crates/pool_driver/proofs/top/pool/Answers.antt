use Rattle.std.proofs.Common.{◌≡◌, ◌∙◌, Some, option_map, ap, sym, refl, inr}
use Rattle.command_line.specs.Commands.{Request}
use Rattle.command_line.specs.Requests.{request}
use Rattle.command_shell.specs.Ends as E
use Rattle.command_shell.proofs.Laws.{none_within, stays_for, stop_completes, stop_ends, text_completes, text_ends, usage_ends}
use Rattle.pool_driver.specs.Ends.{pool_program}
use Rattle.pool_driver.specs.Inputs.{inputs}
use Rattle.pool_driver.specs.Readers.{IsPrintable, status_of_output, text_of}
use Rattle.pool_driver.proofs.EndLaws.{never_unfit, output_whole, served_inputs}
use Rattle.pool_driver.proofs.HeadlineLaws.{headline}
use Rattle.pool_driver.proofs.top.pool.Goals as goal

same_request : (q r : Request) → Some q ≡ Some r → q ≡ r
same_request q r e = cc

pub returns-in-Err-clause-ends : goal.returns-in-Err-clause-ends
returns-in-Err-clause-ends g c = E.no_memory (refl, refl) (refl, refl) refl

pub returns-in-Err-clause-complete : goal.returns-in-Err-clause-complete
returns-in-Err-clause-complete g c r words served read out err = inr refl

pub returns-in-Ok-make_output-clause-ends : goal.returns-in-Ok-make_output-clause-ends
returns-in-Ok-make_output-clause-ends g c =
    text_ends pool_program text_of status_of_output IsPrintable _ _ _ _ (request c.in-Some.command) c.in-Ok-make_output.made c.write_output-status.result (sym c.in-Ok.ensures.request ∙ ap (option_map request) c.in-Some.is) c.in-Ok-make_output.ensures.makes c.write_output-status.ensures (refl, refl)

pub returns-in-Ok-make_output-clause-complete : goal.returns-in-Ok-make_output-clause-complete
returns-in-Ok-make_output-clause-complete g c r words served read out err =
    text_completes pool_program text_of status_of_output IsPrintable output_whole _ _ _ (g.E.Sink.written c.args.err.now) (g.E.Sink.faults c.args.err.now) (request c.in-Some.command) c.in-Ok-make_output.made c.write_output-status.result
    (sym c.in-Ok.ensures.request ∙ ap (option_map request) c.in-Some.is) c.in-Ok-make_output.ensures.makes c.write_output-status.ensures r words (served_inputs _ r served) (never_unfit _ r served) read out err

pub returns-in-Err-make_output-clause-ends : goal.returns-in-Err-make_output-clause-ends
returns-in-Err-make_output-clause-ends g c =
    stop_ends pool_program text_of status_of_output IsPrintable _ _ _ _ (request c.in-Some.command) c.in-Err-make_output.stop c.say_stop.result (sym c.in-Ok.ensures.request ∙ ap (option_map request) c.in-Some.is) c.in-Err-make_output.ensures.makes c.say_stop.ensures (refl, refl)

pub returns-in-Err-make_output-clause-complete : goal.returns-in-Err-make_output-clause-complete
returns-in-Err-make_output-clause-complete g c r words served read out err =
    stop_completes pool_program text_of status_of_output IsPrintable output_whole _ _ _ (g.K.Sink.written c.args.out.now) (g.K.Sink.faults c.args.out.now) (request c.in-Some.command) c.in-Err-make_output.stop c.say_stop.result
    (sym c.in-Ok.ensures.request ∙ ap (option_map request) c.in-Some.is) c.in-Err-make_output.ensures.makes c.say_stop.ensures r words (served_inputs _ r served) (never_unfit _ r served) read out err

pub returns-in-None-clause-ends : goal.returns-in-None-clause-ends
returns-in-None-clause-ends g c =
    usage_ends pool_program _ _ _ _ c.say.result (sym c.in-Ok.ensures.request ∙ ap (option_map request) c.in-None.is) refl refl c.say.ensures (refl, refl)

pub returns-in-Err-clause-stops_reading : goal.returns-in-Err-clause-stops_reading
returns-in-Err-clause-stops_reading g c r words = none_within _ _ _ (inputs r) refl

pub returns-in-Ok-make_output-clause-stops_reading : goal.returns-in-Ok-make_output-clause-stops_reading
returns-in-Ok-make_output-clause-stops_reading g c r words =
    stays_for _ _ _ _ (inputs r) (ap inputs (same_request (request c.in-Some.command) r (sym (sym c.in-Ok.ensures.request ∙ ap (option_map request) c.in-Some.is) ∙ words)))
    c.in-Ok-make_output.ensures.unread_within

pub returns-in-Err-make_output-clause-stops_reading : goal.returns-in-Err-make_output-clause-stops_reading
returns-in-Err-make_output-clause-stops_reading g c r words =
    stays_for _ _ _ _ (inputs r) (ap inputs (same_request (request c.in-Some.command) r (sym (sym c.in-Ok.ensures.request ∙ ap (option_map request) c.in-Some.is) ∙ words)))
    c.in-Err-make_output.ensures.unread_within

pub returns-in-None-clause-stops_reading : goal.returns-in-None-clause-stops_reading
returns-in-None-clause-stops_reading g c r words = none_within _ _ _ (inputs r) refl

pub returns-in-Err-clause-headline : goal.returns-in-Err-clause-headline
returns-in-Err-clause-headline g c p l s words whole = headline _ _ _ _ _ (returns-in-Err-clause-ends g c) p l s words whole

pub returns-in-Ok-make_output-clause-headline : goal.returns-in-Ok-make_output-clause-headline
returns-in-Ok-make_output-clause-headline g c p l s words whole = headline _ _ _ _ _ (returns-in-Ok-make_output-clause-ends g c) p l s words whole

pub returns-in-Err-make_output-clause-headline : goal.returns-in-Err-make_output-clause-headline
returns-in-Err-make_output-clause-headline g c p l s words whole = headline _ _ _ _ _ (returns-in-Err-make_output-clause-ends g c) p l s words whole

pub returns-in-None-clause-headline : goal.returns-in-None-clause-headline
returns-in-None-clause-headline g c p l s words whole = headline _ _ _ _ _ (returns-in-None-clause-ends g c) p l s words whole
