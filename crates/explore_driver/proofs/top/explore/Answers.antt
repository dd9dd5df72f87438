use Rattle.std.proofs.Common.{◌≡◌, ◌∙◌, Some, option_map, ap, sym, refl}
use Rattle.command_shell.proofs.Laws.{none_within, stays_for}
use Rattle.explore_driver.specs.AskedRequest.{wanted}
use Rattle.explore_driver.specs.Ends.{inputs}
use Rattle.explore_driver.specs.Words.{Request, request_of, texts_of}
use Rattle.explore_driver.proofs.UsageLaws.{ends_as, says_usage}
use Rattle.explore_driver.proofs.top.explore.Goals as goal

same_request : (q r : Request) → Some q ≡ Some r → q ≡ r
same_request q r e = cc

pub returns-in-None-clause-ends : goal.returns-in-None-clause-ends
returns-in-None-clause-ends g c =
    says_usage (texts_of c.args.words.now) (request_of (texts_of c.args.words.now)) _ _ _ c.say_usage.result (sym c.read_words.ensures.request ∙ ap (option_map wanted) c.in-None.is) refl refl c.say_usage.ensures
    (refl, refl)

pub returns-in-Some-clause-ends : goal.returns-in-Some-clause-ends
returns-in-Some-clause-ends g c =
    ends_as (texts_of c.args.words.now) (request_of (texts_of c.args.words.now)) (wanted c.in-Some.command) _ _ _ c.serve.result
    (sym (ap (option_map wanted) c.in-Some.is) ∙ c.read_words.ensures.request) c.serve.ensures.ends

pub returns-in-None-clause-stops_reading : goal.returns-in-None-clause-stops_reading
returns-in-None-clause-stops_reading g c r words = none_within _ _ _ (inputs r) refl

pub returns-in-Some-clause-stops_reading : goal.returns-in-Some-clause-stops_reading
returns-in-Some-clause-stops_reading g c r words =
    stays_for _ _ _ (inputs (wanted c.in-Some.command)) (inputs r)
    (ap inputs (same_request (wanted c.in-Some.command) r (sym (sym c.read_words.ensures.request ∙ ap (option_map wanted) c.in-Some.is) ∙ words))) c.serve.ensures.stops_reading
