use Rattle.std.proofs.Common.{ap}
use Rattle.std.specs.Option.{option_map}
use Rattle.station_text.proofs.ManyWords.{many_words}
use Rattle.station_text.proofs.commands.command_in.Goals as goal

pub returns-in-Some-rest-2 : goal.returns-in-Some-rest-2
returns-in-Some-rest-2 c =
    many_words c.args.line.now c.cut-one.result.first.now c.cut-two.result.first.now c.cut-three.result.first.now c.in-Some.behind_one.now c.in-Some-rest.behind_two.now c.in-Some-rest-2.field-0.now _ _ _
    c.cut-one.ensures.parts (ap (option_map (λ t. t.now)) c.in-Some.is) c.cut-two.ensures.parts (ap (option_map (λ t. t.now)) c.in-Some-rest.is) c.cut-three.ensures.parts (ap (option_map (λ t. t.now)) c.in-Some-rest-2.is)
