use Rattle.std.proofs.Common.{◌∙◌, ap}
use Rattle.std.proofs.lemmas.Result.{on_ok_weaker}
use Rattle.run_types.specs.declared.types.Line.TheVariants as R
use Rattle.stream_check.proofs.GrownLines.{readies_end, readies_other, readies_step}
use Rattle.stream_check.proofs.filling.Filling.fill_before.Goals as goal

pub returns-in-Step : goal.returns-in-Step
returns-in-Step c =
    let e = c.in-Event in
    on_ok_weaker c.fill_parties.result
    (λ a. readies_step c.args.self.now c.fill_parties.new.self e.number e.event c.in-Step.label c.in-Step.times c.args.line.now (e.is ∙ ap (R.Event e.number e.event) c.in-Step.is) a)
    c.fill_parties.ensures

pub returns-in_default : goal.returns-in_default
returns-in_default c = readies_other c.args.self.now c.in-Event.number c.in-Event.event c.in-Event.what c.args.line.now c.in-Event.is c.in_default.not-Step

pub returns-in-End : goal.returns-in-End
returns-in-End c = readies_end c.args.self.now c.in-End.field-0 c.args.line.now c.in-End.is
