use Rattle.std.proofs.Common.{◌∙◌, ◌++◌, ◌<◌, ℕ, ap, replicate, arith}
use Rattle.run_types.specs.declared.types.Label.TheVariants as L
use Rattle.search_text.specs.AnswerText.{steps_text}
use Rattle.search_text.specs.Steps.{steps}
use Rattle.search_text.specs.OpenSteps.{text_from}
use Rattle.search_text.proofs.StepLaws.{added}
use Rattle.search_text.proofs.steps.add_locals.Goals as goal

pub returns : goal.returns
returns c = λ rest.
    let names = c.args.names.now in
    let s = c.turn_to.new.locals in
    let turned = c.in_ok-turn_to.ensures in
    let some : 0 < c.args.times = omega (arith, c.if-times-eq0.false) in
    let text = λ (t : ℕ). steps_text names (steps (replicate t (L.Local s.object) ++ rest)) in
    ap (λ (t : ℕ). c.turn_to.new.text.items ++ text t) c.in-Some.ensures.1
    ∙ ap (λ t. c.turn_to.new.text.items ++ t) (added names s c.args.times rest)
    ∙ ap (λ (o : ℕ). c.turn_to.new.text.items ++ text_from names s (replicate c.args.times (L.Local o) ++ rest)) turned.object
    ∙ turned.text c.args.times rest some
