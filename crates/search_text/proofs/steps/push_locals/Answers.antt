use Rattle.std.proofs.Common.{◌∙◌, ◌++◌, ap, arith}
use Rattle.std.proofs.lemmas.Result.{on_ok_weaker}
use Rattle.text_scan.specs.Text.{Text}
use Rattle.search_text.proofs.StepLaws.{one_line}
use Rattle.search_text.proofs.steps.push_locals.Goals as goal

pub returns : goal.returns
returns c =
    let s = c.args.locals in
    on_ok_weaker c.push_step.result (λ wrote. wrote ∙ ap (λ (t : Text). c.args.text.now.items ++ t) (one_line c.args.names.now s.object s.times (omega (arith, c.if-locals-eq0.false)))) c.push_step.ensures
