use Rattle.std.proofs.Common.{◌≡◌, ◌∙◌, ◌++◌, None, ap, sym}
use Rattle.std.proofs.lemmas.Result.{on_ok_weaker}
use Rattle.run_types.specs.declared.types.Label.{Label}
use Rattle.label_list.specs.Parts.{label_of}
use Rattle.search_text.specs.AnswerText.{step_line}
use Rattle.search_text.specs.Steps.{local_of}
use Rattle.search_text.proofs.StepLaws.{passed}
use Rattle.search_text.proofs.steps.push_part.Goals as goal

pub returns : goal.returns
returns c =
    let names = c.args.names.now in
    let part = c.args.part.now in
    let old = c.args.text.now.items in
    let mid = c.push_locals.new.text.items in
    let new = c.push_step.new.text.items in
    let none : local_of (label_of part) ≡ None = ap local_of (sym c.label-label.ensures) ∙ sym c.local_of.ensures ∙ c.in_default.is in
    on_ok_weaker c.push_step.result
    (λ wrote rest. passed names c.args.locals.now old mid new part rest none c.in_ok-push_locals.ensures (wrote ∙ ap (λ (l : Label). mid ++ step_line names (l, 1)) c.label-label.ensures))
    c.push_step.ensures
