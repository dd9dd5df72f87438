use Rattle.std.proofs.Common.{◌≡◌, ◌∙◌, ◌++◌, append_assoc, true, false, ap, sym}
use Rattle.std.proofs.lemmas.Result.{on_ok_weaker}
use Rattle.text_scan.specs.Text.{Text}
use Rattle.run_types.specs.declared.types.Label.{Label}
use Rattle.label_list.specs.Parts.{label_of}
use Rattle.search_text.specs.AnswerText.{error_line, errors_text, is_error}
use Rattle.search_text.proofs.ErrorLaws.{an_error, no_error}
use Rattle.search_text.proofs.errors.push_error.Goals as goal

pub returns-then-not-is_error : goal.returns-then-not-is_error
returns-then-not-is_error c = λ rest.
    let none : is_error (label_of c.args.part.now) ≡ false = ap is_error (sym c.label-label.ensures) ∙ sym c.is_error.ensures ∙ c.if-not-is_error.true in
    ap (λ (t : Text). c.args.text.now.items ++ t) (sym (no_error c.args.names.now c.args.part.now rest none))

pub returns : goal.returns
returns c =
    let names = c.args.names.now in
    let part = c.args.part.now in
    let old = c.args.text.now.items in
    let one : is_error (label_of part) ≡ true = ap is_error (sym c.label-label.ensures) ∙ sym c.is_error.ensures ∙ c.if-not-is_error.false in
    on_ok_weaker c.push_error_line.result
    (λ wrote rest.
    ap (λ (t : Text). t ++ errors_text names rest) (wrote ∙ ap (λ (l : Label). old ++ error_line names l) c.label-label.ensures) ∙ append_assoc old (error_line names (label_of part)) (errors_text names rest)
    ∙ ap (λ (t : Text). old ++ t) (sym (an_error names part rest one)))
    c.push_error_line.ensures
