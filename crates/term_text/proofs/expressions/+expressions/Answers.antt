use Rattle.std.proofs.Common.{sym, ap, ◌∙◌, ◌++◌, codes}
use Rattle.pool_syntax.specs.TreeOf.{expression_of, expressions_of}
use Rattle.pool_syntax.proofs.Laws.{call_tree, send_tree}
use Rattle.term_text.specs.Words.{arguments_text, bare_text, called, text_in, word}
use Rattle.term_text.proofs.Putting.{on_ok, then}
use Rattle.term_text.proofs.expressions.+expressions.Goals as goal

pub push_expression-returns-in-Call : goal.push_expression-returns-in-Call
push_expression-returns-in-Call t c =
    let a = c.in-Call in
    let names = c.args.names.now in
    let base = c.args.text.now.items in
    on_ok c.push_call.result
    (λ e.
    e ∙ ap (λ es. base ++ called names a.method.0 (arguments_text names (expressions_of es))) c.items.ensures
    ∙ ap (λ x. base ++ bare_text names x) (sym (ap expression_of a.is ∙ call_tree a.method a.args a.pos)))
    c.push_call.ensures

pub push_expression-returns-in-Ok-push_word : goal.push_expression-returns-in-Ok-push_word
push_expression-returns-in-Ok-push_word t c =
    let a = c.in-Send in
    let names = c.args.names.now in
    let base = c.args.text.now.items in
    let to = text_in names 7 (expression_of a.to.value) in
    let sign = word (codes "!") in
    let call = called names a.method.0 (arguments_text names (expressions_of a.args)) in
    let one = c.push_enclosed-in-Send.new.text.items in
    let two = c.push_word-in-Send.new.text.items in
    on_ok c.push_call-in-Send.result
    (λ e.
    then base to (sign ++ call) one _ (c.in-Ok-push_enclosed-2.ensures ∙ ap (λ x. base ++ text_in names 7 (expression_of x)) c.deref-in-Send.ensures)
    (then one sign call two _ c.in-Ok-push_word.ensures
    (e ∙ ap (λ es. two ++ called names a.method.0 (arguments_text names (expressions_of es))) c.items-in-Send.ensures))
    ∙ ap (λ x. base ++ bare_text names x) (sym (ap expression_of a.is ∙ send_tree a.to a.method a.args a.pos)))
    c.push_call-in-Send.ensures
