use Rattle.std.proofs.Common.{sym, ap, ◌∙◌, ◌++◌, codes}
use Rattle.pool_syntax.specs.Terms.{Select}
use Rattle.pool_syntax.specs.TreeOf.{alternatives_of, expression_of, statement_of, statements_of}
use Rattle.pool_syntax.proofs.Laws.{if_tree, select_tree, while_tree}
use Rattle.term_text.specs.Words.{bare_text, else_text, statement_text, statements_text, word}
use Rattle.term_text.proofs.Putting.{on_ok, then}
use Rattle.term_text.proofs.statements.+statements.Goals as goal

pub push_statement-returns-in-Ok-push_else : goal.push_statement-returns-in-Ok-push_else
push_statement-returns-in-Ok-push_else t c =
    let a = c.in-If in
    let names = c.args.names.now in
    let base = c.args.text.now.items in
    let cond = bare_text names (expression_of a.cond) in
    let these = statements_text names (statements_of a.yes) in
    let those = else_text (statements_of a.no) (statements_text names (statements_of a.no)) in
    let fi = word (codes "fi") in
    let one = c.push_word-in-If.new.text.items in
    let two = c.push_expression-in-If.new.text.items in
    let three = c.push_word-in-If-2.new.text.items in
    let four = c.push_statements.new.text.items in
    let five = c.push_else.new.text.items in
    on_ok c.push_word-in-If-3.result
    (λ e.
    then base (word (codes "if")) (cond ++ (word (codes "then") ++ (these ++ (those ++ fi)))) one _ c.in-Ok-push_word-5.ensures
    (then one cond (word (codes "then") ++ (these ++ (those ++ fi))) two _ c.in-Ok-push_expression.ensures
    (then two (word (codes "then")) (these ++ (those ++ fi)) three _ c.in-Ok-push_word-6.ensures
    (then three these (those ++ fi) four _ (c.in-Ok-push_statements.ensures ∙ ap (λ ss. three ++ statements_text names (statements_of ss)) c.items-in-If.ensures)
    (then four those fi five _ (c.in-Ok-push_else.ensures ∙ ap (λ ss. four ++ else_text (statements_of ss) (statements_text names (statements_of ss))) c.items-in-If-2.ensures) e))))
    ∙ ap (λ x. base ++ statement_text names x) (sym (ap statement_of a.is ∙ if_tree a.cond a.yes a.no)))
    c.push_word-in-If-3.ensures

pub push_statement-returns-in-Ok-push_statements-2 : goal.push_statement-returns-in-Ok-push_statements-2
push_statement-returns-in-Ok-push_statements-2 t c =
    let a = c.in-While in
    let names = c.args.names.now in
    let base = c.args.text.now.items in
    let cond = bare_text names (expression_of a.cond) in
    let body = statements_text names (statements_of a.body) in
    let od = word (codes "od") in
    let one = c.push_word-in-While.new.text.items in
    let two = c.push_expression-in-While.new.text.items in
    let three = c.push_word-in-While-2.new.text.items in
    let four = c.push_statements-in-While.new.text.items in
    on_ok c.push_word-in-While-3.result
    (λ e.
    then base (word (codes "while")) (cond ++ (word (codes "do") ++ (body ++ od))) one _ c.in-Ok-push_word-7.ensures
    (then one cond (word (codes "do") ++ (body ++ od)) two _ c.in-Ok-push_expression-2.ensures
    (then two (word (codes "do")) (body ++ od) three _ c.in-Ok-push_word-8.ensures
    (then three body od four _ (c.in-Ok-push_statements-2.ensures ∙ ap (λ ss. three ++ statements_text names (statements_of ss)) c.items-in-While.ensures) e)))
    ∙ ap (λ x. base ++ statement_text names x) (sym (ap statement_of a.is ∙ while_tree a.cond a.body)))
    c.push_word-in-While-3.ensures

pub push_statement-returns-in-Select : goal.push_statement-returns-in-Select
push_statement-returns-in-Select t c =
    let a = c.in-Select in
    let names = c.args.names.now in
    let base = c.args.text.now.items in
    on_ok c.push_select.result
    (λ e.
    e ∙ ap (λ alts. base ++ statement_text names (Select (alternatives_of alts))) c.items-in-Select.ensures
    ∙ ap (λ x. base ++ statement_text names x) (sym (ap statement_of a.is ∙ select_tree a.alts)))
    c.push_select.ensures
