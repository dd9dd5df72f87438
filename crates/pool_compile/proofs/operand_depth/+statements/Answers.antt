use Rattle.std.proofs.Common.{sym, ap, ◌∙◌}
use Rattle.pool_syntax.specs.TreeOf.{expression_of, statement_of, statements_of, alternatives_of}
use Rattle.pool_syntax.proofs.Laws.{if_tree, select_tree, while_tree}
use Rattle.pool_compile.specs.Code.{expression_words, guards_words, more, statement_words, statements_words, works_words}
use Rattle.pool_compile.proofs.Greater.{both, by_tree}
use Rattle.pool_compile.proofs.operand_depth.+statements.Goals as goal

pub statement_words-returns-in-If : goal.statement_words-returns-in-If
statement_words-returns-in-If t c =
    let a = c.in-If in
    let yes = statements_words (statements_of a.yes) in
    let no = statements_words (statements_of a.no) in
    by_tree statement_words _ _ _ (ap statement_of a.is ∙ if_tree a.cond a.yes a.no)
    (λ h. c.more-in-If.ensures
    ∙ both (expression_words (expression_of a.cond)) (more yes no) c.expression_words-in-If.result c.more-lists.result c.expression_words-in-If.ensures
    (λ q. c.more-lists.ensures
    ∙ both yes no c.statements_words.result c.statements_words-in-If.result
    (by_tree (λ ss. statements_words (statements_of ss)) a.yes c.items-in-If.result.now _ (sym c.items-in-If.ensures) c.statements_words.ensures)
    (by_tree (λ ss. statements_words (statements_of ss)) a.no c.items-in-If-2.result.now _ (sym c.items-in-If-2.ensures) c.statements_words-in-If.ensures) q) h)

pub statement_words-returns-in-While : goal.statement_words-returns-in-While
statement_words-returns-in-While t c =
    let a = c.in-While in
    by_tree statement_words _ _ _ (ap statement_of a.is ∙ while_tree a.cond a.body)
    (λ h. c.more-in-While.ensures
    ∙ both (expression_words (expression_of a.cond)) (statements_words (statements_of a.body)) c.expression_words-in-While.result c.statements_words-in-While.result c.expression_words-in-While.ensures
    (by_tree (λ ss. statements_words (statements_of ss)) a.body c.items-in-While.result.now _ (sym c.items-in-While.ensures) c.statements_words-in-While.ensures) h)

pub statement_words-returns-in-Select : goal.statement_words-returns-in-Select
statement_words-returns-in-Select t c =
    let a = c.in-Select in
    by_tree statement_words _ _ _ (ap statement_of a.is ∙ select_tree a.alts)
    (λ h. c.more-in-Select.ensures
    ∙ both (guards_words (alternatives_of a.alts)) (works_words (alternatives_of a.alts)) c.guards_words.result c.works_words.result
    (by_tree (λ xs. guards_words (alternatives_of xs)) a.alts c.items-in-Select.result.now _ (sym c.items-in-Select.ensures) c.guards_words.ensures)
    (by_tree (λ xs. works_words (alternatives_of xs)) a.alts c.items-in-Select-2.result.now _ (sym c.items-in-Select-2.ensures) c.works_words.ensures) h)
