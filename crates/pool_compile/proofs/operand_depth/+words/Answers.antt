use Rattle.std.proofs.Common.{refl, sym, ap, ◌∙◌, suc, arith}
use Rattle.pool_syntax.specs.TreeOf.{expression_of, expressions_of}
use Rattle.pool_syntax.proofs.Laws.{call_tree, send_tree}
use Rattle.pool_compile.specs.Code.{expression_words, expressions_words}
use Rattle.pool_compile.proofs.Greater.{at_front, both, by_tree, next, step_back}
use Rattle.pool_compile.proofs.operand_depth.+words.Goals as goal

pub expression_words-returns-in-Call : goal.expression_words-returns-in-Call
expression_words-returns-in-Call t c =
    let a = c.in-Call in
    by_tree expression_words _ _ _ (ap expression_of a.is ∙ call_tree a.method a.args a.pos)
    (λ h. c.more-in-Call.ensures
    ∙ both 1 (expressions_words (expressions_of a.args)) 1 c.expressions_words.result (λ q. refl)
    (by_tree (λ es. expressions_words (expressions_of es)) a.args c.items.result.now _ (sym c.items.ensures) c.expressions_words.ensures) h)

pub expression_words-returns-in-Send : goal.expression_words-returns-in-Send
expression_words-returns-in-Send t c =
    let a = c.in-Send in
    let rest = expressions_words (expressions_of a.args) in
    by_tree expression_words _ _ _ (ap expression_of a.is ∙ send_tree a.to a.method a.args a.pos)
    (λ h. c.more-in-Send.ensures
    ∙ both (expression_words (expression_of a.to.value)) (suc rest) c.expression_words-first-in-Send.result c.saturating_add-in-Send.result
    (by_tree (λ e. expression_words (expression_of e)) a.to.value c.deref-in-Send.result.now _ (sym c.deref-in-Send.ensures) c.expression_words-first-in-Send.ensures)
    (next rest c.expressions_words-second.result c.saturating_add-in-Send.result
    (by_tree (λ es. expressions_words (expressions_of es)) a.args c.items-in-Send.result.now _ (sym c.items-in-Send.ensures) c.expressions_words-second.ensures) c.saturating_add-in-Send.ensures) h)

pub expressions_words-loop-left-preserved : goal.expressions_words-loop-left-preserved
expressions_words-loop-left-preserved t c =
    step_back (λ es. expressions_words (expressions_of es)) (λ e. expression_words (expression_of e)) c.args.exprs.now c.loop-left.left c.index-exprs-left.result c.loop-left.most c.expression_words.result c.saturating_add.result c.more-most.result
    (omega arith) (omega arith) c.index-exprs-left.is (λ y ys. refl) c.loop-left.invariant c.expression_words.ensures c.saturating_add.ensures c.more-most.ensures

pub expressions_words-returns : goal.expressions_words-returns
expressions_words-returns t c = at_front (λ es. expressions_words (expressions_of es)) c.args.exprs.now c.loop-left.left c.loop-left.most (omega arith) c.loop-left.invariant
