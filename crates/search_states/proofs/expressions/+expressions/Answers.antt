use Rattle.std.proofs.Common.{◌≡◌, ap, ◌∙◌, arith}
use Rattle.std.proofs.lemmas.Grind.{common_steps}
use Rattle.pool_syntax.specs.Terms.{Call, Send}
use Rattle.pool_syntax.specs.TreeOf.{expression_of, expressions_of}
use Rattle.pool_syntax.proofs.Laws.{call_tree, send_tree}
use Rattle.search_states.proofs.SameTreeLists.{as_many, same_at, expressions_each}
use Rattle.search_states.proofs.expressions.+expressions.Goals as goal

pub same_expression-returns-then-pos-p-3 : goal.same_expression-returns-then-pos-p-3
same_expression-returns-then-pos-p-3 t c =
    let a = c.in-Call-Call in
    let e : expression_of c.args.left.now ≡ Call a.method.0 (expressions_of a.args) a.pos = ap expression_of a.is-0 ∙ call_tree a.method a.args a.pos in
    let f : expression_of c.args.right.now ≡ Call a.m.0 (expressions_of a.a) a.p = ap expression_of a.is-1 ∙ call_tree a.m a.a a.p in
    record { same = λ r. grind (arith, common_steps); different = λ r. grind (arith, common_steps) }

pub same_expression-returns-then-same_expression-2 : goal.same_expression-returns-then-same_expression-2
same_expression-returns-then-same_expression-2 t c =
    let a = c.in-Send-Send in
    let e : expression_of c.args.left.now ≡ Send (expression_of a.to.value) a.method.0 (expressions_of a.args) a.pos = ap expression_of a.is-0 ∙ send_tree a.to a.method a.args a.pos in
    let f : expression_of c.args.right.now ≡ Send (expression_of a.t.value) a.m.0 (expressions_of a.a) a.p = ap expression_of a.is-1 ∙ send_tree a.t a.m a.a a.p in
    record { same = λ r. grind (arith, common_steps); different = λ r. grind (arith, common_steps) }

pub same_expressions-returns-then-left-right-clause-different : goal.same_expressions-returns-then-left-right-clause-different
same_expressions-returns-then-left-right-clause-different t c = λ r.
    let l = as_many expression_of _ _ (expressions_each _ _ r) in
    grind (arith, common_steps)

pub same_expressions-returns-then-not-same_expression-clause-different : goal.same_expressions-returns-then-not-same_expression-clause-different
same_expressions-returns-then-not-same_expression-clause-different t c = λ r.
    let s = same_at expression_of c.args.left.now c.args.right.now _ _ _ (omega arith) (omega arith) c.index-left-i.is c.index-right-i.is (expressions_each _ _ r) in
    grind (arith, common_steps)
