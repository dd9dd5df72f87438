use Rattle.std.proofs.Common.{◌≡◌, ap, ◌∙◌, arith, rules}
use Rattle.pool_syntax.specs.Terms.{Call, Send}
use Rattle.pool_syntax.specs.TreeOf.{expression_of, expressions_of}
use Rattle.type_check.specs.CheckerScopes.{sort_tree, scope_of, method_of}
use Rattle.type_check.proofs.FaultAccumulation.{noted_append}
use Rattle.pool_syntax.proofs.Laws.{call_tree, send_tree}
use Rattle.type_check.proofs.ExpressionParts.{binary_noted, call_noted, send_noted}
use Rattle.type_check.proofs.Arguments.{argument_noted}
use Rattle.type_check.proofs.expressions.+expressions.Goals as goal

pub expression-returns-in-Unary-clause-first : goal.expression-returns-in-Unary-clause-first
expression-returns-in-Unary-clause-first t c = grind (arith, noted_append)

pub expression-returns-in-Binary-clause-first : goal.expression-returns-in-Binary-clause-first
expression-returns-in-Binary-clause-first t c =
    let b = c.in-Binary in
    rw c.in-Binary.is (binary_noted (scope_of c.args.scope.now) c.args.held c.one_more.result b.op (expression_of b.left.value) (expression_of b.right.value) b.pos
    (sort_tree c.placed-left.result.sort) (sort_tree c.placed-right.result.sort)
    _ c.note_limit.new.first c.placed-left.new.first c.placed-right.new.first _
    (search rules) (search rules) (search rules) (search rules) (search rules) (search rules) (search rules))

pub expression-returns-in-Call-clause-first : goal.expression-returns-in-Call-clause-first
expression-returns-in-Call-clause-first t c =
    let e : expression_of c.args.expr.now ≡ Call c.in-Call.method.0 (expressions_of c.in-Call.args) c.in-Call.pos = ap expression_of c.in-Call.is ∙ call_tree c.in-Call.method c.in-Call.args c.in-Call.pos in
    rw e (call_noted (scope_of c.args.scope.now) c.args.held c.in-Call.method.0 c.in-Call.args c.in-Call.pos (method_of c.own_method-callee.result)
    _ c.note_limit.new.first c.note_call.new.first _ (search rules) (search rules) (search rules) (search rules))

pub expression-returns-in-Send-clause-first : goal.expression-returns-in-Send-clause-first
expression-returns-in-Send-clause-first t c =
    let e : expression_of c.args.expr.now ≡ Send (expression_of c.in-Send.to.value) c.in-Send.method.0 (expressions_of c.in-Send.args) c.in-Send.pos = ap expression_of c.in-Send.is ∙ send_tree c.in-Send.to c.in-Send.method c.in-Send.args c.in-Send.pos in
    rw e (send_noted (scope_of c.args.scope.now) c.args.held c.one_more-in-Send.result (expression_of c.in-Send.to.value) c.in-Send.method.0 c.in-Send.args c.in-Send.pos
    (sort_tree c.placed-to.result.sort) (method_of c.note_destination-callee.result)
    _ c.note_limit.new.first c.placed-to.new.first c.note_destination-callee.new.first _ (search rules) (search rules) (search rules) (search rules) (search rules) (search rules) (search rules))

pub arguments-loop-i-preserved : goal.arguments-loop-i-preserved
arguments-loop-i-preserved t c =
    let l = c.loop-i in
    let step = argument_noted (scope_of c.args.scope.now) l.now_held c.one_more-now_held.result c.args.params.now c.args.args.now l.i c.index-args-i.result
    (sort_tree c.placed-arg.result.sort) c.variable_at.result l.first c.placed-arg.new.first c.note_argument.new.first
    (omega arith) c.index-args-i.is (search rules) (search rules) (search rules) (search rules) (search rules) in
    (omega arith, step ∙ l.invariant.1)
