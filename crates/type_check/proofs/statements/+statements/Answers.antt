use Rattle.std.proofs.Common.{◌≡◌, ap, ◌∙◌, arith, rules}
use Rattle.pool_syntax.specs.Terms.{If, While, Select}
use Rattle.pool_syntax.specs.TreeOf.{expression_of, statement_of, statements_of, alternatives_of}
use Rattle.type_check.specs.CheckerScopes.{scope_of, sort_tree, method_of}
use Rattle.type_check.proofs.FaultAccumulation.{noted_append}
use Rattle.pool_syntax.proofs.Laws.{if_tree, while_tree, select_tree}
use Rattle.type_check.proofs.StatementParts.{async_noted, statement_noted, alternative_noted}
use Rattle.type_check.proofs.statements.+statements.Goals as goal

pub statement-returns-in_ok-statements-in-If-2 : goal.statement-returns-in_ok-statements-in-If-2
statement-returns-in_ok-statements-in-If-2 t c =
    let e : statement_of c.args.stmt.now ≡ If (expression_of c.in-If.cond) (statements_of c.in-If.yes) (statements_of c.in-If.no) = ap statement_of c.in-If.is ∙ if_tree c.in-If.cond c.in-If.yes c.in-If.no in
    rw e (grind (arith, noted_append))

pub statement-returns-in_ok-statements-in-While : goal.statement-returns-in_ok-statements-in-While
statement-returns-in_ok-statements-in-While t c =
    let e : statement_of c.args.stmt.now ≡ While (expression_of c.in-While.cond) (statements_of c.in-While.body) = ap statement_of c.in-While.is ∙ while_tree c.in-While.cond c.in-While.body in
    rw e (grind (arith, noted_append))

pub statement-returns-in-Select : goal.statement-returns-in-Select
statement-returns-in-Select t c =
    let e : statement_of c.args.stmt.now ≡ Select (alternatives_of c.in-Select.alts) = ap statement_of c.in-Select.is ∙ select_tree c.in-Select.alts in
    rw e (search rules)

pub statement-returns-in-Async : goal.statement-returns-in-Async
statement-returns-in-Async t c =
    let a = c.in-Async in
    rw c.in-Async.is (async_noted (scope_of c.args.scope.now) (expression_of a.to) a.method.name.0 a.method.pos a.args (sort_tree c.placed-to.result.sort) (method_of c.note_destination-callee.result)
    _ c.placed-to.new.first c.note_destination-callee.new.first _ (search rules) (search rules) (search rules) (search rules) (search rules))

pub statements-loop-stmt-preserved : goal.statements-loop-stmt-preserved
statements-loop-stmt-preserved t c =
    statement_noted (scope_of c.args.scope.now) c.args.stmts.now c.loop-stmt.stmt-index c.stmt-item.result c.loop-stmt.first c.statement.new.first (omega arith) c.stmt-item.is c.in_ok-statement.ensures
    ∙ c.loop-stmt.invariant

pub alternatives-loop-alt-preserved : goal.alternatives-loop-alt-preserved
alternatives-loop-alt-preserved t c =
    let l = c.loop-alt in (
      omega arith,
      alternative_noted (scope_of c.args.scope.now) l.held c.args.alts.now l.alt-index c.alt-item.result l.first c.condition.new.first c.answer.new.first c.statements.new.first
          (omega arith) c.alt-item.is l.invariant.0 (search rules) (search rules) (search rules)
          ∙ l.invariant.1,
    )
