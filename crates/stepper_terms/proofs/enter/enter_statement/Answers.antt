use Rattle.std.proofs.Common.{◌≡◌, ap, ◌∙◌, arith}
use Rattle.std.proofs.lemmas.Grind.{common_steps}
use Rattle.pool_syntax.specs.Terms as T
use Rattle.pool_syntax.specs.TreeOf.{expression_of, statement_of, statements_of}
use Rattle.stepper_terms.specs.Parts.{alternatives}
use Rattle.stepper_terms.proofs.TreeLists.{if_is, while_is, select_is}
use Rattle.stepper_terms.proofs.enter.enter_statement.Goals as goal

pub returns-in-If : goal.returns-in-If
returns-in-If c =
    let e : statement_of c.args.stmt.now ≡ T.If (expression_of c.in-If.cond) (statements_of c.in-If.yes) (statements_of c.in-If.no) = ap statement_of c.in-If.is ∙ if_is c.in-If.cond c.in-If.yes c.in-If.no in
    rw e (grind (arith, common_steps))

pub returns-in-While : goal.returns-in-While
returns-in-While c =
    let e : statement_of c.args.stmt.now ≡ T.While (expression_of c.in-While.cond) (statements_of c.in-While.body) = ap statement_of c.in-While.is ∙ while_is c.in-While.cond c.in-While.body in
    rw e (grind (arith, common_steps))

pub returns-in-Select : goal.returns-in-Select
returns-in-Select c =
    let e : statement_of c.args.stmt.now ≡ T.Select (alternatives c.in-Select.alts) = ap statement_of c.in-Select.is ∙ select_is c.in-Select.alts in
    rw e (grind (arith, common_steps))
