use Rattle.std.proofs.Common.{◌≡◌, ap, ◌∙◌, arith}
use Rattle.std.proofs.lemmas.Grind.{common_steps}
use Rattle.pool_syntax.specs.Terms as T
use Rattle.pool_syntax.specs.TreeOf.{expression_of, expressions_of}
use Rattle.stepper_terms.proofs.TreeLists.{call_is, send_is}
use Rattle.stepper_terms.proofs.seek.into.Goals as goal

pub returns-in-Call-clause-same : goal.returns-in-Call-clause-same
returns-in-Call-clause-same c =
    let e : expression_of c.args.expr.now ≡ T.Call c.in-Call.method.0 (expressions_of c.in-Call.args) c.in-Call.pos = ap expression_of c.in-Call.is ∙ call_is _ _ _ in
    rw e (grind (arith, common_steps))

pub returns-in-Call-clause-below : goal.returns-in-Call-clause-below
returns-in-Call-clause-below c =
    let e : expression_of c.args.expr.now ≡ T.Call c.in-Call.method.0 (expressions_of c.in-Call.args) c.in-Call.pos = ap expression_of c.in-Call.is ∙ call_is _ _ _ in
    rw e (grind (arith, common_steps))

pub returns-in-Send-clause-same : goal.returns-in-Send-clause-same
returns-in-Send-clause-same c =
    let e : expression_of c.args.expr.now ≡ T.Send (expression_of c.in-Send.to.value) c.in-Send.method.0 (expressions_of c.in-Send.args) c.in-Send.pos = ap expression_of c.in-Send.is ∙ send_is c.in-Send.to _ _ _ in
    rw e (grind (arith, common_steps))

pub returns-in-Send-clause-below : goal.returns-in-Send-clause-below
returns-in-Send-clause-below c =
    let e : expression_of c.args.expr.now ≡ T.Send (expression_of c.in-Send.to.value) c.in-Send.method.0 (expressions_of c.in-Send.args) c.in-Send.pos = ap expression_of c.in-Send.is ∙ send_is c.in-Send.to _ _ _ in
    rw e (grind (arith, common_steps))
