use Rattle.pool_syntax.specs.TreeOf.{class_tree}
use Rattle.expression_parser.proofs.Laws.{passed_on, unexpected, relay}
use Rattle.pool_parser.proofs.DeclarationRules.{class_missing, class_unnamed, class_vars_refused, class_methods_refused, class_read}
use Rattle.pool_parser.proofs.declarations.class.Goals as goal

pub returns-in-Err-clause-parses : goal.returns-in-Err-clause-parses
returns-in-Err-clause-parses c = unexpected _ _ _ _ _ _ c.in-Err.ensures.err.0 (class_missing c.in-Err.ensures.err.1)

pub returns-in-Err-expect_name-clause-parses : goal.returns-in-Err-expect_name-clause-parses
returns-in-Err-expect_name-clause-parses c = unexpected _ _ _ _ _ _ c.in-Err-expect_name.ensures.err.0 (class_unnamed c.in-Ok.ensures.ok c.in-Err-expect_name.ensures.err.1)

pub returns-in-Err-fields-clause-parses : goal.returns-in-Err-fields-clause-parses
returns-in-Err-fields-clause-parses c = passed_on (λ u. class_vars_refused c.in-Ok-expect_name.read c.in-Ok.ensures.ok c.in-Ok-expect_name.ensures.ok) _ c.in-Err-fields.ensures.parses

pub returns-in-Err-methods-clause-parses : goal.returns-in-Err-methods-clause-parses
returns-in-Err-methods-clause-parses c = passed_on (λ u. class_methods_refused c.in-Ok-expect_name.read c.in-Ok.ensures.ok c.in-Ok-expect_name.ensures.ok c.in-Ok-fields.ensures.parses) _ c.in-Err-methods.ensures.parses

pub returns-clause-parses : goal.returns-clause-parses
returns-clause-parses c = relay _ _ _ _ _ _ _ class_tree class_tree
    (λ x k. class_read c.in-Ok-expect_name.read _ c.in-Ok.ensures.ok c.in-Ok-expect_name.ensures.ok c.in-Ok-fields.ensures.parses c.in-Ok-methods.ensures.parses)
    (λ u. class_read c.in-Ok-expect_name.read _ c.in-Ok.ensures.ok c.in-Ok-expect_name.ensures.ok c.in-Ok-fields.ensures.parses c.in-Ok-methods.ensures.parses) _ c.class_body.ensures.parses
