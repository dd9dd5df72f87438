use Rattle.std.proofs.Common.{rules}
use Rattle.pool_syntax.specs.TreeOf.{method_tree}
use Rattle.expression_parser.proofs.Laws.{passed_on, unexpected, relay}
use Rattle.pool_parser.proofs.DeclarationRules.{method_missing, method_unnamed, method_refused, result_read, proper_read}
use Rattle.pool_parser.proofs.declarations.method.Goals as goal

pub returns-in-Err-clause-parses : goal.returns-in-Err-clause-parses
returns-in-Err-clause-parses c = unexpected _ _ _ _ _ _ c.in-Err.ensures.err.0 (method_missing c.in-Err.ensures.err.1)

pub returns-in-Err-expect_name-clause-parses : goal.returns-in-Err-expect_name-clause-parses
returns-in-Err-expect_name-clause-parses c = unexpected _ _ _ _ _ _ c.in-Err-expect_name.ensures.err.0 (method_unnamed c.in-Ok.ensures.ok c.in-Err-expect_name.ensures.err.1)

pub returns-in-Err-params-clause-parses : goal.returns-in-Err-params-clause-parses
returns-in-Err-params-clause-parses c = passed_on (λ u. method_refused c.in-Ok-expect_name.read c.in-Ok.ensures.ok c.in-Ok-expect_name.ensures.ok) _ c.in-Err-params.ensures.parses

pub returns-then-is_at-clause-parses : goal.returns-then-is_at-clause-parses
returns-then-is_at-clause-parses c = relay _ _ _ _ _ _ _ method_tree method_tree
    (λ x k. result_read c.in-Ok-expect_name.read _ c.in-Ok.ensures.ok c.in-Ok-expect_name.ensures.ok c.in-Ok-params.ensures.parses (c.is_at.ensures.yes (search rules)))
    (λ u. result_read c.in-Ok-expect_name.read _ c.in-Ok.ensures.ok c.in-Ok-expect_name.ensures.ok c.in-Ok-params.ensures.parses (c.is_at.ensures.yes (search rules))) _ c.with_result.ensures.parses

pub returns-else-is_at-clause-parses : goal.returns-else-is_at-clause-parses
returns-else-is_at-clause-parses c = relay _ _ _ _ _ _ _ method_tree method_tree
    (λ x k. proper_read c.in-Ok-expect_name.read _ c.in-Ok.ensures.ok c.in-Ok-expect_name.ensures.ok c.in-Ok-params.ensures.parses (c.is_at.ensures.no (search rules)))
    (λ u. proper_read c.in-Ok-expect_name.read _ c.in-Ok.ensures.ok c.in-Ok-expect_name.ensures.ok c.in-Ok-params.ensures.parses (c.is_at.ensures.no (search rules))) _ c.without_result.ensures.parses
