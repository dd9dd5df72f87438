use Rattle.pool_parser.proofs.SpelledTrees.{result_spelled}
use Rattle.pool_parser.proofs.FaultPosition.{unexpected_there, too_deep_there}
use Rattle.pool_parser.proofs.parser.parse.Goals as goal

pub returns-clause-unexpected : goal.returns-clause-unexpected
returns-clause-unexpected c = rw c.items.ensures at c.parse_tokens.ensures.unexpected

pub returns-clause-too_deep : goal.returns-clause-too_deep
returns-clause-too_deep c = rw c.items.ensures at c.parse_tokens.ensures.too_deep

pub returns-clause-spelled : goal.returns-clause-spelled
returns-clause-spelled c = result_spelled _ _ _ (rw c.items.ensures at c.parse_tokens.ensures.ok)

pub returns-clause-unexpected_there : goal.returns-clause-unexpected_there
returns-clause-unexpected_there c =
    unexpected_there _ _ (rw c.items.ensures at c.parse_tokens.ensures.ok) (rw c.items.ensures at c.parse_tokens.ensures.unexpected) (rw c.items.ensures at c.parse_tokens.ensures.too_deep)

pub returns-clause-too_deep_there : goal.returns-clause-too_deep_there
returns-clause-too_deep_there c =
    too_deep_there _ _ (rw c.items.ensures at c.parse_tokens.ensures.ok) (rw c.items.ensures at c.parse_tokens.ensures.unexpected) (rw c.items.ensures at c.parse_tokens.ensures.too_deep)
