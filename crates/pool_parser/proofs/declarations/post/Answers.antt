use Rattle.std.proofs.Common.{rules}
use Rattle.pool_syntax.specs.TreeOf.{statements_of}
use Rattle.expression_parser.specs.Reads.{read, refused}
use Rattle.expression_parser.proofs.Laws.{relay}
use Rattle.pool_parser.proofs.DeclarationRules.{no_post, post_read}
use Rattle.pool_parser.proofs.declarations.post.Goals as goal

pub returns-then-not-is_at-clause-parses : goal.returns-then-not-is_at-clause-parses
returns-then-not-is_at-clause-parses c = rw c.make.ensures (no_post (c.is_at.ensures.no (search rules)))

pub returns-clause-parses : goal.returns-clause-parses
returns-clause-parses c =
    relay _ _ _ _ _ _ _ statements_of statements_of (λ x k R. post_read (read (statements_of x) k) (c.is_at.ensures.yes (search rules)) R)
    (λ u R. post_read (refused u) (c.is_at.ensures.yes (search rules)) R) c.statements.result c.statements.ensures.parses
