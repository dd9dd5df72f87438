use Rattle.std.proofs.Common.{sym}
use Rattle.pool_printer.proofs.DeclarationParts.{post_there}
use Rattle.pool_printer.proofs.SequentialOutput.{prints_more, prints_same}
use Rattle.pool_printer.proofs.declarations.post.Goals as goal

pub returns-then-not-is_empty : goal.returns-then-not-is_empty
returns-then-not-is_empty g c =
    prints_same _ _ _ _ _ (sym (post_there c.args.stmts.now (sym c.if-not-is_empty.ensures))) (prints_more _ _ _ _ _ _ c.say.ensures c.statements.ensures)
