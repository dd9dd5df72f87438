use Rattle.pool_lexer.proofs.PiecesAt.{run_is}
use Rattle.pool_lexer.proofs.piece.piece_at.Goals as goal

pub returns-in-Some : goal.returns-in-Some
returns-in-Some c = run_is c.args.bytes.now c.args.at c.requires.within _ _ _ c.in-Some.ensures c.run_end.ensures.run
