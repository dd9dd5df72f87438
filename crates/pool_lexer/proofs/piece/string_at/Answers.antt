use Rattle.std.proofs.Common.{arith}
use Rattle.pool_lexer.proofs.PiecesAt.{string_is, no_string}
use Rattle.pool_lexer.proofs.piece.string_at.Goals as goal
use Rattle.pool_lexer.proofs.piece.string_at.Goals.{else-close-bytes-via-then-close-bytes+else-bytes-close-eq34, else-close-bytes-via-else-close-bytes}

pub returns-then-bytes-close-eq34 : goal.returns-then-bytes-close-eq34
returns-then-bytes-close-eq34 c = string_is c.args.bytes.now c.args.at c.requires.within c.requires.quote _ c.run_end-close.ensures.run c.if-close-bytes.true c.if-bytes-close-eq34.true

pub returns : goal.returns
returns c = no_string c.args.bytes.now c.args.at c.requires.within c.requires.quote _ c.run_end-close.ensures.run (elim c.else-close-bytes.branch [
  | else-close-bytes-via-then-close-bytes+else-bytes-close-eq34 w ↦ λ _. w.if-bytes-close-eq34.false
  | else-close-bytes-via-else-close-bytes w ↦ λ some. absurd (omega arith)
])
