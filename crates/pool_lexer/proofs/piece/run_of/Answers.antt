use Rattle.pool_lexer.proofs.FirstByte.{white_run, comment_run, word_run, integer_run}
use Rattle.pool_lexer.proofs.piece.run_of.Goals as goal

pub returns-then-has : goal.returns-then-has
returns-then-has c = white_run c.args.first cc

pub returns-then-first-eq35 : goal.returns-then-first-eq35
returns-then-first-eq35 c = comment_run c.args.first c.if-first-eq35.true

pub returns-then-has-2 : goal.returns-then-has-2
returns-then-has-2 c = word_run c.args.first cc

pub returns-then-has-3 : goal.returns-then-has-3
returns-then-has-3 c = integer_run c.args.first cc
