use Rattle.std.proofs.Common.{sym, ◌∙◌, arith}
use Rattle.pool_lexer.proofs.WordTokens.{keyword_is, name_is}
use Rattle.pool_lexer.proofs.token.word.Goals as goal

pub returns-in-Some : goal.returns-in-Some
returns-in-Some c = keyword_is c.args.text.now c.requires.kind _ _ _ (omega arith) (sym c.keyword.ensures ∙ c.in-Some.is)

pub returns-in-Ok : goal.returns-in-Ok
returns-in-Ok c = name_is c.args.text.now c.requires.kind _ _ _ _ (omega arith) (sym c.keyword.ensures ∙ c.in-None.is) c.in-Ok.ensures.place c.in-Ok.ensures.names
