use Rattle.std.proofs.Common.{sym, ◌∙◌}
use Rattle.pool_lexer.proofs.PiecesAt.{wide_is, narrow_is, no_sign}
use Rattle.pool_lexer.proofs.piece.sign_at.Goals as goal

pub returns-in-Some : goal.returns-in-Some
returns-in-Some c =
    wide_is c.args.bytes.now c.args.at c.requires.within c.requires.no_run c.requires.no_quote _ _ c.min-end.ensures (sym c.sign.ensures ∙ c.in-Some.is)

pub returns-in-Some-sign : goal.returns-in-Some-sign
returns-in-Some-sign c =
    narrow_is c.args.bytes.now c.args.at c.requires.within c.requires.no_run c.requires.no_quote _ c.min-end.ensures (sym c.sign.ensures ∙ c.in_default.is) _ (sym c.sign-2.ensures ∙ c.in-Some-sign.is)

pub returns-in-None : goal.returns-in-None
returns-in-None c =
    no_sign c.args.bytes.now c.args.at c.requires.within c.requires.no_run c.requires.no_quote _ c.min-end.ensures (sym c.sign.ensures ∙ c.in_default.is) (sym c.sign-2.ensures ∙ c.in-None.is)
