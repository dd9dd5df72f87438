use Rattle.std.proofs.Common.{refl, sym}
use Rattle.std.proofs.lemmas.List.{append-nil}
use Rattle.std.proofs.lemmas.Result.{err_from_is_err_and}
use Rattle.pool_lexer.proofs.PieceStep.{step_is, fault_is}
use Rattle.pool_lexer.proofs.lexer.read_piece.Goals as goal

pub returns-in_err-tok : goal.returns-in_err-tok
returns-in_err-tok c =
    let p = err_from_is_err_and c.from_residual-in_err-tok.result c.from_residual-in_err-tok.ensures.1 in
    rw (p.1, p.2) (fault_is _ _ _ c.in_ok-piece.ensures _ c.in_err-tok.ensures)

pub returns-in_ok-push : goal.returns-in_ok-push
returns-in_ok-push c = step_is _ _ _ c.in_ok-piece.ensures c.args.tokens.now c.push.new.tokens _ _ _ c.in_ok-tok.ensures c.in-Some.is c.in_ok-push.ensures.names c.in_ok-push.ensures.list

pub returns-in_default : goal.returns-in_default
returns-in_default c = step_is _ _ _ c.in_ok-piece.ensures c.args.tokens.now (record { names = c.token.new.names; list = c.args.tokens.now.list }) _ _ _ c.in_ok-tok.ensures c.in_default.is refl (sym (append-nil c.args.tokens.now.list))
