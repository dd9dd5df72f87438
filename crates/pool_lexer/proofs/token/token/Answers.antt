use Rattle.std.proofs.lemmas.Result.{err_from_is_err_and}
use Rattle.pool_lexer.proofs.token.token.Goals as goal

pub returns-in_err-integer-in-Integer : goal.returns-in_err-integer-in-Integer
returns-in_err-integer-in-Integer c =
    let p = err_from_is_err_and c.from_residual-in_err-integer-in-Integer.result c.from_residual-in_err-integer-in-Integer.ensures.1 in
    rw (p.1, p.2) (c.in_err-integer-in-Integer.ensures c.args.names.now)
