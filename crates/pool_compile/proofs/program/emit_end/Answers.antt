use Rattle.std.proofs.Common.{sym}
use Rattle.pool_compile.specs.Numberings.{numbering}
use Rattle.pool_compile.proofs.AppendedCode.{on_ok, put_post}
use Rattle.pool_compile.proofs.program.emit_end.Goals as goal

pub returns : goal.returns
returns c =
    on_ok c.put-3.result
    (put_post (numbering c.args.numbers.now) c.args.code.now.code c.put-2.new.self.code c.emit_statements.new.code.code c.put-3.new.self.code c.args.post.now
    (sym c.if-is_empty.ensures) c.in_ok-put.ensures c.in_ok-emit_statements.ensures)
    c.put-3.ensures
