use Rattle.std.proofs.Common.{refl, ◌+◌, drop, arith}
use Rattle.std.proofs.lemmas.List.{at_drop_all}
use Rattle.pool_syntax.specs.declared.tree.Alt.{out-Alt}
use Rattle.pool_syntax.specs.TreeOf.{expression_of, alternatives_of}
use Rattle.pool_compile.specs.Code.{expression_code, guards_code}
use Rattle.pool_compile.specs.Numberings.{numbering}
use Rattle.pool_compile.proofs.AppendedCode.{part_at, put_all, put_part}
use Rattle.pool_compile.proofs.statements.emit_guards.Goals as goal

pub loop-alt-preserved : goal.loop-alt-preserved
loop-alt-preserved c =
    let g = numbering c.args.numbers.now in
    put_part c.args.code.now.code c.loop-alt.code.code c.emit.new.code.code (guards_code g (alternatives_of c.args.alts.now)) (expression_code g (expression_of (out-Alt c.alt-item.result).guard))
    _ (guards_code g (alternatives_of (drop (c.loop-alt.alt-index + 1) c.args.alts.now)))
    (part_at (λ xs. guards_code g (alternatives_of xs)) (λ a. expression_code g (expression_of (out-Alt a).guard)) c.args.alts.now c.loop-alt.alt-index c.alt-item.result (omega arith) c.alt-item.is (λ y ys. refl))
    c.in_ok-emit.ensures c.loop-alt.invariant

pub returns : goal.returns
returns c =
    let g = numbering c.args.numbers.now in
    put_all c.args.code.now.code c.loop-alt.code.code (guards_code g (alternatives_of c.args.alts.now)) _
    (at_drop_all (λ xs. guards_code g (alternatives_of xs)) c.args.alts.now c.loop-alt.alt-index (omega arith)) c.loop-alt.invariant
