use Rattle.std.proofs.Common.{refl, sym, ap, ◌∙◌, ◌+◌, [], ◌∷◌, ◌++◌, length, drop, arith}
use Rattle.std.proofs.lemmas.List.{at_drop_all}
use Rattle.pool_syntax.specs.TreeOf.{expression_of, expressions_of}
use Rattle.pool_syntax.specs.Typing.{size}
use Rattle.code_semantics.specs.declared.unit.Instr.TheVariants as I
use Rattle.pool_compile.specs.Code.{expression_code, expressions_code}
use Rattle.pool_compile.specs.Numberings.{numbering}
use Rattle.pool_compile.proofs.AppendedCode.{few, on_ok, part_at, put_all, put_part, size_is, then}
use Rattle.pool_syntax.proofs.Laws.{call_tree, send_tree}
use Rattle.pool_compile.proofs.expressions.+expressions.Goals as goal

pub emit-overflow_cast-items : goal.emit-overflow_cast-items
emit-overflow_cast-items t c =
    let short = few c.emit-in-Send.new.code.code _ (numbering c.args.numbers.now) c.in-Send.args _ _ c.in_ok-emit_all-in-Send.ensures c.items-in-Send.ensures c.items-in-Send-2.ensures c.emit_all-in-Send.new.code.short in
    omega (arith, short)

pub emit-returns-in_ok-emit_all-in-Call : goal.emit-returns-in_ok-emit_all-in-Call
emit-returns-in_ok-emit_all-in-Call t c =
    let a = c.in-Call in
    let g = numbering c.args.numbers.now in
    on_ok c.put-in-Call.result
    (λ e.
    then _ _ _ _ _ (c.in_ok-emit_all-in-Call.ensures ∙ ap (λ es. c.args.code.now.code ++ expressions_code g (expressions_of es)) c.items.ensures) e
    ∙ ap (λ x. c.args.code.now.code ++ expression_code g x) (sym (ap expression_of a.is ∙ call_tree a.method a.args a.pos)))
    c.put-in-Call.ensures

pub emit-returns-in_ok-emit_all-in-Send : goal.emit-returns-in_ok-emit_all-in-Send
emit-returns-in_ok-emit_all-in-Send t c =
    let a = c.in-Send in
    let g = numbering c.args.numbers.now in
    let base = c.args.code.now.code in
    let to = expression_code g (expression_of a.to.value) in
    let rest = expressions_code g (expressions_of a.args) in
    let i = I.Send a.method (size (expressions_of a.args)) in
    on_ok c.put-in-Send.result
    (λ e.
    then base to (rest ++ i ∷ []) c.emit-in-Send.new.code.code _ (c.in_ok-emit-in-Send.ensures ∙ ap (λ x. base ++ expression_code g (expression_of x)) c.deref-in-Send.ensures)
    (then c.emit-in-Send.new.code.code rest (i ∷ []) c.emit_all-in-Send.new.code.code _
    (c.in_ok-emit_all-in-Send.ensures ∙ ap (λ es. c.emit-in-Send.new.code.code ++ expressions_code g (expressions_of es)) c.items-in-Send.ensures)
    (e ∙ ap (λ n. c.emit_all-in-Send.new.code.code ++ I.Send a.method n ∷ []) (ap length c.items-in-Send-2.ensures ∙ sym (size_is a.args))))
    ∙ ap (λ x. base ++ expression_code g x) (sym (ap expression_of a.is ∙ send_tree a.to a.method a.args a.pos)))
    c.put-in-Send.ensures

pub emit_all-loop-expr-preserved : goal.emit_all-loop-expr-preserved
emit_all-loop-expr-preserved t c =
    let g = numbering c.args.numbers.now in
    put_part c.args.code.now.code c.loop-expr.code.code c.emit.new.code.code (expressions_code g (expressions_of c.args.exprs.now)) (expression_code g (expression_of c.expr-item.result))
    _ (expressions_code g (expressions_of (drop (c.loop-expr.expr-index + 1) c.args.exprs.now)))
    (part_at (λ es. expressions_code g (expressions_of es)) (λ e. expression_code g (expression_of e)) c.args.exprs.now c.loop-expr.expr-index c.expr-item.result (omega arith) c.expr-item.is (λ y ys. refl))
    c.in_ok-emit.ensures c.loop-expr.invariant

pub emit_all-returns : goal.emit_all-returns
emit_all-returns t c =
    let g = numbering c.args.numbers.now in
    put_all c.args.code.now.code c.loop-expr.code.code (expressions_code g (expressions_of c.args.exprs.now)) _
    (at_drop_all (λ es. expressions_code g (expressions_of es)) c.args.exprs.now c.loop-expr.expr-index (omega arith)) c.loop-expr.invariant
