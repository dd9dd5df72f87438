use Rattle.std.proofs.Common.{sym, ap, ◌∙◌, ℕ, ◌+◌, ◌<◌, [], ◌∷◌, ◌++◌, length, arith}
use Rattle.std.specs.Prelude.{slice_set}
use Rattle.std.proofs.lemmas.List.{at_drop_all, length-set}
use Rattle.pool_syntax.specs.Terms.{Select}
use Rattle.pool_syntax.specs.TreeOf.{expression_of, expressions_of, statement_of, statements_of, alternatives_of}
use Rattle.pool_syntax.specs.Typing.{size}
use Rattle.pool_syntax.proofs.Laws.{if_tree, select_tree, while_tree}
use Rattle.code_semantics.specs.declared.unit.Instr.TheVariants as I
use Rattle.pool_compile.specs.Code.{alternatives_at, alternatives_code, expression_code, expressions_code, statement_code, statements_code}
use Rattle.pool_compile.specs.Jumps.{jumps_at}
use Rattle.pool_compile.specs.Numberings.{numbering}
use Rattle.pool_compile.proofs.AppendedCode.{few, on_ok, put_all, size_is, then}
use Rattle.pool_compile.proofs.JumpPatches.{jumps_are_there, patch_if, patch_select, patch_while, put_jump, put_statement, put_target, put_work, select_is_there}
use Rattle.pool_compile.proofs.statements.+statements.Goals as goal

pub emit_select-fill-requires : goal.emit_select-fill-requires
emit_select-fill-requires t c =
    jumps_are_there (numbering c.args.numbers.now) (alternatives_of c.args.alts.now) c.put.new.self.code _ _ c.in_ok-emit_works.ensures.code
    (c.deref.ensures.value ∙ c.in_ok-emit_works.ensures.jumps ∙ ap (λ l. l ++ jumps_at (numbering c.args.numbers.now) (length c.put.new.self.code) (alternatives_of c.args.alts.now)) c.new-jumps.ensures.items)

pub emit_select-set-requires : goal.emit_select-set-requires
emit_select-set-requires t c =
    let there = select_is_there c.emit_guards.new.code.code c.put.new.self.code c.emit_works.new.code.code _ (I.Jump 0) c.deref.result.now c.place-select.result c.place.result
    c.place-select.ensures c.in_ok-put.ensures c.in_ok-emit_works.ensures.code in
    omega (arith, there, ap length c.fill.ensures)

pub emit_select-returns : goal.emit_select-returns
emit_select-returns t c =
    let g = numbering c.args.numbers.now in
    let alts = alternatives_of c.args.alts.now in
    let c2 = c.put.new.self.code in
    c.set.ensures
    ∙ ap (λ x. slice_set x c.place-select.result (I.Select c.emit_works.new.targets)) c.fill.ensures
    ∙ patch_select g alts c.args.code.now.code c.emit_guards.new.code.code c2 c.emit_works.new.code.code _ c.emit_works.new.targets c.deref.result.now c.place-select.result c.place.result
    c.in_ok-emit_guards.ensures c.place-select.ensures c.in_ok-put.ensures c.in_ok-emit_works.ensures.code
    (c.in_ok-emit_works.ensures.targets ∙ ap (λ l. l ++ alternatives_at g (length c2) alts) c.make-targets.ensures)
    (c.deref.ensures.value ∙ c.in_ok-emit_works.ensures.jumps ∙ ap (λ l. l ++ jumps_at g (length c2) alts) c.new-jumps.ensures.items)
    c.place.ensures

pub emit_statement-overflow_cast-items : goal.emit_statement-overflow_cast-items
emit_statement-overflow_cast-items t c =
    let short = few c.emit-in-Async.new.code.code _ (numbering c.args.numbers.now) c.in-Async.args _ _ c.in_ok-emit_all-in-Async.ensures c.items.ensures c.items-in-Async.ensures c.emit_all.new.code.short in
    omega (arith, short)

pub emit_statement-returns-in_ok-emit_all-in-Async : goal.emit_statement-returns-in_ok-emit_all-in-Async
emit_statement-returns-in_ok-emit_all-in-Async t c =
    let a = c.in-Async in
    let g = numbering c.args.numbers.now in
    let base = c.args.code.now.code in
    let to = expression_code g (expression_of a.to) in
    let rest = expressions_code g (expressions_of a.args) in
    let i = I.Async a.method.name (size (expressions_of a.args)) in
    on_ok c.put-in-Async.result
    (λ e.
    then base to (rest ++ i ∷ []) c.emit-in-Async.new.code.code _ c.in_ok-emit-in-Async.ensures
    (then c.emit-in-Async.new.code.code rest (i ∷ []) c.emit_all.new.code.code _
    (c.in_ok-emit_all-in-Async.ensures ∙ ap (λ es. c.emit-in-Async.new.code.code ++ expressions_code g (expressions_of es)) c.items.ensures)
    (e ∙ ap (λ n. c.emit_all.new.code.code ++ I.Async a.method.name n ∷ []) (ap length c.items-in-Async.ensures ∙ sym (size_is a.args))))
    ∙ ap (λ x. base ++ statement_code g (length base) (statement_of x)) (sym a.is))
    c.put-in-Async.ensures

pub emit_statement-returns-in_ok-emit_statements-in-If-2 : goal.emit_statement-returns-in_ok-emit_statements-in-If-2
emit_statement-returns-in_ok-emit_statements-in-If-2 t c =
    let a = c.in-If in
    let g = numbering c.args.numbers.now in
    let base = c.args.code.now.code in
    let these = λ (n : ℕ). statements_code g n (statements_of a.yes) in
    let those = λ (n : ℕ). statements_code g n (statements_of a.no) in
    let c2 = c.put-in-If.new.self.code in
    let c4 = c.put-in-If-2.new.self.code in
    let c5 = c.emit_statements-in-If.new.code.code in
    c.set-in-If.ensures
    ∙ ap (λ x. slice_set x c.place-jump.result (I.Jump c.place.result)) c.set.ensures
    ∙ patch_if base (expression_code g (expression_of a.cond)) these those c.emit-in-If.new.code.code c2 c.emit_statements.new.code.code c4 c5 _ _ c.place-branch.result c.place-jump.result c.place.result
    c.in_ok-emit-in-If.ensures c.place-branch.ensures c.in_ok-put-in-If.ensures
    (c.in_ok-emit_statements-in-If.ensures ∙ ap (λ ss. c2 ++ statements_code g (length c2) (statements_of ss)) c.items-in-If.ensures)
    c.place-jump.ensures c.in_ok-put-in-If-2.ensures
    (c.in_ok-emit_statements-in-If-2.ensures ∙ ap (λ ss. c4 ++ statements_code g (length c4) (statements_of ss)) c.items-in-If-2.ensures)
    (c.place.ensures ∙ ap length c.set.ensures ∙ length-set c5 c.place-branch.result (I.Branch (c.place-jump.result + 1)))
    ∙ ap (λ x. base ++ statement_code g (length base) x) (sym (ap statement_of a.is ∙ if_tree a.cond a.yes a.no))

pub emit_statement-returns-in_ok-put-in-While-3 : goal.emit_statement-returns-in_ok-put-in-While-3
emit_statement-returns-in_ok-put-in-While-3 t c =
    let a = c.in-While in
    let g = numbering c.args.numbers.now in
    let base = c.args.code.now.code in
    let c3 = c.put-in-While-2.new.self.code in
    c.set-in-While.ensures
    ∙ patch_while base (expression_code g (expression_of a.cond)) (λ (n : ℕ). statements_code g n (statements_of a.body)) c.put-in-While.new.self.code c.emit-in-While.new.code.code c3 c.emit_statements-in-While.new.code.code c.put-in-While-3.new.self.code
    _ c.place-front.result c.place-branch-in-While.result c.place-in-While.result
    c.place-front.ensures c.in_ok-put-in-While.ensures c.in_ok-emit-in-While.ensures c.place-branch-in-While.ensures c.in_ok-put-in-While-2.ensures
    (c.in_ok-emit_statements-in-While.ensures ∙ ap (λ ss. c3 ++ statements_code g (length c3) (statements_of ss)) c.items-in-While.ensures)
    c.in_ok-put-in-While-3.ensures c.place-in-While.ensures
    ∙ ap (λ x. base ++ statement_code g (length base) x) (sym (ap statement_of a.is ∙ while_tree a.cond a.body))

pub emit_statement-returns-in-Select : goal.emit_statement-returns-in-Select
emit_statement-returns-in-Select t c =
    let a = c.in-Select in
    let g = numbering c.args.numbers.now in
    let base = c.args.code.now.code in
    on_ok c.emit_select.result
    (λ e. e ∙ ap (λ xs. base ++ statement_code g (length base) (Select (alternatives_of xs))) c.items-in-Select.ensures
    ∙ ap (λ x. base ++ statement_code g (length base) x) (sym (ap statement_of a.is ∙ select_tree a.alts)))
    c.emit_select.ensures

pub emit_statements-loop-stmt-preserved : goal.emit_statements-loop-stmt-preserved
emit_statements-loop-stmt-preserved t c =
    let g = numbering c.args.numbers.now in
    put_statement g c.args.code.now.code c.loop-stmt.code.code c.emit_statement.new.code.code (statements_code g (length c.args.code.now.code) (statements_of c.args.stmts.now))
    c.args.stmts.now c.loop-stmt.stmt-index c.stmt-item.result (omega arith) c.stmt-item.is c.in_ok-emit_statement.ensures c.loop-stmt.invariant

pub emit_statements-returns : goal.emit_statements-returns
emit_statements-returns t c =
    let g = numbering c.args.numbers.now in
    put_all c.args.code.now.code c.loop-stmt.code.code (statements_code g (length c.args.code.now.code) (statements_of c.args.stmts.now)) _
    (at_drop_all (λ ss. statements_code g (length c.loop-stmt.code.code) (statements_of ss)) c.args.stmts.now c.loop-stmt.stmt-index (omega arith)) c.loop-stmt.invariant

pub emit_works-loop-alt-preserved : goal.emit_works-loop-alt-preserved
emit_works-loop-alt-preserved t c =
    let g = numbering c.args.numbers.now in
    let now = c.loop-alt.code.code in
    let base = c.args.code.now.code in
    let c1 = c.emit_statements.new.code.code in
    let new = c.put.new.self.code in
    let xs = c.args.alts.now in
    let i = c.loop-alt.alt-index in
    let a = c.alt-item.result in
    let within : i < length xs = omega arith in
    let e1 = c.in_ok-emit_statements.ensures ∙ ap (λ ss. now ++ statements_code g (length now) (statements_of ss)) c.items.ensures in
    let e2 = c.in_ok-put.ensures in
    let h = c.loop-alt.invariant in (
      put_work g now c1 new xs i a within c.alt-item.is e1 e2 base (alternatives_code g (length base) 0 (alternatives_of xs)) h.0,
      put_target g now c1 new xs i a within c.alt-item.is e1 e2 c.loop-alt.targets c.add.new.targets c.args.targets.now (alternatives_at g (length base) (alternatives_of xs)) _ c.place.result
          c.in_ok-answer_of.ensures c.place.ensures c.in_ok-add.ensures h.1,
      put_jump g now c1 new xs i a within c.alt-item.is e1 e2 c.loop-alt.jumps.items c.push.new.self.items c.args.jumps.now.items (jumps_at g (length base) (alternatives_of xs)) c.place-in-loop-alt.result
          c.place-in-loop-alt.ensures c.in_ok-push.ensures.items h.2,
    )

pub emit_works-returns-clause-code : goal.emit_works-returns-clause-code
emit_works-returns-clause-code t c =
    let g = numbering c.args.numbers.now in
    put_all c.args.code.now.code c.loop-alt.code.code (alternatives_code g (length c.args.code.now.code) 0 (alternatives_of c.args.alts.now)) _
    (at_drop_all (λ xs. alternatives_code g (length c.loop-alt.code.code) 0 (alternatives_of xs)) c.args.alts.now c.loop-alt.alt-index (omega arith)) c.loop-alt.invariant.0

pub emit_works-returns-clause-targets : goal.emit_works-returns-clause-targets
emit_works-returns-clause-targets t c =
    let g = numbering c.args.numbers.now in
    put_all c.args.targets.now c.loop-alt.targets (alternatives_at g (length c.args.code.now.code) (alternatives_of c.args.alts.now)) _
    (at_drop_all (λ xs. alternatives_at g (length c.loop-alt.code.code) (alternatives_of xs)) c.args.alts.now c.loop-alt.alt-index (omega arith)) c.loop-alt.invariant.1

pub emit_works-returns-clause-jumps : goal.emit_works-returns-clause-jumps
emit_works-returns-clause-jumps t c =
    let g = numbering c.args.numbers.now in
    put_all c.args.jumps.now.items c.loop-alt.jumps.items (jumps_at g (length c.args.code.now.code) (alternatives_of c.args.alts.now)) _
    (at_drop_all (λ xs. jumps_at g (length c.loop-alt.code.code) (alternatives_of xs)) c.args.alts.now c.loop-alt.alt-index (omega arith)) c.loop-alt.invariant.2
