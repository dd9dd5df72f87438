use Rattle.std.proofs.Common.{◌≡◌, refl, sym, ap, ap₂, ◌∙◌, ℕ, ◌+◌, true, [], ◌∷◌, List, drop, arith, rules}
use mir.Val.{to_z, of_z}
use mir.Syntax.{w64}
use Rattle.pool_syntax.specs.declared.token.Tok.{Tok}
use Rattle.pool_syntax.specs.declared.token.Tok.TheVariants.{Int, Sign}
use Rattle.pool_syntax.specs.declared.token.Sign.TheVariants as sign
use Rattle.pool_syntax.specs.declared.tree.Expr.{Expr}
use Rattle.pool_syntax.specs.Terms.{Call, Send}
use Rattle.pool_syntax.specs.TreeOf.{expression_of, expressions_of}
use Rattle.pool_printer.specs.Canonical.{argument_tokens, bare_tokens, call_tokens, expression_tokens, level, separated_by}
use Rattle.pool_printer.specs.Known.{are_known}
use Rattle.pool_printer.specs.SinkState.{separator_at}
use Rattle.pool_printer.proofs.PartsFrom.{from_place}
use Rattle.pool_printer.proofs.SeparatedParts.{known_left, rests_step, rests_end, no_more}
use Rattle.run_types.proofs.Laws.{second}
use Rattle.pool_printer.proofs.SequentialOutput.{prints_append, prints_more, prints_same}
use Rattle.pool_printer.proofs.Sizes.{size, size_all, argument_size}
use Rattle.pool_syntax.proofs.Laws.{call_tree, send_tree}
use Rattle.pool_printer.proofs.ExpressionInPlace.{arguments_more, in_place_high, in_place_low, known_in_place, known_infix, known_part, known_send}
use Rattle.pool_printer.proofs.expressions.+expressions.Goals as goal

abbrev size_of : Expr → ℕ
size_of e = size (expression_of e)

abbrev bare_of : Expr → List Tok
bare_of e = bare_tokens (expression_of e)

pub expression-bare-requires-else-need-level : goal.expression-bare-requires-else-need-level
expression-bare-requires-else-need-level g t c κs within =
    let known : are_known c.args.names.now (bare_of c.args.expr.now) ≡ true = known_in_place c.args.names.now c.args.need _ _ c.requires in
    (omega arith, (within, known))

pub expression-returns-then-need-level : goal.expression-returns-then-need-level
expression-returns-then-need-level g t c =
    prints_same _ _ _ _ _ (in_place_high c.args.need (level (expression_of c.args.expr.now)) (bare_of c.args.expr.now) (omega (arith, c.level.ensures))) c.bare.ensures

pub expression-returns-else-need-level : goal.expression-returns-else-need-level
expression-returns-else-need-level g t c =
    prints_same _ _ _ _ _ (in_place_low c.args.need (level (expression_of c.args.expr.now)) (bare_of c.args.expr.now) (omega (arith, c.level.ensures)))
    (prints_more _ _ _ _ _ _ c.say.ensures (prints_append _ _ _ _ _ _ c.bare-else-need-level.ensures c.say-else-need-level.ensures))

pub bare-expression-requires-in-Binary : goal.bare-expression-requires-in-Binary
bare-expression-requires-in-Binary g t c κs within =
    let whole = rw c.in-Binary.is at c.requires in
    let known : are_known c.args.names.now (expression_tokens c.left_need.result (expression_of c.deref-in-Binary.result.now)) ≡ true =
    ap (are_known c.args.names.now) (ap₂ expression_tokens c.left_need.ensures (ap expression_of c.deref-in-Binary.ensures)) ∙ (known_infix c.args.names.now c.in-Binary.op (expression_of c.in-Binary.left.value) (expression_of c.in-Binary.right.value) c.in-Binary.pos whole).0 in
    (omega (arith, ap size_of c.in-Binary.is, ap size_of c.deref-in-Binary.ensures), (within, known))

pub bare-expression-requires-in-Binary-2 : goal.bare-expression-requires-in-Binary-2
bare-expression-requires-in-Binary-2 g t c κs within =
    let whole = rw c.in-Binary.is at c.requires in
    let known : are_known c.args.names.now (expression_tokens c.right_need.result (expression_of c.deref-in-Binary-2.result.now)) ≡ true =
    ap (are_known c.args.names.now) (ap₂ expression_tokens c.right_need.ensures (ap expression_of c.deref-in-Binary-2.ensures)) ∙ (known_infix c.args.names.now c.in-Binary.op (expression_of c.in-Binary.left.value) (expression_of c.in-Binary.right.value) c.in-Binary.pos whole).1 in
    (omega (arith, ap size_of c.in-Binary.is, ap size_of c.deref-in-Binary-2.ensures), (within, known))

pub bare-call-requires : goal.bare-call-requires
bare-call-requires g t c κs within =
    let tree_is : expression_of c.args.expr.now ≡ Call c.in-Call.method.0 (expressions_of c.in-Call.args) c.in-Call.pos = ap expression_of c.in-Call.is ∙ call_tree c.in-Call.method c.in-Call.args c.in-Call.pos in
    let tree : bare_of c.args.expr.now ≡ call_tokens c.in-Call.method.0 (expressions_of c.items.result.now) =
    ap bare_tokens tree_is ∙ ap (λ es. call_tokens c.in-Call.method.0 (expressions_of es)) (sym c.items.ensures) in
    let known : are_known c.args.names.now (call_tokens c.in-Call.method.0 (expressions_of c.items.result.now)) ≡ true = ap (are_known c.args.names.now) (sym tree) ∙ c.requires in
    (omega (arith, ap size tree_is, ap (λ es. size_all (expressions_of es)) c.items.ensures), (within, known))

pub bare-expression-requires-in-Send : goal.bare-expression-requires-in-Send
bare-expression-requires-in-Send g t c κs within =
    let tree_is : expression_of c.args.expr.now ≡ Send (expression_of c.in-Send.to.value) c.in-Send.method.0 (expressions_of c.in-Send.args) c.in-Send.pos =
    ap expression_of c.in-Send.is ∙ send_tree c.in-Send.to c.in-Send.method c.in-Send.args c.in-Send.pos in
    let whole = ap (λ e. are_known c.args.names.now (bare_tokens e)) (sym tree_is) ∙ c.requires in
    let known : are_known c.args.names.now (expression_tokens 7 (expression_of c.deref-in-Send.result.now)) ≡ true =
    ap (λ e. are_known c.args.names.now (expression_tokens 7 (expression_of e))) c.deref-in-Send.ensures
    ∙ (known_send c.args.names.now (expression_of c.in-Send.to.value) c.in-Send.method.0 (expressions_of c.in-Send.args) c.in-Send.pos whole).0 in
    (omega (arith, ap size_of c.in-Send.is, ap size_of c.deref-in-Send.ensures), (within, known))

pub bare-call-requires-in-Send : goal.bare-call-requires-in-Send
bare-call-requires-in-Send g t c κs within =
    let tree_is : expression_of c.args.expr.now ≡ Send (expression_of c.in-Send.to.value) c.in-Send.method.0 (expressions_of c.in-Send.args) c.in-Send.pos =
    ap expression_of c.in-Send.is ∙ send_tree c.in-Send.to c.in-Send.method c.in-Send.args c.in-Send.pos in
    let tree = ap bare_tokens tree_is in
    let whole = ap (are_known c.args.names.now) (sym tree) ∙ c.requires in
    let known : are_known c.args.names.now (call_tokens c.in-Send.method.0 (expressions_of c.items-in-Send.result.now)) ≡ true =
    ap (λ es. are_known c.args.names.now (call_tokens c.in-Send.method.0 (expressions_of es))) c.items-in-Send.ensures
    ∙ (known_send c.args.names.now (expression_of c.in-Send.to.value) c.in-Send.method.0 (expressions_of c.in-Send.args) c.in-Send.pos whole).1 in
    (omega (arith, ap size tree_is, ap (λ es. size_all (expressions_of es)) c.items-in-Send.ensures), (within, known))

pub bare-returns-in-Int : goal.bare-returns-in-Int
bare-returns-in-Int g t c =
    let same : to_z w64 (of_z w64 c.in-Int.value) ≡ c.in-Int.value = search rules in
    prints_same _ _ _ _ _ (ap (λ z. Int z ∷ []) same ∙ ap bare_of (sym c.in-Int.is)) c.say.ensures

pub bare-returns-in-Bool : goal.bare-returns-in-Bool
bare-returns-in-Bool g t c = prints_same _ _ _ _ _ (ap (λ x. x ∷ []) c.truth_token.ensures ∙ ap bare_of (sym c.in-Bool.is)) c.say-in-Bool.ensures

pub bare-returns-in-Nil : goal.bare-returns-in-Nil
bare-returns-in-Nil g t c = prints_same _ _ _ _ _ (ap bare_of (sym c.in-Nil.is)) c.say-in-Nil.ensures

pub bare-returns-in-Me : goal.bare-returns-in-Me
bare-returns-in-Me g t c = prints_same _ _ _ _ _ (ap bare_of (sym c.in-Me.is)) c.say-in-Me.ensures

pub bare-returns-in-Var : goal.bare-returns-in-Var
bare-returns-in-Var g t c = prints_same _ _ _ _ _ (ap bare_of (sym c.in-Var.is)) c.say-in-Var.ensures

pub bare-returns-in-New : goal.bare-returns-in-New
bare-returns-in-New g t c = prints_same _ _ _ _ _ (ap bare_of (sym c.in-New.is)) (prints_more _ _ _ _ _ _ c.say-in-New.ensures c.say-in-New-2.ensures)

pub bare-returns-in-Unary : goal.bare-returns-in-Unary
bare-returns-in-Unary g t c =
    prints_same _ _ _ _ _ (ap bare_of (sym c.in-Unary.is))
    (prints_more _ _ _ _ _ _ (prints_same _ _ _ _ _ (ap (λ x. x ∷ []) c.operator_token.ensures) c.say-in-Unary.ensures)
    (prints_same _ _ _ _ _ (ap (λ e. expression_tokens 6 (expression_of e)) c.deref.ensures) c.expression.ensures))

pub bare-returns-in-Binary : goal.bare-returns-in-Binary
bare-returns-in-Binary g t c =
    prints_same _ _ _ _ _ (ap bare_of (sym c.in-Binary.is))
    (prints_append _ _ _ _ _ _ (prints_same _ _ _ _ _ (ap₂ expression_tokens c.left_need.ensures (ap expression_of c.deref-in-Binary.ensures)) c.expression-in-Binary.ensures)
    (prints_more _ _ _ _ _ _ (prints_same _ _ _ _ _ (ap (λ x. x ∷ []) c.operator_token-in-Binary.ensures) c.say-in-Binary.ensures)
    (prints_same _ _ _ _ _ (ap₂ expression_tokens c.right_need.ensures (ap expression_of c.deref-in-Binary-2.ensures)) c.expression-in-Binary-2.ensures)))

pub bare-returns-in-Call : goal.bare-returns-in-Call
bare-returns-in-Call g t c =
    let tree = ap bare_tokens (ap expression_of c.in-Call.is ∙ call_tree c.in-Call.method c.in-Call.args c.in-Call.pos) in
    prints_same _ _ _ _ _ (ap (λ es. call_tokens c.in-Call.method.0 (expressions_of es)) c.items.ensures ∙ sym tree) c.call.ensures

pub bare-returns-in-Send : goal.bare-returns-in-Send
bare-returns-in-Send g t c =
    let tree = ap bare_tokens (ap expression_of c.in-Send.is ∙ send_tree c.in-Send.to c.in-Send.method c.in-Send.args c.in-Send.pos) in
    prints_same _ _ _ _ _ (sym tree)
    (prints_append _ _ _ _ _ _ (prints_same _ _ _ _ _ (ap (λ e. expression_tokens 7 (expression_of e)) c.deref-in-Send.ensures) c.expression-in-Send.ensures)
    (prints_more _ _ _ _ _ _ c.say-in-Send.ensures (prints_same _ _ _ _ _ (ap (λ es. call_tokens c.in-Send.method.0 (expressions_of es)) c.items-in-Send.ensures) c.call-in-Send.ensures)))

pub call-arguments-requires : goal.call-arguments-requires
call-arguments-requires g t c κs within =
    (omega arith, (within, known_left c.args.names.now (separated_by (Sign sign.Comma) (argument_tokens (expressions_of c.args.args.now))) (Sign sign.RightParen ∷ []) (second _ _ c.requires)))

pub call-returns : goal.call-returns
call-returns g t c =
    prints_more _ _ _ _ _ _ c.say.ensures (prints_more _ _ _ _ _ _ c.say-2.ensures (prints_append _ _ _ _ _ _ c.arguments.ensures c.say-3.ensures))

pub arguments-expression-requires : goal.arguments-expression-requires
arguments-expression-requires g t c κs within =
    let front = arguments_more c.args.args.now c.loop-i.i c.index-args-i.result (omega arith) c.index-args-i.is in
    let known : are_known c.args.names.now (expression_tokens 1 (expression_of c.index-args-i.result)) ≡ true =
    known_part c.args.names.now (separator_at (Sign sign.Comma) c.loop-i.i) (expression_tokens 1 (expression_of c.index-args-i.result))
    (from_place (Sign sign.Comma) (c.loop-i.i + 1) (argument_tokens (expressions_of (drop (c.loop-i.i + 1) c.args.args.now)))) _ front c.loop-i.invariant.known in
    (omega (arith, argument_size c.args.args.now c.loop-i.i c.index-args-i.result (omega arith) c.index-args-i.is), (within, known))

pub arguments-loop-i-preserved : goal.arguments-loop-i-preserved
arguments-loop-i-preserved g t c =
    rests_step _ _ _ _ _ _ _ _
    (rests_step _ _ _ _ _ _ _ _ c.loop-i.invariant (arguments_more c.args.args.now c.loop-i.i c.index-args-i.result (omega arith) c.index-args-i.is) c.separate.ensures)
    refl c.expression.ensures

pub arguments-returns : goal.arguments-returns
arguments-returns g t c = rests_end _ _ _ _ _ c.loop-i.invariant (no_more _ c.loop-i.i (λ es. argument_tokens (expressions_of es)) c.args.args.now (omega arith) refl)

pub bare-expression-requires : goal.bare-expression-requires
bare-expression-requires g t c κs within =
    let whole = rw c.in-Unary.is at c.requires in
    let known : are_known c.args.names.now (expression_tokens 6 (expression_of c.deref.result.now)) ≡ true =
    ap (λ e. are_known c.args.names.now (expression_tokens 6 (expression_of e))) c.deref.ensures ∙ second _ _ whole in
    (omega (arith, ap size_of c.in-Unary.is, ap size_of c.deref.ensures), (within, known))
