use Rattle.std.proofs.Common.{◌≡◌, refl, sym, ap, ◌∙◌, ◌+◌, ◌<◌, true, List, ◌∷◌, length, drop, arith}
use Rattle.std.proofs.lemmas.Grind.{common_steps}
use Rattle.std.proofs.lemmas.List.{at_drop_all}
use Rattle.pool_syntax.specs.declared.token.Tok.{Tok}
use Rattle.pool_syntax.specs.declared.token.Tok.TheVariants.{Sign, Word}
use Rattle.text_scan.specs.declared.keywords.Keyword.TheVariants as word
use Rattle.pool_syntax.specs.declared.token.Sign.TheVariants as sign
use Rattle.pool_syntax.specs.declared.tree.Stmt.{Stmt}
use Rattle.pool_syntax.specs.Terms.{If, While, Select}
use Rattle.pool_syntax.specs.TreeOf.{expression_of, expressions_of, statement_of, statements_of, alternatives_of}
use Rattle.pool_printer.specs.Canonical.{alternatives_tokens, call_tokens, else_tokens, names_tokens, statement_parts, statement_tokens, statements_tokens}
use Rattle.pool_printer.specs.Known.{are_known}
use Rattle.pool_printer.specs.Parts.{alternative_tokens}
use Rattle.pool_printer.specs.SinkState.{separator_at}
use Rattle.pool_printer.proofs.PartsFrom.{from_place}
use Rattle.pool_printer.proofs.StatementParts.{alternatives_more, else_there, known_alternative, known_async, known_if, known_select, known_while, statements_more}
use Rattle.pool_printer.proofs.ExpressionInPlace.{known_part}
use Rattle.pool_printer.proofs.SeparatedParts.{known_left, no_more, rests_step, rests_end}
use Rattle.pool_printer.proofs.SequentialOutput.{prints_append, prints_more, prints_same}
use Rattle.pool_printer.proofs.Sizes.{alternative_length, length_of, length_of_all, length_of_alternatives, statement_length}
use Rattle.pool_syntax.proofs.Laws.{if_tree, while_tree, select_tree}
use Rattle.pool_printer.proofs.statements.+statements.Goals as goal

abbrev tokens_of : Stmt → List Tok
tokens_of s = statement_tokens (statement_of s)

abbrev all_of : List Stmt → List Tok
all_of ss = statements_tokens (statements_of ss)

abbrev else_of : List Stmt → List Tok
else_of ss = else_tokens (statements_of ss) (statements_tokens (statements_of ss))

pub statement-expression-requires-in-Async : goal.statement-expression-requires-in-Async
statement-expression-requires-in-Async g t c =
    let a = c.in-Async in
    (known_async c.args.names.now (expression_of a.to) a.method.name.0 a.method.pos (expressions_of a.args) (ap (λ s. are_known c.args.names.now (tokens_of s)) (sym a.is) ∙ c.requires)).0

pub statement-call-requires : goal.statement-call-requires
statement-call-requires g t c =
    let a = c.in-Async in
    ap (λ es. are_known c.args.names.now (call_tokens a.method.name.0 (expressions_of es))) c.items.ensures
    ∙ (known_async c.args.names.now (expression_of a.to) a.method.name.0 a.method.pos (expressions_of a.args) (ap (λ s. are_known c.args.names.now (tokens_of s)) (sym a.is) ∙ c.requires)).1

pub statement-expression-requires-in-If : goal.statement-expression-requires-in-If
statement-expression-requires-in-If g t c =
    let a = c.in-If in
    let tree : statement_of c.args.stmt.now ≡ If (expression_of a.cond) (statements_of a.yes) (statements_of a.no) = ap statement_of a.is ∙ if_tree a.cond a.yes a.no in
    (known_if c.args.names.now (expression_of a.cond) (statements_of a.yes) (statements_of a.no) (ap (λ s. are_known c.args.names.now (statement_tokens s)) (sym tree) ∙ c.requires)).0

pub statement-statements-requires : goal.statement-statements-requires
statement-statements-requires g t c κs within =
    let a = c.in-If in
    let tree : statement_of c.args.stmt.now ≡ If (expression_of a.cond) (statements_of a.yes) (statements_of a.no) = ap statement_of a.is ∙ if_tree a.cond a.yes a.no in
    let known : are_known c.args.names.now (all_of c.items-in-If.result.now) ≡ true =
    ap (λ ss. are_known c.args.names.now (all_of ss)) c.items-in-If.ensures
    ∙ (known_if c.args.names.now (expression_of a.cond) (statements_of a.yes) (statements_of a.no) (ap (λ s. are_known c.args.names.now (statement_tokens s)) (sym tree) ∙ c.requires)).1 in
    (omega (arith, ap length_of tree, ap (λ ss. length_of_all (statements_of ss)) c.items-in-If.ensures), (within, known))

pub statement-otherwise-requires : goal.statement-otherwise-requires
statement-otherwise-requires g t c κs within =
    let a = c.in-If in
    let tree : statement_of c.args.stmt.now ≡ If (expression_of a.cond) (statements_of a.yes) (statements_of a.no) = ap statement_of a.is ∙ if_tree a.cond a.yes a.no in
    let known : are_known c.args.names.now (else_of c.items-in-If-2.result.now) ≡ true =
    ap (λ ss. are_known c.args.names.now (else_of ss)) c.items-in-If-2.ensures
    ∙ (known_if c.args.names.now (expression_of a.cond) (statements_of a.yes) (statements_of a.no) (ap (λ s. are_known c.args.names.now (statement_tokens s)) (sym tree) ∙ c.requires)).2 in
    (omega (arith, ap length_of tree, ap (λ ss. length_of_all (statements_of ss)) c.items-in-If-2.ensures), (within, known))

pub statement-expression-requires-in-While : goal.statement-expression-requires-in-While
statement-expression-requires-in-While g t c =
    let a = c.in-While in
    let tree : statement_of c.args.stmt.now ≡ While (expression_of a.cond) (statements_of a.body) = ap statement_of a.is ∙ while_tree a.cond a.body in
    (known_while c.args.names.now (expression_of a.cond) (statements_of a.body) (ap (λ s. are_known c.args.names.now (statement_tokens s)) (sym tree) ∙ c.requires)).0

pub statement-statements-requires-in-While : goal.statement-statements-requires-in-While
statement-statements-requires-in-While g t c κs within =
    let a = c.in-While in
    let tree : statement_of c.args.stmt.now ≡ While (expression_of a.cond) (statements_of a.body) = ap statement_of a.is ∙ while_tree a.cond a.body in
    let known : are_known c.args.names.now (all_of c.items-in-While.result.now) ≡ true =
    ap (λ ss. are_known c.args.names.now (all_of ss)) c.items-in-While.ensures
    ∙ (known_while c.args.names.now (expression_of a.cond) (statements_of a.body) (ap (λ s. are_known c.args.names.now (statement_tokens s)) (sym tree) ∙ c.requires)).1 in
    (omega (arith, ap length_of tree, ap (λ ss. length_of_all (statements_of ss)) c.items-in-While.ensures), (within, known))

pub statement-alternatives-requires : goal.statement-alternatives-requires
statement-alternatives-requires g t c κs within =
    let a = c.in-Select in
    let tree : statement_of c.args.stmt.now ≡ Select (alternatives_of a.alts) = ap statement_of a.is ∙ select_tree a.alts in
    let known : are_known c.args.names.now (alternatives_tokens (alternatives_of c.items-in-Select.result.now)) ≡ true =
    ap (λ xs. are_known c.args.names.now (alternatives_tokens (alternatives_of xs))) c.items-in-Select.ensures
    ∙ known_select c.args.names.now (alternatives_of a.alts) (ap (λ s. are_known c.args.names.now (statement_tokens s)) (sym tree) ∙ c.requires) in
    (omega (arith, ap length_of tree, ap (λ xs. length_of_alternatives (alternatives_of xs)) c.items-in-Select.ensures), (within, known))

pub statement-returns-in-Assign : goal.statement-returns-in-Assign
statement-returns-in-Assign g t c =
    prints_same _ _ _ _ _ (ap tokens_of (sym c.in-Assign.is)) (prints_more _ _ _ _ _ _ c.say.ensures (prints_more _ _ _ _ _ _ c.say-in-Assign.ensures c.expression.ensures))

pub statement-returns-in-Write : goal.statement-returns-in-Write
statement-returns-in-Write g t c = prints_same _ _ _ _ _ (ap tokens_of (sym c.in-Write.is)) (prints_more _ _ _ _ _ _ c.say-in-Write.ensures c.expression-in-Write.ensures)

pub statement-returns-in-WriteText : goal.statement-returns-in-WriteText
statement-returns-in-WriteText g t c =
    prints_same _ _ _ _ _ (ap tokens_of (sym c.in-WriteText.is)) (prints_more _ _ _ _ _ _ c.say-in-WriteText.ensures c.say-in-WriteText-2.ensures)

pub statement-returns-in-Do : goal.statement-returns-in-Do
statement-returns-in-Do g t c = prints_same _ _ _ _ _ (ap tokens_of (sym c.in-Do.is)) c.expression-in-Do.ensures

pub statement-returns-in-Async : goal.statement-returns-in-Async
statement-returns-in-Async g t c =
    prints_same _ _ _ _ _ (ap tokens_of (sym c.in-Async.is))
    (prints_append _ _ _ _ _ _ c.expression-in-Async.ensures
    (prints_more _ _ _ _ _ _ c.say-in-Async.ensures (prints_same _ _ _ _ _ (ap (λ es. call_tokens c.in-Async.method.name.0 (expressions_of es)) c.items.ensures) c.call.ensures)))

pub statement-returns-in-If : goal.statement-returns-in-If
statement-returns-in-If g t c =
    let a = c.in-If in
    let tree : statement_of c.args.stmt.now ≡ If (expression_of a.cond) (statements_of a.yes) (statements_of a.no) = ap statement_of a.is ∙ if_tree a.cond a.yes a.no in
    prints_same _ _ _ _ _ (ap statement_tokens (sym tree))
    (prints_more _ _ _ _ _ _ c.say-in-If.ensures
    (prints_append _ _ _ _ _ _ c.expression-in-If.ensures
    (prints_more _ _ _ _ _ _ c.say-in-If-2.ensures
    (prints_append _ _ _ _ _ _ (prints_same _ _ _ _ _ (ap all_of c.items-in-If.ensures) c.statements.ensures)
    (prints_append _ _ _ _ _ _ (prints_same _ _ _ _ _ (ap else_of c.items-in-If-2.ensures) c.otherwise.ensures) c.say-in-If-3.ensures)))))

pub statement-returns-in-While : goal.statement-returns-in-While
statement-returns-in-While g t c =
    let a = c.in-While in
    let tree : statement_of c.args.stmt.now ≡ While (expression_of a.cond) (statements_of a.body) = ap statement_of a.is ∙ while_tree a.cond a.body in
    prints_same _ _ _ _ _ (ap statement_tokens (sym tree))
    (prints_more _ _ _ _ _ _ c.say-in-While.ensures
    (prints_append _ _ _ _ _ _ c.expression-in-While.ensures
    (prints_more _ _ _ _ _ _ c.say-in-While-2.ensures
    (prints_append _ _ _ _ _ _ (prints_same _ _ _ _ _ (ap all_of c.items-in-While.ensures) c.statements-in-While.ensures) c.say-in-While-3.ensures))))

pub statement-returns-in-Answer : goal.statement-returns-in-Answer
statement-returns-in-Answer g t c =
    prints_same _ _ _ _ _ (ap (λ ns. Word word.Answer ∷ names_tokens ns) c.items-in-Answer.ensures ∙ ap tokens_of (sym c.in-Answer.is)) c.answer_to.ensures

pub statement-returns-in-Select : goal.statement-returns-in-Select
statement-returns-in-Select g t c =
    let a = c.in-Select in
    let tree : statement_of c.args.stmt.now ≡ Select (alternatives_of a.alts) = ap statement_of a.is ∙ select_tree a.alts in
    prints_same _ _ _ _ _ (ap statement_tokens (sym tree))
    (prints_more _ _ _ _ _ _ c.say-in-Select.ensures
    (prints_append _ _ _ _ _ _ (prints_same _ _ _ _ _ (ap (λ xs. alternatives_tokens (alternatives_of xs)) c.items-in-Select.ensures) c.alternatives.ensures) c.say-in-Select-2.ensures))

pub otherwise-returns-then-not-is_empty : goal.otherwise-returns-then-not-is_empty
otherwise-returns-then-not-is_empty g t c =
    let some : 0 < length c.args.stmts.now = grind (arith, common_steps, c.is_empty.ensures) in
    prints_same _ _ _ _ _ (else_there c.args.stmts.now _ some) (prints_more _ _ _ _ _ _ c.say.ensures c.statements.ensures)

pub statements-statement-requires : goal.statements-statement-requires
statements-statement-requires g t c κs within =
    let front = statements_more c.args.stmts.now c.loop-i.i c.index-stmts-i.result (omega arith) c.index-stmts-i.is in
    let known : are_known c.args.names.now (tokens_of c.index-stmts-i.result) ≡ true =
    known_part c.args.names.now (separator_at (Sign sign.Semicolon) c.loop-i.i) (tokens_of c.index-stmts-i.result)
    (from_place (Sign sign.Semicolon) (c.loop-i.i + 1) (statement_parts (statements_of (drop (c.loop-i.i + 1) c.args.stmts.now)))) _ front c.loop-i.invariant.known in
    (omega (arith, statement_length c.args.stmts.now c.loop-i.i c.index-stmts-i.result (omega arith) c.index-stmts-i.is), (within, known))

pub statements-loop-i-preserved : goal.statements-loop-i-preserved
statements-loop-i-preserved g t c =
    rests_step _ _ _ _ _ _ _ _
    (rests_step _ _ _ _ _ _ _ _ c.loop-i.invariant (statements_more c.args.stmts.now c.loop-i.i c.index-stmts-i.result (omega arith) c.index-stmts-i.is) c.separate.ensures)
    refl c.statement.ensures

pub statements-returns : goal.statements-returns
statements-returns g t c = rests_end _ _ _ _ _ c.loop-i.invariant (no_more _ c.loop-i.i (λ ss. statement_parts (statements_of ss)) c.args.stmts.now (omega arith) refl)

pub alternatives-alternative-requires : goal.alternatives-alternative-requires
alternatives-alternative-requires g t c κs within =
    let front = alternatives_more c.args.alts.now c.loop-alt.alt-index c.alt-item.result (omega arith) c.alt-item.is in
    let known : are_known c.args.names.now (alternative_tokens c.alt-item.result) ≡ true =
    known_left c.args.names.now (alternative_tokens c.alt-item.result) (alternatives_tokens (alternatives_of (drop (c.loop-alt.alt-index + 1) c.args.alts.now)))
    (ap (are_known c.args.names.now) (sym front) ∙ c.loop-alt.invariant.known) in
    (omega (arith, alternative_length c.args.alts.now c.loop-alt.alt-index c.alt-item.result (omega arith) c.alt-item.is), (within, known))

pub alternatives-loop-alt-preserved : goal.alternatives-loop-alt-preserved
alternatives-loop-alt-preserved g t c =
    rests_step _ _ _ _ _ _ _ _ c.loop-alt.invariant (alternatives_more c.args.alts.now c.loop-alt.alt-index c.alt-item.result (omega arith) c.alt-item.is) c.alternative.ensures

pub alternatives-returns : goal.alternatives-returns
alternatives-returns g t c =
    rests_end _ _ _ _ _ c.loop-alt.invariant (at_drop_all (λ xs. alternatives_tokens (alternatives_of xs)) c.args.alts.now c.loop-alt.alt-index (omega arith))

pub alternative-expression-requires : goal.alternative-expression-requires
alternative-expression-requires g t c = (known_alternative c.args.names.now c.args.alt.now c.requires).0

pub alternative-answer-requires : goal.alternative-answer-requires
alternative-answer-requires g t c = (known_alternative c.args.names.now c.args.alt.now c.requires).1

pub alternative-statements-requires : goal.alternative-statements-requires
alternative-statements-requires g t c κs within =
    let known : are_known c.args.names.now (all_of c.items.result.now) ≡ true = ap (λ ss. are_known c.args.names.now (all_of ss)) c.items.ensures ∙ (known_alternative c.args.names.now c.args.alt.now c.requires).2 in
    (omega (arith, ap (λ ss. length_of_all (statements_of ss)) c.items.ensures), (within, known))

pub alternative-returns : goal.alternative-returns
alternative-returns g t c =
    prints_more _ _ _ _ _ _ c.say.ensures
    (prints_append _ _ _ _ _ _ c.expression.ensures
    (prints_append _ _ _ _ _ _ c.answer.ensures (prints_more _ _ _ _ _ _ c.say-2.ensures (prints_same _ _ _ _ _ (ap all_of c.items.ensures) c.statements.ensures))))
