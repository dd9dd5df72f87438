use Rattle.std.proofs.Common.{◌≡◌, ap, ◌∙◌, arith}
use Rattle.std.proofs.lemmas.Grind.{common_steps}
use Rattle.pool_syntax.specs.Terms.{If, While, Select}
use Rattle.pool_syntax.specs.TreeOf.{alternatives_of, expression_of, statement_of, statements_of}
use Rattle.pool_syntax.proofs.Laws.{if_tree, while_tree, select_tree}
use Rattle.search_states.proofs.SameTreeLists.{as_many, same_at, statements_each, alone, alternatives_each}
use Rattle.search_states.proofs.statements.+statements.Goals as goal

pub same_statement-returns-then-same_statements : goal.same_statement-returns-then-same_statements
same_statement-returns-then-same_statements t c =
    let a = c.in-If-If in
    let e : statement_of c.args.left.now ≡ If (expression_of a.cond) (statements_of a.yes) (statements_of a.no) = ap statement_of a.is-0 ∙ if_tree a.cond a.yes a.no in
    let f : statement_of c.args.right.now ≡ If (expression_of a.c) (statements_of a.y) (statements_of a.n) = ap statement_of a.is-1 ∙ if_tree a.c a.y a.n in
    record { same = λ r. grind (arith, common_steps); different = λ r. grind (arith, common_steps) }

pub same_statement-returns-else-same_statements-clause-different : goal.same_statement-returns-else-same_statements-clause-different
same_statement-returns-else-same_statements-clause-different t c = λ r.
    let a = c.in-If-If in
    let e : statement_of c.args.left.now ≡ If (expression_of a.cond) (statements_of a.yes) (statements_of a.no) = ap statement_of a.is-0 ∙ if_tree a.cond a.yes a.no in
    let f : statement_of c.args.right.now ≡ If (expression_of a.c) (statements_of a.y) (statements_of a.n) = ap statement_of a.is-1 ∙ if_tree a.c a.y a.n in
    grind (arith, common_steps)

pub same_statement-returns-then-same_expression-3 : goal.same_statement-returns-then-same_expression-3
same_statement-returns-then-same_expression-3 t c =
    let a = c.in-While-While in
    let e : statement_of c.args.left.now ≡ While (expression_of a.cond) (statements_of a.body) = ap statement_of a.is-0 ∙ while_tree a.cond a.body in
    let f : statement_of c.args.right.now ≡ While (expression_of a.c) (statements_of a.b) = ap statement_of a.is-1 ∙ while_tree a.c a.b in
    record { same = λ r. grind (arith, common_steps); different = λ r. grind (arith, common_steps) }

pub same_statement-returns-in-Select-Select : goal.same_statement-returns-in-Select-Select
same_statement-returns-in-Select-Select t c =
    let a = c.in-Select-Select in
    let e : statement_of c.args.left.now ≡ Select (alternatives_of a.alts) = ap statement_of a.is-0 ∙ select_tree a.alts in
    let f : statement_of c.args.right.now ≡ Select (alternatives_of a.a) = ap statement_of a.is-1 ∙ select_tree a.a in
    record { same = λ r. grind (arith, common_steps); different = λ r. grind (arith, common_steps) }

pub same_statements-returns-then-left-right-clause-different : goal.same_statements-returns-then-left-right-clause-different
same_statements-returns-then-left-right-clause-different t c = λ r.
    let l = as_many statement_of _ _ (statements_each _ _ r) in
    grind (arith, common_steps)

pub same_statements-returns-then-not-same_statement-clause-different : goal.same_statements-returns-then-not-same_statement-clause-different
same_statements-returns-then-not-same_statement-clause-different t c = λ r.
    let s = same_at statement_of c.args.left.now c.args.right.now _ _ _ (omega arith) (omega arith) c.index-left-i.is c.index-right-i.is (statements_each _ _ r) in
    grind (arith, common_steps)

pub same_alternatives-returns-then-left-right-clause-different : goal.same_alternatives-returns-then-left-right-clause-different
same_alternatives-returns-then-left-right-clause-different t c = λ r.
    let l = as_many alone _ _ (alternatives_each _ _ r) in
    grind (arith, common_steps)

pub same_alternatives-returns-then-not-same_alternative-clause-different : goal.same_alternatives-returns-then-not-same_alternative-clause-different
same_alternatives-returns-then-not-same_alternative-clause-different t c = λ r.
    let s = same_at alone c.args.left.now c.args.right.now _ _ _ (omega arith) (omega arith) c.index-left-i.is c.index-right-i.is (alternatives_each _ _ r) in
    grind (arith, common_steps)
