-- Lists inside the code's trees.
use Rattle.std.proofs.Common.{◌≡◌, refl, ap, ap₂, sym, ◌∙◌, ℕ, List, Box, Global}
use Rattle.run_types.specs.declared.types.NameId.{NameId}
use Rattle.pool_syntax.specs.declared.tree.Expr.{Expr, Row_of-Expr, end_of-Expr, more_of-Expr, items-the_row-Expr, items_hidden-the_row-Expr-0}
use Rattle.pool_syntax.specs.declared.tree.Expr.TheBlock.{hidden-the_row-Expr-0}
use Rattle.pool_syntax.specs.declared.tree.Expr.TheVariants as E
use Rattle.pool_syntax.specs.declared.tree.Stmt.{Stmt, Row_of-Stmt, end_of-Stmt, more_of-Stmt, items-the_row-Stmt, items_hidden-the_row-Stmt-0, Row_of-Alt, end_of-Alt, more_of-Alt, items-the_row-Alt, items_hidden-the_row-Alt-1, items_shown-the_row-Stmt-0}
use Rattle.pool_syntax.specs.declared.tree.Alt.{Alt}
use Rattle.pool_syntax.specs.declared.tree.Stmt.TheBlock.{hidden-the_row-Stmt-0, hidden-the_row-Alt-1}
use Rattle.pool_syntax.specs.declared.tree.Stmt.TheVariants as S
use Rattle.pool_syntax.specs.TreeOf.{expression_of, expression_row, expressions_of, statement_of, statement_row, statements_of, alternative_row}
use Rattle.stepper_terms.specs.Parts.{alternatives}
use Rattle.pool_syntax.specs.Terms as T

expression_row-items : (n : _) (r : Row_of-Expr n) → expression_row r ≡ expressions_of (items-the_row-Expr n r)
expression_row-items _ end_of-Expr = refl
expression_row-items _ (more_of-Expr e es) = ap (T.Arg (expression_of e)) (expression_row-items _ es)

row-arguments : (es : List Expr) → expression_row (hidden-the_row-Expr-0 es) ≡ expressions_of es
row-arguments es = expression_row-items _ (hidden-the_row-Expr-0 es) ∙ ap expressions_of (items_hidden-the_row-Expr-0 es)

pub call_is : (m : NameId) (es : List Expr) (p : ℕ) → expression_of (E.Call m es p) ≡ T.Call m.0 (expressions_of es) p
call_is m es p = ap (λ xs. T.Call m.0 xs p) (row-arguments es)

pub send_is : (q : Box Expr Global) (m : NameId) (es : List Expr) (p : ℕ) → expression_of (E.Send q m es p) ≡ T.Send (expression_of q.value) m.0 (expressions_of es) p
send_is q m es p = ap (λ xs. T.Send (expression_of q.value) m.0 xs p) (row-arguments es)

statement_row-items : (n : _) (r : Row_of-Stmt n) → statement_row r ≡ statements_of (items-the_row-Stmt n r)
statement_row-items _ end_of-Stmt = refl
statement_row-items _ (more_of-Stmt e es) = ap (T.Then (statement_of e)) (statement_row-items _ es)

row-statements : (ss : List Stmt) → statement_row (hidden-the_row-Stmt-0 ss) ≡ statements_of ss
row-statements ss = statement_row-items _ (hidden-the_row-Stmt-0 ss) ∙ ap statements_of (items_hidden-the_row-Stmt-0 ss)

alternative_row-items : (n : _) (r : Row_of-Alt n) → alternative_row r ≡ alternatives (items-the_row-Alt n r)
alternative_row-items _ end_of-Alt = refl
alternative_row-items _ (more_of-Alt e names shape ss alts) =
    ap₂ (T.Alt (expression_of e) names) (statement_row-items _ ss ∙ ap statements_of (sym (items_shown-the_row-Stmt-0 shape ss))) (alternative_row-items _ alts)

row-alternatives : (alts : List Alt) → alternative_row (hidden-the_row-Alt-1 alts) ≡ alternatives alts
row-alternatives alts = alternative_row-items _ (hidden-the_row-Alt-1 alts) ∙ ap alternatives (items_hidden-the_row-Alt-1 alts)

pub if_is : (e : Expr) (these those : List Stmt) → statement_of (S.If e these those) ≡ T.If (expression_of e) (statements_of these) (statements_of those)
if_is e these those = ap₂ (T.If (expression_of e)) (row-statements these) (row-statements those)

pub while_is : (e : Expr) (ss : List Stmt) → statement_of (S.While e ss) ≡ T.While (expression_of e) (statements_of ss)
while_is e ss = ap (T.While (expression_of e)) (row-statements ss)

pub select_is : (alts : List Alt) → statement_of (S.Select alts) ≡ T.Select (alternatives alts)
select_is alts = ap T.Select (row-alternatives alts)
