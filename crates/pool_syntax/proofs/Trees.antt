-- The lists inside the trees of the code represent the lists inside the trees of `Terms`.
use Rattle.std.proofs.Common.{◌≡◌, List, refl, sym, ap, ap₂, ◌∙◌, ℕ}
use Rattle.run_types.specs.declared.types.NameId.{NameId}
use Rattle.pool_syntax.specs.declared.tree.Expr.{Expr, Row_of-Expr, end_of-Expr, more_of-Expr, items-the_row-Expr, items_hidden-the_row-Expr-0}
use Rattle.pool_syntax.specs.declared.tree.Expr.TheBlock.{hidden-the_row-Expr-0}
use Rattle.pool_syntax.specs.declared.tree.Expr.TheVariants as made
use Rattle.pool_syntax.specs.declared.tree.Stmt.{Stmt, Row_of-Stmt, end_of-Stmt, more_of-Stmt, items-the_row-Stmt, items_hidden-the_row-Stmt-0, items_shown-the_row-Stmt-0, Row_of-Alt, end_of-Alt, more_of-Alt, items-the_row-Alt, items_hidden-the_row-Alt-1}
use Rattle.pool_syntax.specs.declared.tree.Stmt.TheBlock.{hidden-the_row-Stmt-0, hidden-the_row-Alt-1}
use Rattle.pool_syntax.specs.declared.tree.Stmt.TheVariants as built
use Rattle.pool_syntax.specs.declared.tree.Alt.{Alt}
use Rattle.pool_syntax.specs.Terms.{Call, Send, Arg, If, While, Select, Then, Alt as OneAlt}
use Rattle.pool_syntax.specs.TreeOf.{expression_of, expression_row, expressions_of, statement_of, statement_row, statements_of, alternative_row, alternatives_of}

expression_row-items : (n : _) (r : Row_of-Expr n) → expression_row r ≡ expressions_of (items-the_row-Expr n r)
expression_row-items _ end_of-Expr = refl
expression_row-items _ (more_of-Expr e es) = ap (Arg (expression_of e)) (expression_row-items _ es)

pub expression_row-all : (es : List Expr) → expression_row (hidden-the_row-Expr-0 es) ≡ expressions_of es
expression_row-all es = expression_row-items _ (hidden-the_row-Expr-0 es) ∙ ap expressions_of (items_hidden-the_row-Expr-0 es)

pub call_tree : (m : NameId) (es : List Expr) (pos : ℕ) → expression_of (made.Call m es pos) ≡ Call m.0 (expressions_of es) pos
call_tree m es pos = ap (λ xs. Call m.0 xs pos) (expression_row-all es)

pub send_tree : (to : _) (m : NameId) (es : List Expr) (pos : ℕ) → expression_of (made.Send to m es pos) ≡ Send (expression_of to.value) m.0 (expressions_of es) pos
send_tree to m es pos = ap (λ xs. Send (expression_of to.value) m.0 xs pos) (expression_row-all es)

statement_row-items : (n : _) (r : Row_of-Stmt n) → statement_row r ≡ statements_of (items-the_row-Stmt n r)
statement_row-items _ end_of-Stmt = refl
statement_row-items _ (more_of-Stmt s ss) = ap (Then (statement_of s)) (statement_row-items _ ss)

pub statement_row-all : (ss : List Stmt) → statement_row (hidden-the_row-Stmt-0 ss) ≡ statements_of ss
statement_row-all ss = statement_row-items _ (hidden-the_row-Stmt-0 ss) ∙ ap statements_of (items_hidden-the_row-Stmt-0 ss)

pub if_tree : (e : Expr) (these those : List Stmt) → statement_of (built.If e these those) ≡ If (expression_of e) (statements_of these) (statements_of those)
if_tree e these those = ap₂ (If (expression_of e)) (statement_row-all these) (statement_row-all those)

pub while_tree : (e : Expr) (ss : List Stmt) → statement_of (built.While e ss) ≡ While (expression_of e) (statements_of ss)
while_tree e ss = ap (While (expression_of e)) (statement_row-all ss)

alternative_row-items : (n : _) (r : Row_of-Alt n) → alternative_row r ≡ alternatives_of (items-the_row-Alt n r)
alternative_row-items _ end_of-Alt = refl
alternative_row-items _ (more_of-Alt e names shape ss rest) =
    ap₂ (OneAlt (expression_of e) names) (statement_row-items _ ss ∙ sym (ap statements_of (items_shown-the_row-Stmt-0 shape ss))) (alternative_row-items _ rest)

pub select_tree : (alts : List Alt) → statement_of (built.Select alts) ≡ Select (alternatives_of alts)
select_tree alts = ap Select (alternative_row-items _ (hidden-the_row-Alt-1 alts) ∙ ap alternatives_of (items_hidden-the_row-Alt-1 alts))
