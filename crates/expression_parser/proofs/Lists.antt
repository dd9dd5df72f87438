-- Lists of expressions of the code and the trees that they represent.
use Rattle.std.proofs.Common.{◌≡◌, List, [], ◌∷◌, ◌++◌, refl, ap, ap₂, ℕ}
use Rattle.run_types.specs.declared.types.NameId.{NameId}
use Rattle.pool_syntax.specs.declared.tree.Expr.{Expr}
use Rattle.pool_syntax.specs.declared.tree.Expr.TheBlock.{hidden-the_row-Expr-0}
use Rattle.pool_syntax.specs.Terms.{Expression, Expressions, Send, Arg}
use Rattle.pool_grammar.specs.Grammar.{arg_last}
use Rattle.pool_syntax.specs.TreeOf.{expression_of, expression_row, expressions_of}
use Rattle.pool_syntax.proofs.Laws.{expression_row-all}

pub expressions-last : (es : List Expr) (e : Expr) → expressions_of (es ++ e ∷ []) ≡ arg_last (expressions_of es) (expression_of e)
expressions-last [] e = refl
expressions-last (x ∷ es) e = ap (Arg (expression_of x)) (expressions-last es e)

pub send-tree : (q e : Expression) (m : NameId) (es : List Expr) (pos : ℕ) → q ≡ e → Send q m.0 (expression_row (hidden-the_row-Expr-0 es)) pos ≡ Send e m.0 (expressions_of es) pos
send-tree q e m es pos h = ap₂ (λ (a : Expression) (xs : Expressions). Send a m.0 xs pos) h (expression_row-all es)
