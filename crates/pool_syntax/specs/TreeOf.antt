-- The trees of `Terms` that the syntax trees of the code represent.
use Rattle.std.specs.Prelude.{List, [], ◌∷◌, map}
use Rattle.run_types.specs.declared.types.Value.TheVariants as V
use Rattle.pool_syntax.specs.declared.tree.Expr.{Expr, Int, Bool, Nil, Me, Var, New, Unary', Binary', Call', Send', Row_of-Expr, end_of-Expr, more_of-Expr}
use Rattle.pool_syntax.specs.declared.tree.Stmt as S
use Rattle.pool_syntax.specs.declared.tree.Stmt.{Stmt, Row_of-Stmt, Row_of-Alt, end_of-Stmt, more_of-Stmt, end_of-Alt, more_of-Alt}
use Rattle.pool_syntax.specs.declared.tree.Alt.{Alt as OneAlt}
use Rattle.pool_syntax.specs.declared.tree.Method.{Method}
use Rattle.pool_syntax.specs.declared.tree.ClassDecl.{ClassDecl}
use Rattle.pool_syntax.specs.declared.tree.Program.{Program}
use Rattle.pool_syntax.specs.Terms.{Expression, Literal, Me as MySelf, Variable, Create, Prefix, Infix, Call, Send, Expressions, NoArgs, Arg, Statement, Assign, Write, WriteText, Do, Async, If, While}
use Rattle.pool_syntax.specs.Terms.{Answer, Select, Statements, Done, Then, Alternatives, NoAlts, Alt, MethodTree, ClassTree, ProgramTree}

-- an expression, and a list of them inside one
abbrev mutual
  pub expression_of : Expr → Expression
  expression_of (Int v p) = Literal (V.Int v) p
  expression_of (Bool b p) = Literal (V.Bool b) p
  expression_of (Nil p) = Literal V.Nil p
  expression_of (Me p) = MySelf p
  expression_of (Var n p) = Variable n.0 p
  expression_of (New c p) = Create c.0 p
  expression_of (Unary' op q e p) = Prefix op (expression_of e) p
  expression_of (Binary' op q l r s p) = Infix op (expression_of l) (expression_of s) p
  expression_of (Call' m shape es p) = Call m.0 (expression_row es) p
  expression_of (Send' q e m shape es p) = Send (expression_of e) m.0 (expression_row es) p

  pub expression_row : {n : _} → Row_of-Expr n → Expressions
  expression_row end_of-Expr = NoArgs
  expression_row (more_of-Expr e es) = Arg (expression_of e) (expression_row es)

-- a list of expressions
abbrev pub expressions_of : List Expr → Expressions
expressions_of [] = NoArgs
expressions_of (e ∷ es) = Arg (expression_of e) (expressions_of es)

-- a statement, and the lists inside one
abbrev mutual
  pub statement_of : Stmt → Statement
  statement_of (S.Assign n e) = Assign n.name.0 n.pos (expression_of e)
  statement_of (S.Write e) = Write (expression_of e)
  statement_of (S.WriteText s) = WriteText s.0
  statement_of (S.Do e) = Do (expression_of e)
  statement_of (S.Async e m es) = Async (expression_of e) m.name.0 m.pos (expressions_of es)
  statement_of (S.If' e a these b those) = If (expression_of e) (statement_row these) (statement_row those)
  statement_of (S.While' e shape ss) = While (expression_of e) (statement_row ss)
  statement_of (S.Answer names) = Answer names
  statement_of (S.Select' shape alts) = Select (alternative_row alts)

  pub statement_row : {n : _} → Row_of-Stmt n → Statements
  statement_row end_of-Stmt = Done
  statement_row (more_of-Stmt s ss) = Then (statement_of s) (statement_row ss)

  pub alternative_row : {n : _} → Row_of-Alt n → Alternatives
  alternative_row end_of-Alt = NoAlts
  alternative_row (more_of-Alt e names shape ss alts) = Alt (expression_of e) names (statement_row ss) (alternative_row alts)

-- a list of statements
abbrev pub statements_of : List Stmt → Statements
statements_of [] = Done
statements_of (s ∷ ss) = Then (statement_of s) (statements_of ss)

-- a list of alternatives
abbrev pub alternatives_of : List OneAlt → Alternatives
alternatives_of [] = NoAlts
alternatives_of (a ∷ alts) = Alt (expression_of a.guard) a.answer (statements_of a.work) (alternatives_of alts)

-- the tree of a method
abbrev pub method_tree : Method → MethodTree
method_tree m = record {
  name = m.name;
  params = m.params;
  locals = m.locals;
  outcome = m.result;
  outcome_pos = m.result_pos;
  body = statements_of m.body;
  value = expression_of m.value;
  post = statements_of m.post;
}

-- the tree of a class
abbrev pub class_tree : ClassDecl → ClassTree
class_tree c = record { name = c.name; vars = c.vars; methods = map method_tree c.methods; body = statements_of c.body }

-- the tree of a program
abbrev pub program_of : Program → ProgramTree
program_of p = map class_tree p.classes
