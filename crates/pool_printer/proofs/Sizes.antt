-- The size of the rest of a tree that is still to be printed.
use Rattle.std.proofs.Common.{◌≡◌, ap, ℕ, zero, suc, ◌+◌, ◌<◌, ◌≤◌, List, [], ◌∷◌, length, get_or, arith}
use Rattle.pool_syntax.specs.declared.tree.Expr.{Expr}
use Rattle.pool_syntax.specs.declared.tree.Stmt.{Stmt}
use Rattle.pool_syntax.specs.declared.tree.Alt.{Alt, out-Alt}
use Rattle.pool_syntax.specs.Terms.{Expression, Literal, Me, Variable, Create, Prefix, Infix, Call, Send, Frame, Wait, Expressions, NoArgs, Arg, Statement, Assign, Write, WriteText, Do, Async, If, While, Answer, Select, Serve, Statements, Done, Then, Alternatives, NoAlts, Alt as OneAlt}
use Rattle.pool_syntax.specs.TreeOf.{expression_of, expressions_of, statement_of, statements_of, alternatives_of}

abbrev mutual
  pub size : Expression → ℕ
  size (Literal v p) = 0
  size (Me p) = 0
  size (Variable x p) = 0
  size (Create c p) = 0
  size (Prefix o e p) = 1 + size e
  size (Infix o l r p) = 1 + (size l + size r)
  size (Call m es p) = 1 + size_all es
  size (Send e m es p) = 1 + (size e + size_all es)
  size (Frame m t ss e qs) = 0
  size (Wait b m) = 0

  pub size_all : Expressions → ℕ
  size_all NoArgs = 0
  size_all (Arg e es) = size e + size_all es

pub argument_size : (es : List Expr) (i : ℕ) (e : Expr) → i < length es → e ≡ get_or es i e → size (expression_of e) ≤ size_all (expressions_of es)
argument_size [] i e within at = absurd (omega arith)
argument_size (x ∷ xs) zero e within at = omega (arith, ap (λ y. size (expression_of y)) at)
argument_size (x ∷ xs) (suc i) e within at = omega (arith, argument_size xs i e (omega arith) at)

abbrev mutual
  pub length_of : Statement → ℕ
  length_of (Assign x p e) = 0
  length_of (Write e) = 0
  length_of (WriteText s) = 0
  length_of (Do e) = 0
  length_of (Async e m p es) = 0
  length_of (If e these those) = 1 + (length_of_all these + length_of_all those)
  length_of (While e ss) = 1 + length_of_all ss
  length_of (Answer ns) = 0
  length_of (Select alts) = 1 + length_of_alternatives alts
  length_of (Serve m k t ss e qs) = 0

  pub length_of_all : Statements → ℕ
  length_of_all Done = 0
  length_of_all (Then s ss) = length_of s + length_of_all ss

  pub length_of_alternatives : Alternatives → ℕ
  length_of_alternatives NoAlts = 0
  length_of_alternatives (OneAlt e ns ss alts) = 1 + (length_of_all ss + length_of_alternatives alts)

pub statement_length : (ss : List Stmt) (i : ℕ) (s : Stmt) → i < length ss → s ≡ get_or ss i s → length_of (statement_of s) ≤ length_of_all (statements_of ss)
statement_length [] i s within at = absurd (omega arith)
statement_length (x ∷ xs) zero s within at = omega (arith, ap (λ y. length_of (statement_of y)) at)
statement_length (x ∷ xs) (suc i) s within at = omega (arith, statement_length xs i s (omega arith) at)

pub alternative_length : (xs : List Alt) (i : ℕ) (a : Alt) → i < length xs → a ≡ get_or xs i a → length_of_all (statements_of (out-Alt a).work) < length_of_alternatives (alternatives_of xs)
alternative_length [] i a within at = absurd (omega arith)
alternative_length (x ∷ xs) zero a within at = omega (arith, ap (λ y. length_of_all (statements_of (out-Alt y).work)) at)
alternative_length (x ∷ xs) (suc i) a within at = omega (arith, alternative_length xs i a (omega arith) at)
