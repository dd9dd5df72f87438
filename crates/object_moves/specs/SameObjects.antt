-- Tests of equality for terms and objects. A table keeps what they tell, since its facts must be propositions.
use Rattle.std.specs.Prelude.{ℕ, ◌==◌, List, [], ◌∷◌, Option, Some, None, Bool, true, false, ◌&&◌}
use Rattle.run_types.specs.declared.types.Error.{Error}
use Rattle.run_types.specs.declared.types.Op.{Op}
use Rattle.run_types.specs.declared.types.Op.TheVariants as O
use Rattle.run_types.specs.Same.{error_number}
use Rattle.run_types.specs.Values.{is_same}
use Rattle.pool_syntax.specs.declared.tree.Named.{Named}
use Rattle.pool_syntax.specs.Terms as T
use Rattle.pool_syntax.specs.Terms.{Store, Expression, Expressions, Statement, Statements, Alternatives}
use Rattle.pool_relation.specs.Action.{Object}

abbrev pub op_number : Op → ℕ
op_number O.Add = 0
op_number O.Sub = 1
op_number O.Mul = 2
op_number O.Div = 3
op_number O.Rem = 4
op_number O.Neg = 5
op_number O.Less = 6
op_number O.LessEq = 7
op_number O.More = 8
op_number O.MoreEq = 9
op_number O.Same = 10
op_number O.Differs = 11
op_number O.And = 12
op_number O.Or = 13
op_number O.Not = 14

abbrev pub same_store : Store → Store → Bool
same_store [] [] = true
same_store (x ∷ xs) (y ∷ ys) = (x.0 == y.0) && (is_same x.1 y.1 && same_store xs ys)
same_store _ _ = false

abbrev pub same_names : List Named → List Named → Bool
same_names [] [] = true
same_names (x ∷ xs) (y ∷ ys) = (x.name.0 == y.name.0) && ((x.pos == y.pos) && same_names xs ys)
same_names _ _ = false

abbrev pub same_caller : Option ℕ → Option ℕ → Bool
same_caller None None = true
same_caller (Some a) (Some b) = a == b
same_caller _ _ = false

abbrev pub same_answer : Option (List Named) → Option (List Named) → Bool
same_answer None None = true
same_answer (Some xs) (Some ys) = same_names xs ys
same_answer _ _ = false

abbrev mutual
  pub same_expression : Expression → Expression → Bool
  same_expression (T.Literal x0 x1) (T.Literal y0 y1) = is_same x0 y0 && ((x1 == y1))
  same_expression (T.Me x0) (T.Me y0) = (x0 == y0)
  same_expression (T.Variable x0 x1) (T.Variable y0 y1) = (x0 == y0) && ((x1 == y1))
  same_expression (T.Create x0 x1) (T.Create y0 y1) = (x0 == y0) && ((x1 == y1))
  same_expression (T.Prefix x0 x1 x2) (T.Prefix y0 y1 y2) = (op_number x0 == op_number y0) && (same_expression x1 y1 && ((x2 == y2)))
  same_expression (T.Infix x0 x1 x2 x3) (T.Infix y0 y1 y2 y3) = (op_number x0 == op_number y0) && (same_expression x1 y1 && (same_expression x2 y2 && ((x3 == y3))))
  same_expression (T.Call x0 x1 x2) (T.Call y0 y1 y2) = (x0 == y0) && (same_expressions x1 y1 && ((x2 == y2)))
  same_expression (T.Send x0 x1 x2 x3) (T.Send y0 y1 y2 y3) = same_expression x0 y0 && ((x1 == y1) && (same_expressions x2 y2 && ((x3 == y3))))
  same_expression (T.Frame x0 x1 x2 x3 x4) (T.Frame y0 y1 y2 y3 y4) = (x0 == y0) && (same_store x1 y1 && (same_statements x2 y2 && (same_expression x3 y3 && (same_statements x4 y4))))
  same_expression (T.Wait x0 x1) (T.Wait y0 y1) = (x0 == y0) && ((x1 == y1))
  same_expression _ _ = false

  pub same_expressions : Expressions → Expressions → Bool
  same_expressions T.NoArgs T.NoArgs = true
  same_expressions (T.Arg x0 x1) (T.Arg y0 y1) = same_expression x0 y0 && (same_expressions x1 y1)
  same_expressions _ _ = false

  pub same_statement : Statement → Statement → Bool
  same_statement (T.Assign x0 x1 x2) (T.Assign y0 y1 y2) = (x0 == y0) && ((x1 == y1) && (same_expression x2 y2))
  same_statement (T.Write x0) (T.Write y0) = same_expression x0 y0
  same_statement (T.WriteText x0) (T.WriteText y0) = (x0 == y0)
  same_statement (T.Do x0) (T.Do y0) = same_expression x0 y0
  same_statement (T.Async x0 x1 x2 x3) (T.Async y0 y1 y2 y3) = same_expression x0 y0 && ((x1 == y1) && ((x2 == y2) && (same_expressions x3 y3)))
  same_statement (T.If x0 x1 x2) (T.If y0 y1 y2) = same_expression x0 y0 && (same_statements x1 y1 && (same_statements x2 y2))
  same_statement (T.While x0 x1) (T.While y0 y1) = same_expression x0 y0 && (same_statements x1 y1)
  same_statement (T.Answer x0) (T.Answer y0) = same_names x0 y0
  same_statement (T.Select x0) (T.Select y0) = same_alternatives x0 y0
  same_statement (T.Serve x0 x1 x2 x3 x4 x5) (T.Serve y0 y1 y2 y3 y4 y5) = (x0 == y0) && (same_caller x1 y1 && (same_store x2 y2 && (same_statements x3 y3 && (same_expression x4 y4 && (same_statements x5 y5)))))
  same_statement _ _ = false

  pub same_statements : Statements → Statements → Bool
  same_statements T.Done T.Done = true
  same_statements (T.Then x0 x1) (T.Then y0 y1) = same_statement x0 y0 && (same_statements x1 y1)
  same_statements _ _ = false

  pub same_alternatives : Alternatives → Alternatives → Bool
  same_alternatives T.NoAlts T.NoAlts = true
  same_alternatives (T.Alt x0 x1 x2 x3) (T.Alt y0 y1 y2 y3) = same_expression x0 y0 && (same_answer x1 y1 && (same_statements x2 y2 && (same_alternatives x3 y3)))
  same_alternatives _ _ = false

abbrev pub same_fault : Option Error → Option Error → Bool
same_fault None None = true
same_fault (Some e) (Some f) = error_number e == error_number f
same_fault _ _ = false

abbrev pub same_object : Object → Object → Bool
same_object x y = (x.class == y.class) && (same_store x.vars y.vars && (same_statements x.term y.term && same_fault x.fault y.fault))

-- the same of two optional objects
abbrev pub same_one : Option Object → Option Object → Bool
same_one None None = true
same_one (Some x) (Some y) = same_object x y
same_one _ _ = false
