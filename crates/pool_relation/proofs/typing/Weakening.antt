-- A part stays typed if more may be under way in it. Typed parts stay typed after parts without a redex.
use Rattle.std.proofs.Common.{◌≡◌, IsTrue, ℕ, ◌+◌, List, [], ◌∷◌, is_none, Bool, true, false, arith}
use Rattle.pool_syntax.specs.declared.tree.Var.{Var}
use Rattle.pool_syntax.specs.Terms.{Expression, Literal, Me, Variable, Create, Prefix, Infix, Call, Send, Frame, Wait, Expressions, NoArgs, Arg, Statement, Assign, Write, WriteText, Do, Async, If, While, Answer, Select, Serve, Statements, Done, Then, Alternatives, NoAlts, Alt, append}
use Rattle.pool_syntax.specs.Typing.{Scope, sort_of, inside, behind_value, own_method, params_of, sent_method}
use Rattle.pool_relation.specs.Reducible.{is_value, is_done}
use Rattle.pool_relation.proofs.typing.TypedTerm.{Holds, Nothing, has_methods, has_waits, past, TypedExpression, TypedArguments, TypedStatement, TypedStatements, TypedAlternatives}

-- what may be under way under the first may be under way under the second
pub record Below (j k : Holds) : Type 0 where
  pub methods : IsTrue (has_methods j) → IsTrue (has_methods k)
  pub waits : IsTrue (has_waits j) → IsTrue (has_waits k)

pub nothing_below : (k : Holds) → Below Nothing k
nothing_below k = record { methods = λ h. absurd (grind (arith, h)); waits = λ h. absurd (grind (arith, h)) }

past_below : (b : Bool) (j k : Holds) → Below j k → Below (past b j) (past b k)
past_below true j k w = w
past_below false j k w = nothing_below Nothing

pub past_below_all : (b : Bool) (k : Holds) → Below (past b k) k
past_below_all true k = record { methods = λ h. h; waits = λ h. h }
past_below_all false k = nothing_below k

pub below_twice : (a b : Bool) (k : Holds) → Below (past a (past b k)) k
below_twice true b k = past_below_all b k
below_twice false b k = nothing_below k

pub below_thrice : (a b c : Bool) (k : Holds) → Below (past a (past b (past c k))) k
below_thrice true b c k = below_twice b c k
below_thrice false b c k = nothing_below k

mutual
  pub expression_weaker : (j k : Holds) (g : Scope) (h : ℕ) (e : Expression) → Below j k → TypedExpression j g h e
      → TypedExpression k g h e
  expression_weaker j k g h (Literal v p) w t = t
  expression_weaker j k g h (Me p) w t = t
  expression_weaker j k g h (Variable x p) w t = t
  expression_weaker j k g h (Create c p) w t = t
  expression_weaker j k g h (Prefix op e p) w t = (t.0, t.1, expression_weaker j k g h e w t.2, t.3)
  expression_weaker j k g h (Infix op l r p) w t = (
    t.0,
    t.1,
    expression_weaker j k g h l w t.2,
    expression_weaker (past (is_value l) j) (past (is_value l) k) g (h + 1) r (past_below (is_value l) j k w) t.3,
    t.4,
  )
  expression_weaker j k g h (Call m es p) w t = (t.0, t.1, arguments_weaker j k g h (params_of (own_method g m)) es w t.2)
  expression_weaker j k g h (Send e m es p) w t = (
    t.0,
    expression_weaker j k g h e w t.1,
    t.2,
    arguments_weaker (past (is_value e) j) (past (is_value e) k) g (h + 1) (params_of (sent_method g (sort_of g e) m)) es (past_below (is_value e) j k w) t.3,
  )
  expression_weaker j k g h (Frame m u ss e qs) w t = (
    w.methods t.0,
    t.1,
    t.2,
    statements_weaker j k (inside g m) ss w t.3,
    expression_weaker (past (is_done ss) j) (past (is_done ss) k) (inside g m) 0 e (past_below (is_done ss) j k w) t.4,
    t.5,
    t.6,
    statements_weaker (past (is_done ss) (past (is_value e) j)) (past (is_done ss) (past (is_value e) k)) (behind_value (inside g m)) qs
        (past_below (is_done ss) (past (is_value e) j) (past (is_value e) k) (past_below (is_value e) j k w)) t.7,
  )
  expression_weaker j k g h (Wait b m) w t = (w.waits t.0, t.1, t.2)

  pub arguments_weaker : (j k : Holds) (g : Scope) (h : ℕ) (vs : List Var) (es : Expressions) → Below j k
      → TypedArguments j g h vs es → TypedArguments k g h vs es
  arguments_weaker j k g h vs NoArgs w t = tt
  arguments_weaker j k g h [] (Arg e es) w t = (
    expression_weaker j k g h e w t.0,
    t.1,
    arguments_weaker (past (is_value e) j) (past (is_value e) k) g (h + 1) [] es (past_below (is_value e) j k w) t.2,
  )
  arguments_weaker j k g h (v ∷ vs) (Arg e es) w t = (
    expression_weaker j k g h e w t.0,
    t.1,
    arguments_weaker (past (is_value e) j) (past (is_value e) k) g (h + 1) vs es (past_below (is_value e) j k w) t.2,
  )

  pub statement_weaker : (j k : Holds) (g : Scope) (s : Statement) → Below j k → TypedStatement j g s → TypedStatement k g s
  statement_weaker j k g (Assign x p e) w t = (t.0, expression_weaker j k g g.held e w t.1, t.2)
  statement_weaker j k g (Write e) w t = (expression_weaker j k g g.held e w t.0, t.1)
  statement_weaker j k g (WriteText s) w t = tt
  statement_weaker j k g (Do e) w t = expression_weaker j k g g.held e w t
  statement_weaker j k g (Async e m p es) w t = (
    expression_weaker j k g g.held e w t.0,
    t.1,
    arguments_weaker (past (is_value e) j) (past (is_value e) k) g (g.held + 1) (params_of (sent_method g (sort_of g e) m)) es (past_below (is_value e) j k w) t.2,
  )
  statement_weaker j k g (If e these those) w t = (expression_weaker j k g g.held e w t.0, t.1, t.2, t.3)
  statement_weaker j k g (While e ss) w t = t
  statement_weaker j k g (Answer names) w t = t
  statement_weaker j k g (Select alts) w t = alternatives_weaker j k g g.held alts w t
  statement_weaker j k g (Serve m o u ss e qs) w t = (
    w.methods t.0,
    t.1,
    statements_weaker j k (inside g m) ss w t.2,
    expression_weaker (past (is_done ss) j) (past (is_done ss) k) (inside g m) 0 e (past_below (is_done ss) j k w) t.3,
    t.4,
    t.5,
    statements_weaker (past (is_done ss) (past (is_value e) (past (is_none o) j))) (past (is_done ss) (past (is_value e) (past (is_none o) k))) (behind_value (inside g m)) qs
        (past_below (is_done ss) (past (is_value e) (past (is_none o) j)) (past (is_value e) (past (is_none o) k))
        (past_below (is_value e) (past (is_none o) j) (past (is_none o) k) (past_below (is_none o) j k w))) t.6,
  )

  pub statements_weaker : (j k : Holds) (g : Scope) (ss : Statements) → Below j k → TypedStatements j g ss → TypedStatements k g ss
  statements_weaker j k g Done w t = tt
  statements_weaker j k g (Then s ss) w t = (statement_weaker j k g s w t.0, t.1)

  pub alternatives_weaker : (j k : Holds) (g : Scope) (i : ℕ) (alts : Alternatives) → Below j k → TypedAlternatives j g i alts
      → TypedAlternatives k g i alts
  alternatives_weaker j k g i NoAlts w t = tt
  alternatives_weaker j k g i (Alt e names ss alts) w t = (
    expression_weaker j k g i e w t.0,
    t.1,
    t.2,
    t.3,
    alternatives_weaker (past (is_value e) j) (past (is_value e) k) g (i + 1) alts (past_below (is_value e) j k w) t.4,
  )

-- a value is typed whatever may be under way
pub value_weaker : (j k : Holds) (g : Scope) (h : ℕ) (e : Expression) → is_value e ≡ true → TypedExpression j g h e
    → TypedExpression k g h e
value_weaker j k g h (Literal v p) i t = t
value_weaker j k g h _ i t = absurd (grind (arith, i))

-- a list, then one in which nothing is under way
pub append_typed : (k : Holds) (g : Scope) (ss rest : Statements) → TypedStatements k g ss → TypedStatements Nothing g rest
    → TypedStatements k g (append ss rest)
append_typed k g Done rest t u = statements_weaker Nothing k g rest (nothing_below k) u
append_typed k g (Then s ss) rest t u = (t.0, append_typed Nothing g ss rest t.1 u)
