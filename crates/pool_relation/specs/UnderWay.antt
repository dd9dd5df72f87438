-- The methods under way in a term, in the order in which the search for the redex meets them.
use Rattle.std.specs.Prelude.{ℕ, List, [], ◌∷◌, ◌++◌, length, Option, Some, None, ◌==◌, if◌then◌else◌}
use Rattle.pool_syntax.specs.Terms.{Expression, Literal, Me, Variable, Create, Prefix, Infix, Call, Send, Frame, Wait, Expressions, NoArgs, Arg, Statement, Assign, Write, WriteText, Do, Async, If}
use Rattle.pool_syntax.specs.Terms.{While, Answer, Select, Serve, Statements, Done, Then, Alternatives, NoAlts, Alt}

-- a method under way
pub data Activity : Type 0 where
  Own : (method : ℕ) → Activity
  -- a method served for a caller, or for no one
  Serving : (method : ℕ) (caller : Option ℕ) → Activity

-- the methods under way in each kind of part; only parts in which the redex is sought are listed
abbrev mutual
  pub in_expression : Expression → List Activity
  in_expression (Literal v p) = []
  in_expression (Me p) = []
  in_expression (Variable x p) = []
  in_expression (Create c p) = []
  in_expression (Prefix op e p) = in_expression e
  in_expression (Infix op l r p) = in_expression l ++ in_expression r
  in_expression (Call m es p) = in_expressions es
  in_expression (Send e m es p) = in_expression e ++ in_expressions es
  in_expression (Frame m t ss e qs) = Own m ∷ (in_statements ss ++ (in_expression e ++ in_statements qs))
  in_expression (Wait b m) = []

  pub in_expressions : Expressions → List Activity
  in_expressions NoArgs = []
  in_expressions (Arg e es) = in_expression e ++ in_expressions es

  pub in_statement : Statement → List Activity
  in_statement (Assign x p e) = in_expression e
  in_statement (Write e) = in_expression e
  in_statement (WriteText s) = []
  in_statement (Do e) = in_expression e
  in_statement (Async e m p es) = in_expression e ++ in_expressions es
  in_statement (If e these those) = in_expression e
  in_statement (While e ss) = []
  in_statement (Answer names) = []
  in_statement (Select alts) = in_guards alts
  in_statement (Serve m k t ss e qs) = Serving m k ∷ (in_statements ss ++ (in_expression e ++ in_statements qs))

  pub in_statements : Statements → List Activity
  in_statements Done = []
  in_statements (Then s ss) = in_statement s ++ in_statements ss

  pub in_guards : Alternatives → List Activity
  in_guards NoAlts = []
  in_guards (Alt e names ss alts) = in_expression e ++ in_guards alts

-- the methods among these that serve the caller o
abbrev pub served_for : ℕ → List Activity → List ℕ
served_for o [] = []
served_for o (Own m ∷ rest) = served_for o rest
served_for o (Serving m None ∷ rest) = served_for o rest
served_for o (Serving m (Some k) ∷ rest) = if k == o then m ∷ served_for o rest else served_for o rest

-- the methods that a term serves for the caller o
abbrev pub serves : ℕ → Statements → List ℕ
serves o ss = served_for o (in_statements ss)

-- the number of methods under way
abbrev pub frames_of : Statements → ℕ
frames_of ss = length (in_statements ss)
