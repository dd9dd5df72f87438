-- A program without its positions, and with other numbers for its names and strings.
use Rattle.std.specs.Prelude.{ℕ, List, [], ◌∷◌, map, Option, Some, None}
use Rattle.run_types.specs.declared.types.Kind.{Kind}
use Rattle.run_types.specs.declared.types.Kind.TheVariants as kind
use Rattle.pool_syntax.specs.declared.tree.Named.{Named}
use Rattle.pool_syntax.specs.declared.tree.Var.{Var}
use Rattle.pool_syntax.specs.Terms.{Store, Expression, Literal, Me, Variable, Create, Prefix, Infix, Call, Send, Frame, Wait, Expressions, NoArgs, Arg, Statement, Assign, Write, WriteText, Do, Async}
use Rattle.pool_syntax.specs.Terms.{If, While, Answer, Select, Serve, Statements, Done, Then, Alternatives, NoAlts, Alt, MethodTree, ClassTree, ProgramTree}
use Rattle.pool_printer.specs.Renumbered.{number_by}

-- a name without its position
abbrev pub renamed_name : (ℕ → ℕ) → Named → Named
renamed_name f n = record { name = number_by f n.name; pos = 0 }

-- the type of a variable or a result
abbrev pub renamed_kind : (ℕ → ℕ) → Kind → Kind
renamed_kind f kind.Int = kind.Int
renamed_kind f kind.Bool = kind.Bool
renamed_kind f (kind.Class c) = kind.Class (number_by f c)

-- a variable with its type
abbrev pub renamed_variable : (ℕ → ℕ) → Var → Var
renamed_variable f v = record { name = number_by f v.name; kind = renamed_kind f v.kind; pos = 0; kind_pos = 0 }

-- the names of an alternative's answer list, if it has one
abbrev pub renamed_answer : (ℕ → ℕ) → Option (List Named) → Option (List Named)
renamed_answer f None = None
renamed_answer f (Some ns) = Some (map (renamed_name f) ns)

-- variables with their values, which a program text does not have
abbrev pub renamed_store : (ℕ → ℕ) → Store → Store
renamed_store f [] = []
renamed_store f (v ∷ vs) = (f v.0, v.1) ∷ renamed_store f vs

abbrev mutual
  -- an expression
  pub renamed_expression : (ℕ → ℕ) → Expression → Expression
  renamed_expression f (Literal v p) = Literal v 0
  renamed_expression f (Me p) = Me 0
  renamed_expression f (Variable x p) = Variable (f x) 0
  renamed_expression f (Create c p) = Create (f c) 0
  renamed_expression f (Prefix o e p) = Prefix o (renamed_expression f e) 0
  renamed_expression f (Infix o l r p) = Infix o (renamed_expression f l) (renamed_expression f r) 0
  renamed_expression f (Call m es p) = Call (f m) (renamed_expressions f es) 0
  renamed_expression f (Send e m es p) = Send (renamed_expression f e) (f m) (renamed_expressions f es) 0
  renamed_expression f (Frame m t ss e qs) =
      Frame (f m) (renamed_store f t) (renamed_statements f ss) (renamed_expression f e) (renamed_statements f qs)
  renamed_expression f (Wait b m) = Wait b (f m)

  -- the arguments of a call
  pub renamed_expressions : (ℕ → ℕ) → Expressions → Expressions
  renamed_expressions f NoArgs = NoArgs
  renamed_expressions f (Arg e es) = Arg (renamed_expression f e) (renamed_expressions f es)

  -- a statement
  pub renamed_statement : (ℕ → ℕ) → Statement → Statement
  renamed_statement f (Assign x p e) = Assign (f x) 0 (renamed_expression f e)
  renamed_statement f (Write e) = Write (renamed_expression f e)
  renamed_statement f (WriteText s) = WriteText (f s)
  renamed_statement f (Do e) = Do (renamed_expression f e)
  renamed_statement f (Async e m p es) = Async (renamed_expression f e) (f m) 0 (renamed_expressions f es)
  renamed_statement f (If e these those) = If (renamed_expression f e) (renamed_statements f these) (renamed_statements f those)
  renamed_statement f (While e ss) = While (renamed_expression f e) (renamed_statements f ss)
  renamed_statement f (Answer ns) = Answer (map (renamed_name f) ns)
  renamed_statement f (Select alts) = Select (renamed_alternatives f alts)
  renamed_statement f (Serve m k t ss e qs) =
      Serve (f m) k (renamed_store f t) (renamed_statements f ss) (renamed_expression f e) (renamed_statements f qs)

  -- a list of statements
  pub renamed_statements : (ℕ → ℕ) → Statements → Statements
  renamed_statements f Done = Done
  renamed_statements f (Then s ss) = Then (renamed_statement f s) (renamed_statements f ss)

  -- the alternatives of a select
  pub renamed_alternatives : (ℕ → ℕ) → Alternatives → Alternatives
  renamed_alternatives f NoAlts = NoAlts
  renamed_alternatives f (Alt e ns ss alts) =
      Alt (renamed_expression f e) (renamed_answer f ns) (renamed_statements f ss) (renamed_alternatives f alts)

-- the type of a method's result, if it has one
abbrev pub renamed_outcome : (ℕ → ℕ) → Option Kind → Option Kind
renamed_outcome f None = None
renamed_outcome f (Some k) = Some (renamed_kind f k)

-- a method
abbrev pub renamed_method : (ℕ → ℕ) → MethodTree → MethodTree
renamed_method f m = record {
  name = renamed_name f m.name;
  params = map (renamed_variable f) m.params;
  locals = map (renamed_variable f) m.locals;
  outcome = renamed_outcome f m.outcome;
  outcome_pos = 0;
  body = renamed_statements f m.body;
  value = renamed_expression f m.value;
  post = renamed_statements f m.post;
}

-- a class
abbrev pub renamed_class : (ℕ → ℕ) → ClassTree → ClassTree
renamed_class f c = record {
  name = renamed_name f c.name;
  vars = map (renamed_variable f) c.vars;
  methods = map (renamed_method f) c.methods;
  body = renamed_statements f c.body;
}

-- the program with every position 0, and with f n instead of every number n of a name or a string; p and q are equal
-- up to positions and the numbering f, if renamed f p ≡ renamed (λ n. n) q
abbrev pub renamed : (ℕ → ℕ) → ProgramTree → ProgramTree
renamed f p = map (renamed_class f) p
