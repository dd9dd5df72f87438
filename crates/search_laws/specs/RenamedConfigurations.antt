-- A configuration with other names of objects: the same values, terms, objects and messages under a renaming.
use Rattle.std.specs.Prelude.{◌≡◌, ℕ, [], ◌∷◌, Option, Some, None, option_map, map}
use Rattle.pool_syntax.specs.Terms.{Store, Expression, Literal, Me, Variable, Create, Prefix, Infix, Call, Send, Frame, Wait, Expressions, NoArgs, Arg, Statement, Assign, Write, WriteText, Do, Async}
use Rattle.pool_syntax.specs.Terms.{If, While, Answer, Select, Serve, Statements, Done, Then, Alternatives, NoAlts, Alt}
use Rattle.run_types.specs.Message.{Message}
use Rattle.pool_relation.specs.Action.{Object}
use Rattle.pool_relation.specs.Configuration.{Configuration, object_of, messages_of}
use Rattle.reachability.specs.Renaming.{renamed_value}

abbrev pub renamed_store : (ℕ → ℕ) → Store → Store
renamed_store f [] = []
renamed_store f (b ∷ bs) = (b.0, renamed_value f b.1) ∷ renamed_store f bs

abbrev pub renamed_name : (ℕ → ℕ) → Option ℕ → Option ℕ
renamed_name f None = None
renamed_name f (Some k) = Some (f k)

-- each kind of term, with each name mapped
abbrev mutual
  pub renamed_expression : (ℕ → ℕ) → Expression → Expression
  renamed_expression f (Literal v p) = Literal (renamed_value f v) p
  renamed_expression f (Me p) = Me p
  renamed_expression f (Variable x p) = Variable x p
  renamed_expression f (Create c p) = Create c p
  renamed_expression f (Prefix op e p) = Prefix op (renamed_expression f e) p
  renamed_expression f (Infix op l r p) = Infix op (renamed_expression f l) (renamed_expression f r) p
  renamed_expression f (Call m es p) = Call m (renamed_expressions f es) p
  renamed_expression f (Send e m es p) = Send (renamed_expression f e) m (renamed_expressions f es) p
  renamed_expression f (Frame m t ss e qs) = Frame m (renamed_store f t) (renamed_statements f ss) (renamed_expression f e) (renamed_statements f qs)
  renamed_expression f (Wait b m) = Wait (f b) m

  pub renamed_expressions : (ℕ → ℕ) → Expressions → Expressions
  renamed_expressions f NoArgs = NoArgs
  renamed_expressions f (Arg e es) = Arg (renamed_expression f e) (renamed_expressions f es)

  pub renamed_statement : (ℕ → ℕ) → Statement → Statement
  renamed_statement f (Assign x p e) = Assign x p (renamed_expression f e)
  renamed_statement f (Write e) = Write (renamed_expression f e)
  renamed_statement f (WriteText s) = WriteText s
  renamed_statement f (Do e) = Do (renamed_expression f e)
  renamed_statement f (Async e m p es) = Async (renamed_expression f e) m p (renamed_expressions f es)
  renamed_statement f (If e these those) = If (renamed_expression f e) (renamed_statements f these) (renamed_statements f those)
  renamed_statement f (While e ss) = While (renamed_expression f e) (renamed_statements f ss)
  renamed_statement f (Answer names) = Answer names
  renamed_statement f (Select alts) = Select (renamed_alternatives f alts)
  renamed_statement f (Serve m k t ss e qs) = Serve m (renamed_name f k) (renamed_store f t) (renamed_statements f ss) (renamed_expression f e) (renamed_statements f qs)

  pub renamed_statements : (ℕ → ℕ) → Statements → Statements
  renamed_statements f Done = Done
  renamed_statements f (Then s ss) = Then (renamed_statement f s) (renamed_statements f ss)

  pub renamed_alternatives : (ℕ → ℕ) → Alternatives → Alternatives
  renamed_alternatives f NoAlts = NoAlts
  renamed_alternatives f (Alt e names ss alts) = Alt (renamed_expression f e) names (renamed_statements f ss) (renamed_alternatives f alts)

abbrev pub renamed_object : (ℕ → ℕ) → Object → Object
renamed_object f x = record { class = x.class; vars = renamed_store f x.vars; term = renamed_statements f x.term; fault = x.fault }

abbrev pub renamed_message : (ℕ → ℕ) → Message → Message
renamed_message f m = record { method = m.method; args = map (renamed_value f) m.args }

-- d is c with each name mapped
pub record IsRenamed (f : ℕ → ℕ) (c d : Configuration) : Type 0 where
  pub objects : (o : ℕ) → object_of d (f o) ≡ option_map (renamed_object f) (object_of c o)
  pub messages : (s r : ℕ) → messages_of d (f s) (f r) ≡ map (renamed_message f) (messages_of c s r)
