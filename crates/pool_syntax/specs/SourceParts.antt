-- Parts of a program as written: no method is being executed in them, and each operator has its number of operands.
use Rattle.std.specs.Prelude.{Option, Some, None, Bool, true, false, not, ◌&&◌}
use Rattle.run_types.specs.declared.types.Value.TheVariants as V
use Rattle.run_types.specs.declared.types.Kind.{Kind}
use Rattle.pool_syntax.specs.Terms.{Expression, Literal, Me, Variable, Create, Prefix, Infix, Call, Send, Frame, Wait, Expressions, NoArgs, Arg, Statement, Assign, Write, WriteText, Do, Async, If, While, Answer, Select, Serve, Statements, Done, Then, Alternatives, NoAlts, Alt}
pub use Rattle.run_types.specs.Values.{is_prefix}

-- whether a part of a term may be part of a program text
abbrev mutual
  pub is_source : Expression → Bool
  is_source (Literal v p) = true
  is_source (Me p) = true
  is_source (Variable x p) = true
  is_source (Create c p) = true
  is_source (Prefix op e p) = is_prefix op && is_source e
  is_source (Infix op l r p) = not (is_prefix op) && is_source l && is_source r
  is_source (Call m es p) = are_source es
  is_source (Send e m es p) = is_source e && are_source es
  is_source (Frame m t ss e qs) = false
  is_source (Wait b m) = false

  pub are_source : Expressions → Bool
  are_source NoArgs = true
  are_source (Arg e es) = is_source e && are_source es

  pub is_source_statement : Statement → Bool
  is_source_statement (Assign x p e) = is_source e
  is_source_statement (Write e) = is_source e
  is_source_statement (WriteText s) = true
  is_source_statement (Do e) = is_source e
  is_source_statement (Async e m p es) = is_source e && are_source es
  is_source_statement (If e these those) = is_source e && are_source_statements these && are_source_statements those
  is_source_statement (While e ss) = is_source e && are_source_statements ss
  is_source_statement (Answer names) = true
  is_source_statement (Select alts) = are_source_alternatives alts
  is_source_statement (Serve m k t ss e qs) = false

  pub are_source_statements : Statements → Bool
  are_source_statements Done = true
  are_source_statements (Then s ss) = is_source_statement s && are_source_statements ss

  pub are_source_alternatives : Alternatives → Bool
  are_source_alternatives NoAlts = true
  are_source_alternatives (Alt e names ss alts) = is_source e && are_source_statements ss && are_source_alternatives alts

-- whether an expression is the value nil
abbrev pub is_nil_value : Expression → Bool
is_nil_value (Literal V.Nil p) = true
is_nil_value _ = false

-- whether a method with this result can have this value; a method without a result has nil
abbrev pub is_value_for : Option Kind → Expression → Bool
is_value_for None e = is_nil_value e
is_value_for (Some k) e = true
