-- Programs whose names, strings and integers can be written as tokens. The tokens of a text have only such names,
-- strings and integers.
use Rattle.std.specs.Prelude.{pos, negsuc, List, [], ◌∷◌, Option, Some, None, Bool, true, false, ◌&&◌, nat_le, All, IsTrue}
use Rattle.pool_syntax.specs.declared.token.Tok.{Tok}
use Rattle.pool_syntax.specs.declared.token.Tok.TheVariants as tok
use Rattle.run_types.specs.declared.types.Value.{Value}
use Rattle.run_types.specs.declared.types.Value.TheVariants as value
use Rattle.run_types.specs.declared.types.Kind.{Kind}
use Rattle.run_types.specs.declared.types.Kind.TheVariants as kind
use Rattle.pool_syntax.specs.declared.tree.Named.{Named}
use Rattle.pool_syntax.specs.declared.tree.Var.{Var}
use Rattle.pool_syntax.specs.Terms.{Expression, Literal, Me, Variable, Create, Prefix, Infix, Call, Send, Frame, Wait, Expressions, NoArgs, Arg, Statement, Assign, Write, WriteText, Do, Async, If}
use Rattle.pool_syntax.specs.Terms.{While, Answer, Select, Serve, Statements, Done, Then, Alternatives, NoAlts, Alt, MethodTree, ProgramTree}
use Rattle.text_scan.specs.Text.{Text}
use Rattle.text_scan.specs.Keywords.{is_name, is_string_number}

-- whether a literal can have this value: an integer from 0 and below 2 ^ 63, a truth value or nil, but no object's
-- name
abbrev pub is_literal : Value → Bool
is_literal (value.Int (pos z)) = nat_le z 9223372036854775807
is_literal (value.Int (negsuc z)) = false
is_literal (value.Bool b) = true
is_literal (value.Ref n) = false
is_literal value.Nil = true

-- the name, string or integer of the token can be written
abbrev pub IsSpelledToken : List Text → Tok → Type 0
IsSpelledToken names (tok.Name n) = IsTrue (is_name names n.0)
IsSpelledToken names (tok.Str n) = IsTrue (is_string_number names n.0)
IsSpelledToken names (tok.Int z) = IsTrue (is_literal (value.Int z))
IsSpelledToken names (tok.Word k) = Unit {0}
IsSpelledToken names (tok.Sign s) = Unit {0}
IsSpelledToken names tok.End = Unit {0}

-- the same for each of these tokens
abbrev pub AreSpelled : List Text → List Tok → Type 0
AreSpelled names ts = All (IsSpelledToken names) ts

-- whether the declared type can be written
abbrev pub is_kind : List Text → Kind → Bool
is_kind names kind.Int = true
is_kind names kind.Bool = true
is_kind names (kind.Class c) = is_name names c.0

-- whether the names can be written
abbrev pub are_names : List Text → List Named → Bool
are_names names [] = true
are_names names (n ∷ ns) = is_name names n.name.0 && are_names names ns

-- whether the names of an answer list can be written, if there is one
abbrev pub are_answer_names : List Text → Option (List Named) → Bool
are_answer_names names None = true
are_answer_names names (Some ns) = are_names names ns

-- whether the variables can be written
abbrev pub are_variables : List Text → List Var → Bool
are_variables names [] = true
are_variables names (v ∷ vs) = is_name names v.name.0 && is_kind names v.kind && are_variables names vs

abbrev mutual
  pub is_spelled_expression : List Text → Expression → Bool
  is_spelled_expression names (Literal v p) = is_literal v
  is_spelled_expression names (Me p) = true
  is_spelled_expression names (Variable x p) = is_name names x
  is_spelled_expression names (Create c p) = is_name names c
  is_spelled_expression names (Prefix op e p) = is_spelled_expression names e
  is_spelled_expression names (Infix op l r p) = is_spelled_expression names l && is_spelled_expression names r
  is_spelled_expression names (Call m es p) = is_name names m && are_spelled_expressions names es
  is_spelled_expression names (Send e m es p) =
      is_spelled_expression names e && is_name names m && are_spelled_expressions names es
  is_spelled_expression names (Frame m t ss e qs) = false
  is_spelled_expression names (Wait b m) = false

  pub are_spelled_expressions : List Text → Expressions → Bool
  are_spelled_expressions names NoArgs = true
  are_spelled_expressions names (Arg e es) = is_spelled_expression names e && are_spelled_expressions names es

  pub is_spelled_statement : List Text → Statement → Bool
  is_spelled_statement names (Assign x p e) = is_name names x && is_spelled_expression names e
  is_spelled_statement names (Write e) = is_spelled_expression names e
  is_spelled_statement names (WriteText s) = is_string_number names s
  is_spelled_statement names (Do e) = is_spelled_expression names e
  is_spelled_statement names (Async e m p es) =
      is_spelled_expression names e && is_name names m && are_spelled_expressions names es
  is_spelled_statement names (If e these those) =
      is_spelled_expression names e && are_spelled_statements names these && are_spelled_statements names those
  is_spelled_statement names (While e ss) = is_spelled_expression names e && are_spelled_statements names ss
  is_spelled_statement names (Answer ns) = are_names names ns
  is_spelled_statement names (Select alts) = are_spelled_alternatives names alts
  is_spelled_statement names (Serve m k t ss e qs) = false

  pub are_spelled_statements : List Text → Statements → Bool
  are_spelled_statements names Done = true
  are_spelled_statements names (Then s ss) = is_spelled_statement names s && are_spelled_statements names ss

  pub are_spelled_alternatives : List Text → Alternatives → Bool
  are_spelled_alternatives names NoAlts = true
  are_spelled_alternatives names (Alt e ns ss alts) =
      is_spelled_expression names e && are_answer_names names ns && are_spelled_statements names ss
      && are_spelled_alternatives names alts

-- whether the result of a method can be written
abbrev pub is_outcome : List Text → Option Kind → Bool
is_outcome names None = true
is_outcome names (Some k) = is_kind names k

-- whether the methods can be written
abbrev pub are_spelled_methods : List Text → List MethodTree → Bool
are_spelled_methods names [] = true
are_spelled_methods names (m ∷ ms) =
    is_name names m.name.name.0 && are_variables names m.params && are_variables names m.locals && is_outcome names m.outcome
    && are_spelled_statements names m.body && is_spelled_expression names m.value && are_spelled_statements names m.post
    && are_spelled_methods names ms

-- whether a program can be written: each name and each string is one in the table, and each integer is from 0 and
-- below 2 ^ 63
abbrev pub is_spelled : List Text → ProgramTree → Bool
is_spelled names [] = true
is_spelled names (k ∷ ks) =
    is_name names k.name.name.0 && are_variables names k.vars && are_spelled_methods names k.methods
    && are_spelled_statements names k.body && is_spelled names ks
