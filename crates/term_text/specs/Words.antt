-- The text of expressions and statements, also of those that are partly evaluated: words, each after a space. The words of an
-- expression or statement of a program are its canonical tokens.
use Rattle.std.specs.Prelude.{ℕ, List, [], ◌∷◌, ◌++◌, if◌then◌else◌, nat_le, codes, Option, Some, None}
use Rattle.run_types.specs.Table.{text_at}
use Rattle.run_types.specs.declared.types.Op.{Op}
use Rattle.text_scan.specs.Text.{Text}
use Rattle.pool_syntax.specs.declared.tree.Named.{Named}
use Rattle.pool_syntax.specs.Terms.{Expression, Literal, Me, Variable, Create, Prefix, Infix, Call, Send, Frame, Wait, Expressions, NoArgs, Arg, Statement, Assign, Write, WriteText, Do, Async, If}
use Rattle.pool_syntax.specs.Terms.{While, Answer, Select, Serve, Statements, Done, Then, Alternatives, NoAlts, Alt}
use Rattle.record_writer.specs.RecordText.{led, object_text, value_text}
use Rattle.pool_printer.specs.Canonical.{left_need, level, operator_token, right_need}
use Rattle.pool_printer.specs.Spelling.{spelling}

-- a word after a space
abbrev pub word : Text → Text
word w = led (w ∷ [])

-- the sign or the keyword of an operator
abbrev pub operator_text : Op → Text
operator_text o = spelling [] (operator_token o)

-- a name of the program after a space
abbrev pub name_word : List Text → ℕ → Text
name_word names n = word (text_at names n)

-- the text of an expression of this level in a place that requires the level `need`: in parentheses if its own is lower
abbrev pub enclosed : ℕ → ℕ → Text → Text
enclosed need level t = if nat_le need level then t else word (codes "(") ++ (t ++ word (codes ")"))

-- the name of a method under way, where its text has its place
abbrev pub braced : List Text → ℕ → Text
braced names m = led (codes "{" ∷ text_at names m ∷ codes "}" ∷ [])

-- a method's name and its arguments
abbrev pub called : List Text → ℕ → Text → Text
called names m t = led (text_at names m ∷ codes "(" ∷ []) ++ (t ++ word (codes ")"))

-- an expression without parentheses around it; a method under way is its name in braces
abbrev mutual
  pub bare_text : List Text → Expression → Text
  bare_text names (Literal v p) = word (value_text v)
  bare_text names (Me p) = word (codes "self")
  bare_text names (Variable x p) = name_word names x
  bare_text names (Create c p) = led (codes "new" ∷ text_at names c ∷ [])
  bare_text names (Prefix o e p) = word (operator_text o) ++ enclosed 6 (level e) (bare_text names e)
  bare_text names (Infix o l r p) =
      enclosed (left_need o) (level l) (bare_text names l) ++ (word (operator_text o) ++ enclosed (right_need o) (level r) (bare_text names r))
  bare_text names (Call m es p) = called names m (arguments_text names es)
  bare_text names (Send e m es p) = enclosed 7 (level e) (bare_text names e) ++ (word (codes "!") ++ called names m (arguments_text names es))
  bare_text names (Frame m t ss e qs) = braced names m
  bare_text names (Wait b m) = led (codes "waits" ∷ object_text b ∷ text_at names m ∷ [])

  -- arguments, with a comma between each two
  pub arguments_text : List Text → Expressions → Text
  arguments_text names NoArgs = []
  arguments_text names (Arg e es) = bare_text names e ++ more_arguments names es

  -- arguments, with a comma before each
  pub more_arguments : List Text → Expressions → Text
  more_arguments names NoArgs = []
  more_arguments names (Arg e es) = word (codes ",") ++ (bare_text names e ++ more_arguments names es)

-- an expression in a place that requires the level `need`
abbrev pub text_in : List Text → ℕ → Expression → Text
text_in names need e = enclosed need (level e) (bare_text names e)

-- names, with a comma before each
abbrev pub more_names : List Text → List Named → Text
more_names names [] = []
more_names names (n ∷ ns) = led (codes "," ∷ text_at names n.name.0 ∷ []) ++ more_names names ns

-- names, with a comma between each two
abbrev pub some_names : List Text → List Named → Text
some_names names [] = []
some_names names (n ∷ ns) = name_word names n.name.0 ++ more_names names ns

-- names in parentheses
abbrev pub names_text : List Text → List Named → Text
names_text names ns = word (codes "(") ++ (some_names names ns ++ word (codes ")"))

-- the answer list of an alternative, if it has one
abbrev pub answer_text : List Text → Option (List Named) → Text
answer_text names None = []
answer_text names (Some ns) = word (codes "answer") ++ names_text names ns

-- `else` and its list, if the list is not empty
abbrev pub else_text : Statements → Text → Text
else_text Done t = []
else_text (Then s ss) t = word (codes "else") ++ t

-- a string in its quotes
abbrev pub string_text : List Text → ℕ → Text
string_text names s = 34 ∷ (text_at names s ++ 34 ∷ [])

-- a statement; a method under way is its name in braces
abbrev mutual
  pub statement_text : List Text → Statement → Text
  statement_text names (Assign x p e) = led (text_at names x ∷ codes ":=" ∷ []) ++ bare_text names e
  statement_text names (Write e) = word (codes "write") ++ bare_text names e
  statement_text names (WriteText s) = led (codes "write" ∷ string_text names s ∷ [])
  statement_text names (Do e) = bare_text names e
  statement_text names (Async e m p es) = text_in names 7 e ++ (word (codes "!!") ++ called names m (arguments_text names es))
  statement_text names (If e these those) =
      word (codes "if") ++ (bare_text names e ++ (word (codes "then") ++ (statements_text names these ++ (else_text those (statements_text names those) ++ word (codes "fi")))))
  statement_text names (While e ss) = word (codes "while") ++ (bare_text names e ++ (word (codes "do") ++ (statements_text names ss ++ word (codes "od"))))
  statement_text names (Answer ns) = word (codes "answer") ++ names_text names ns
  statement_text names (Select alts) = word (codes "select") ++ (alternatives_text names alts ++ word (codes "end"))
  statement_text names (Serve m k t ss e qs) = braced names m

  -- statements, with a semicolon between each two
  pub statements_text : List Text → Statements → Text
  statements_text names Done = []
  statements_text names (Then s ss) = statement_text names s ++ more_statements names ss

  -- statements, with a semicolon before each
  pub more_statements : List Text → Statements → Text
  more_statements names Done = []
  more_statements names (Then s ss) = word (codes ";") ++ (statement_text names s ++ more_statements names ss)

  -- the alternatives of a select
  pub alternatives_text : List Text → Alternatives → Text
  alternatives_text names NoAlts = []
  alternatives_text names (Alt e ns ss alts) =
      word (codes "when") ++ (bare_text names e ++ (answer_text names ns ++ (word (codes "then") ++ (statements_text names ss ++ alternatives_text names alts))))
