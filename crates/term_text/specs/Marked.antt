-- The text of what has a redex, with the redex in brackets. The search for it goes from left to right, past what is evaluated.
use Rattle.std.specs.Prelude.{ℕ, List, [], ◌∷◌, ◌++◌, ◌&&◌, if◌then◌else◌, codes, Option}
use Rattle.text_scan.specs.Text.{Text}
use Rattle.run_types.specs.Table.{text_at}
use Rattle.pool_syntax.specs.Terms.{Expression, Literal, Me, Variable, Create, Prefix, Infix, Call, Send, Frame, Wait, Expressions, NoArgs, Arg, Statement, Assign, Write, WriteText, Do, Async, If}
use Rattle.pool_syntax.specs.Terms.{While, Answer, Select, Serve, Statements, Done, Then, Alternatives, NoAlts, Alt}
use Rattle.pool_relation.specs.Reducible.{are_values, guards_are_values, is_done, is_over, is_value}
use Rattle.pool_printer.specs.Canonical.{left_need, level, right_need}
use Rattle.term_text.specs.Words.{operator_text, alternatives_text, answer_text, arguments_text, bare_text, braced, called, else_text, enclosed, more_arguments, more_statements, statement_text, statements_text, text_in, word}
use Rattle.record_writer.specs.RecordText.{led}

-- in brackets
abbrev pub boxed : Text → Text
boxed t = word (codes "[") ++ (t ++ word (codes "]"))

-- the level of an expression whose redex is marked; what is in brackets or braces needs no parentheses
abbrev pub marked_level : Expression → ℕ
marked_level (Prefix o e p) = if is_value e then 8 else 6
marked_level (Infix o l r p) = if is_value l && is_value r then 8 else level (Infix o l r p)
marked_level (Send e m es p) = if is_value e && are_values es then 8 else 7
marked_level _ = 8

-- an expression with its redex marked; a method under way is its name in braces
abbrev mutual
  pub marked : List Text → Expression → Text
  marked names (Literal v p) = bare_text names (Literal v p)
  marked names (Me p) = boxed (bare_text names (Me p))
  marked names (Variable x p) = boxed (bare_text names (Variable x p))
  marked names (Create c p) = boxed (bare_text names (Create c p))
  marked names (Prefix o e p) =
      if is_value e then boxed (bare_text names (Prefix o e p)) else word (operator_text o) ++ enclosed 6 (marked_level e) (marked names e)
  marked names (Infix o l r p) =
      if is_value l
      then (if is_value r
      then boxed (bare_text names (Infix o l r p))
      else text_in names (left_need o) l ++ (word (operator_text o) ++ enclosed (right_need o) (marked_level r) (marked names r)))
      else enclosed (left_need o) (marked_level l) (marked names l) ++ (word (operator_text o) ++ text_in names (right_need o) r)
  marked names (Call m es p) =
      if are_values es then boxed (bare_text names (Call m es p)) else called names m (marked_arguments names es)
  marked names (Send e m es p) =
      if is_value e
      then (if are_values es
      then boxed (bare_text names (Send e m es p))
      else text_in names 7 e ++ (word (codes "!") ++ called names m (marked_arguments names es)))
      else enclosed 7 (marked_level e) (marked names e) ++ (word (codes "!") ++ called names m (arguments_text names es))
  marked names (Frame m t ss e qs) = braced names m
  marked names (Wait b m) = boxed (bare_text names (Wait b m))

  -- arguments, one of which has the redex, with a comma between each two
  pub marked_arguments : List Text → Expressions → Text
  marked_arguments names NoArgs = []
  marked_arguments names (Arg e es) =
      if is_value e then bare_text names e ++ marked_more names es else marked names e ++ more_arguments names es

  -- the same, with a comma before each
  pub marked_more : List Text → Expressions → Text
  marked_more names NoArgs = []
  marked_more names (Arg e es) =
      word (codes ",") ++ (if is_value e then bare_text names e ++ marked_more names es else marked names e ++ more_arguments names es)

-- alternatives, one of whose guards has the redex
abbrev pub marked_guards : List Text → Alternatives → Text
marked_guards names NoAlts = []
marked_guards names (Alt e ns ss alts) =
    if is_value e
    then word (codes "when") ++ (bare_text names e ++ (answer_text names ns ++ (word (codes "then") ++ (statements_text names ss ++ marked_guards names alts))))
    else word (codes "when") ++ (marked names e ++ (answer_text names ns ++ (word (codes "then") ++ (statements_text names ss ++ alternatives_text names alts))))

-- a statement with its redex marked
abbrev pub marked_statement : List Text → Statement → Text
marked_statement names (Assign x p e) =
    if is_value e then boxed (statement_text names (Assign x p e)) else led (text_at names x ∷ codes ":=" ∷ []) ++ marked names e
marked_statement names (Write e) = if is_value e then boxed (statement_text names (Write e)) else word (codes "write") ++ marked names e
marked_statement names (WriteText s) = boxed (statement_text names (WriteText s))
marked_statement names (Do e) = if is_value e then boxed (statement_text names (Do e)) else marked names e
marked_statement names (Async e m p es) =
    if is_value e
    then (if are_values es
    then boxed (statement_text names (Async e m p es))
    else text_in names 7 e ++ (word (codes "!!") ++ called names m (marked_arguments names es)))
    else enclosed 7 (marked_level e) (marked names e) ++ (word (codes "!!") ++ called names m (arguments_text names es))
marked_statement names (If e these those) =
    if is_value e
    then boxed (statement_text names (If e these those))
    else word (codes "if") ++ (marked names e ++ (word (codes "then") ++ (statements_text names these ++ (else_text those (statements_text names those) ++ word (codes "fi")))))
marked_statement names (While e ss) = boxed (statement_text names (While e ss))
marked_statement names (Answer ns) = boxed (statement_text names (Answer ns))
marked_statement names (Select alts) =
    if guards_are_values alts then boxed (statement_text names (Select alts)) else word (codes "select") ++ (marked_guards names alts ++ word (codes "end"))
marked_statement names (Serve m k t ss e qs) = braced names m

-- statements; the redex is in the first of them
abbrev pub marked_statements : List Text → Statements → Text
marked_statements names Done = []
marked_statements names (Then s ss) = marked_statement names s ++ more_statements names ss

-- the post statements, if there are any
abbrev pub post_text : Statements → Text → Text
post_text Done t = []
post_text (Then s ss) t = word (codes "post") ++ t

-- the value of a method
abbrev pub result_text : Text → Text
result_text t = word (codes "result") ++ t

-- what is left of a method under way: its statements, its value, its post statements; if all is done, the value is the redex
abbrev pub method_text : List Text → Option ℕ → Statements → Expression → Statements → Text
method_text names k ss e qs =
    if is_done ss
    then (if is_value e
    then (if is_over k qs
    then boxed (result_text (bare_text names e)) ++ post_text qs (statements_text names qs)
    else result_text (bare_text names e) ++ post_text qs (marked_statements names qs))
    else result_text (marked names e) ++ post_text qs (statements_text names qs))
    else marked_statements names ss ++ (result_text (bare_text names e) ++ post_text qs (statements_text names qs))
