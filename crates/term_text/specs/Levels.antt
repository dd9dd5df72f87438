-- The lines of a term: its body, and each method under way, the outermost first, with the text of what is left of it.
use Rattle.std.specs.Prelude.{ℕ, List, [], ◌∷◌, ◌++◌, Option, Some, None, codes}
use Rattle.text_scan.specs.Text.{Text}
use Rattle.run_types.specs.Table.{text_at}
use Rattle.run_types.specs.declared.types.Value.{Value}
use Rattle.pool_syntax.specs.Terms.{Store, Expression, Literal, Me, Variable, Create, Prefix, Infix, Call, Send, Frame, Wait, Expressions, NoArgs, Arg, Statement, Assign, Write, WriteText, Do, Async, If}
use Rattle.pool_syntax.specs.Terms.{While, Answer, Select, Serve, Statements, Done, Then, Alternatives, NoAlts, Alt}
use Rattle.record_writer.specs.RecordText.{led, object_text, value_text}
use Rattle.term_text.specs.Words.{word}
use Rattle.term_text.specs.Marked.{marked_statements, method_text}

-- a variable with its value, after a space
abbrev pub binding_text : List Text → ℕ × Value → Text
binding_text names b = word (text_at names b.0 ++ (61 ∷ value_text b.1))

-- variables with their values
abbrev pub bindings : List Text → Store → Text
bindings names [] = []
bindings names (b ∷ bs) = binding_text names b ++ bindings names bs

-- the end of such a line: a colon, this text and a line feed
abbrev pub ended : Text → Text
ended t = word (codes ":") ++ (t ++ 10 ∷ [])

-- the line of a method that the object o has called itself
abbrev pub own_line : List Text → ℕ → ℕ → Store → Statements → Expression → Statements → Text
own_line names o m t ss e qs = codes "own" ++ (led (object_text o ∷ text_at names m ∷ []) ++ (bindings names t ++ ended (method_text names None ss e qs)))

-- the line of a method that was answered or taken: for a caller, or for no one
abbrev pub served_line : List Text → ℕ → Option ℕ → ℕ → Store → Statements → Expression → Statements → Text
served_line names o (Some k) m t ss e qs =
    codes "serve" ++ (led (object_text o ∷ text_at names m ∷ object_text k ∷ []) ++ (bindings names t ++ ended (method_text names (Some k) ss e qs)))
served_line names o None m t ss e qs =
    codes "take" ++ (led (object_text o ∷ text_at names m ∷ []) ++ (bindings names t ++ ended (method_text names None ss e qs)))

-- a line for each method under way, the outermost first
abbrev mutual
  pub expression_lines : List Text → ℕ → Expression → Text
  expression_lines names o (Literal v p) = []
  expression_lines names o (Me p) = []
  expression_lines names o (Variable x p) = []
  expression_lines names o (Create c p) = []
  expression_lines names o (Prefix op e p) = expression_lines names o e
  expression_lines names o (Infix op l r p) = expression_lines names o l ++ expression_lines names o r
  expression_lines names o (Call m es p) = arguments_lines names o es
  expression_lines names o (Send e m es p) = expression_lines names o e ++ arguments_lines names o es
  expression_lines names o (Frame m t ss e qs) =
      own_line names o m t ss e qs ++ (statements_lines names o ss ++ (expression_lines names o e ++ statements_lines names o qs))
  expression_lines names o (Wait b m) = []

  pub arguments_lines : List Text → ℕ → Expressions → Text
  arguments_lines names o NoArgs = []
  arguments_lines names o (Arg e es) = expression_lines names o e ++ arguments_lines names o es

  pub statement_lines : List Text → ℕ → Statement → Text
  statement_lines names o (Assign x p e) = expression_lines names o e
  statement_lines names o (Write e) = expression_lines names o e
  statement_lines names o (WriteText s) = []
  statement_lines names o (Do e) = expression_lines names o e
  statement_lines names o (Async e m p es) = expression_lines names o e ++ arguments_lines names o es
  statement_lines names o (If e these those) = expression_lines names o e
  statement_lines names o (While e ss) = []
  statement_lines names o (Answer ns) = []
  statement_lines names o (Select alts) = guards_lines names o alts
  statement_lines names o (Serve m k t ss e qs) =
      served_line names o k m t ss e qs ++ (statements_lines names o ss ++ (expression_lines names o e ++ statements_lines names o qs))

  -- only the first statement of a list has methods under way
  pub statements_lines : List Text → ℕ → Statements → Text
  statements_lines names o Done = []
  statements_lines names o (Then s ss) = statement_lines names o s

  pub guards_lines : List Text → ℕ → Alternatives → Text
  guards_lines names o NoAlts = []
  guards_lines names o (Alt e ns ss alts) = expression_lines names o e ++ guards_lines names o alts

-- the line of the body
abbrev pub body_line : List Text → ℕ → Statements → Text
body_line names o ss = codes "body" ++ (led (object_text o ∷ []) ++ ended (marked_statements names ss))

-- the lines of the body and of all methods under way in it
abbrev pub term_lines : List Text → ℕ → Statements → Text
term_lines names o ss = body_line names o ss ++ statements_lines names o ss
