-- The canonical text of a program: its tokens, with one space or line feed between each two.
use Rattle.std.specs.Prelude.{ℕ, ◌+◌, List, [], ◌∷◌, ◌++◌, map, Bool, true, false, ◌||◌, Option, Some, None, if◌then◌else◌, nat_le, nat_eq, codes}
use Rattle.text_scan.specs.Text.{Text}
use Rattle.run_types.specs.declared.types.Value.{Value}
use Rattle.run_types.specs.declared.types.Value.TheVariants as value
use Rattle.run_types.specs.declared.types.Op.{Op}
use Rattle.run_types.specs.declared.types.Op.TheVariants as op
use Rattle.text_scan.specs.declared.keywords.Keyword.{Keyword}
use Rattle.text_scan.specs.declared.keywords.Keyword.TheVariants as word
use Rattle.pool_syntax.specs.declared.token.Sign.TheVariants as sign
use Rattle.pool_syntax.specs.declared.token.Tok.{Tok}
use Rattle.pool_syntax.specs.declared.token.Tok.TheVariants.{Word, Name, Int, Str, Sign}
use Rattle.run_types.specs.declared.types.Kind.{Kind}
use Rattle.run_types.specs.declared.types.Kind.TheVariants as kind
use Rattle.pool_syntax.specs.declared.tree.Named.{Named}
use Rattle.pool_syntax.specs.declared.tree.Var.{Var}
use Rattle.pool_syntax.specs.Terms.{Expression, Literal, Me, Variable, Create, Prefix, Infix, Call, Send, Frame, Wait, Expressions, NoArgs, Arg, Statement, Assign, Write, WriteText, Do, Async, If}
use Rattle.pool_syntax.specs.Terms.{While, Answer, Select, Serve, Statements, Done, Then, Alternatives, NoAlts, Alt, MethodTree, ClassTree, ProgramTree}
use Rattle.pool_printer.specs.Spelling.{spelling}

infixr 5 ◌then◌
-- tokens, followed by more
abbrev pub ◌then◌ : List Tok → List Tok → List Tok
xs then ys = xs ++ ys

-- the token of a name
abbrev pub name_token : ℕ → Tok
name_token n = Name (record { 0 = n })

-- the parts, each after the separator
abbrev pub led_by : Tok → List (List Tok) → List Tok
led_by separator [] = []
led_by separator (x ∷ xs) = separator ∷ x then led_by separator xs

-- the parts with the separator between each two
abbrev pub separated_by : Tok → List (List Tok) → List Tok
separated_by separator [] = []
separated_by separator (x ∷ xs) = x then led_by separator xs

-- operators and levels

-- the token of an operator
abbrev pub operator_token : Op → Tok
operator_token op.Add = Sign sign.Plus
operator_token op.Sub = Sign sign.Minus
operator_token op.Mul = Sign sign.Star
operator_token op.Div = Sign sign.Slash
operator_token op.Rem = Sign sign.Percent
operator_token op.Neg = Sign sign.Minus
operator_token op.Less = Sign sign.Less
operator_token op.LessEq = Sign sign.LessEq
operator_token op.More = Sign sign.More
operator_token op.MoreEq = Sign sign.MoreEq
operator_token op.Same = Sign sign.Equal
operator_token op.Differs = Sign sign.Differs
operator_token op.And = Word word.And
operator_token op.Or = Word word.Or
operator_token op.Not = Word word.Not

-- the level of an operator
abbrev pub operator_level : Op → ℕ
operator_level op.Or = 1
operator_level op.And = 2
operator_level op.Same = 3
operator_level op.Differs = 3
operator_level op.Less = 3
operator_level op.LessEq = 3
operator_level op.More = 3
operator_level op.MoreEq = 3
operator_level op.Add = 4
operator_level op.Sub = 4
operator_level op.Mul = 5
operator_level op.Div = 5
operator_level op.Rem = 5
operator_level op.Neg = 6
operator_level op.Not = 6

-- the level of an expression
abbrev pub level : Expression → ℕ
level (Infix o l r p) = operator_level o
level (Prefix o e p) = 6
level (Send e m es p) = 7
level _ = 8

-- the level that a left operand requires: that of its operator, and one more in a comparison
abbrev pub left_need : Op → ℕ
left_need o = if nat_eq (operator_level o) 3 then 4 else operator_level o

-- the level that a right operand requires: one more than that of its operator
abbrev pub right_need : Op → ℕ
right_need o = operator_level o + 1

-- the tokens of an expression of this level in a place that requires the level `need`: in parentheses if its own is
-- lower
abbrev pub in_place : ℕ → ℕ → List Tok → List Tok
in_place need level ts = if nat_le need level then ts else Sign sign.LeftParen ∷ ts then Sign sign.RightParen ∷ []

-- expressions

abbrev pub truth_token : Bool → Tok
truth_token true = Word word.True
truth_token false = Word word.False

abbrev pub value_tokens : Value → List Tok
value_tokens (value.Int z) = Int z ∷ []
value_tokens (value.Bool b) = truth_token b ∷ []
value_tokens (value.Ref n) = []
value_tokens value.Nil = Word word.Nil ∷ []

-- the tokens of an expression without parentheses around it; a method that is being executed and a name of an object
-- have none
abbrev mutual
  pub bare_tokens : Expression → List Tok
  bare_tokens (Literal v p) = value_tokens v
  bare_tokens (Me p) = Word word.SelfWord ∷ []
  bare_tokens (Variable x p) = name_token x ∷ []
  bare_tokens (Create c p) = Word word.New ∷ name_token c ∷ []
  bare_tokens (Prefix o e p) = operator_token o ∷ in_place 6 (level e) (bare_tokens e)
  bare_tokens (Infix o l r p) =
      in_place (left_need o) (level l) (bare_tokens l) then operator_token o ∷ in_place (right_need o) (level r) (bare_tokens r)
  bare_tokens (Call m es p) = name_token m ∷ Sign sign.LeftParen ∷ separated_by (Sign sign.Comma) (argument_tokens es) then Sign sign.RightParen ∷ []
  bare_tokens (Send e m es p) =
      in_place 7 (level e) (bare_tokens e) then Sign sign.Bang ∷ name_token m
      ∷ Sign sign.LeftParen ∷ separated_by (Sign sign.Comma) (argument_tokens es) then Sign sign.RightParen ∷ []
  bare_tokens (Frame m t ss e qs) = []
  bare_tokens (Wait b m) = []

  -- the tokens of each argument
  pub argument_tokens : Expressions → List (List Tok)
  argument_tokens NoArgs = []
  argument_tokens (Arg e es) = in_place 1 (level e) (bare_tokens e) ∷ argument_tokens es

-- the tokens of an expression in a place that requires this level
abbrev pub expression_tokens : ℕ → Expression → List Tok
expression_tokens need e = in_place need (level e) (bare_tokens e)

-- the tokens of a call: the name of its method and the arguments in parentheses
abbrev pub call_tokens : ℕ → Expressions → List Tok
call_tokens m es = name_token m ∷ Sign sign.LeftParen ∷ separated_by (Sign sign.Comma) (argument_tokens es) then Sign sign.RightParen ∷ []

-- statements

abbrev pub names_tokens : List Named → List Tok
names_tokens ns =
    Sign sign.LeftParen ∷ separated_by (Sign sign.Comma) (map (λ n. Name n.name ∷ []) ns) then Sign sign.RightParen ∷ []

abbrev pub answer_tokens : Option (List Named) → List Tok
answer_tokens None = []
answer_tokens (Some ns) = Word word.Answer ∷ names_tokens ns

-- `else` and its list, if the list is not empty
abbrev pub else_tokens : Statements → List Tok → List Tok
else_tokens Done ts = []
else_tokens (Then s ss) ts = Word word.Else ∷ ts

abbrev mutual
  pub statement_tokens : Statement → List Tok
  statement_tokens (Assign x p e) = name_token x ∷ Sign sign.Becomes ∷ expression_tokens 1 e
  statement_tokens (Write e) = Word word.Write ∷ expression_tokens 1 e
  statement_tokens (WriteText s) = Word word.Write ∷ Str (record { 0 = s }) ∷ []
  statement_tokens (Do e) = expression_tokens 1 e
  statement_tokens (Async e m p es) = expression_tokens 7 e then Sign sign.BangBang ∷ call_tokens m es
  statement_tokens (If e these those) =
      Word word.If ∷ expression_tokens 1 e
      then Word word.Then ∷ separated_by (Sign sign.Semicolon) (statement_parts these)
      then else_tokens those (separated_by (Sign sign.Semicolon) (statement_parts those))
      then Word word.Fi ∷ []
  statement_tokens (While e ss) =
      Word word.While ∷ expression_tokens 1 e
      then Word word.Do ∷ separated_by (Sign sign.Semicolon) (statement_parts ss)
      then Word word.Od ∷ []
  statement_tokens (Answer ns) = Word word.Answer ∷ names_tokens ns
  statement_tokens (Select alts) = Word word.Select ∷ alternatives_tokens alts then Word word.End ∷ []
  statement_tokens (Serve m k t ss e qs) = []

  -- the tokens of each statement
  pub statement_parts : Statements → List (List Tok)
  statement_parts Done = []
  statement_parts (Then s ss) = statement_tokens s ∷ statement_parts ss

  pub alternatives_tokens : Alternatives → List Tok
  alternatives_tokens NoAlts = []
  alternatives_tokens (Alt e ns ss alts) =
      Word word.When ∷ expression_tokens 1 e
      then answer_tokens ns
      then Word word.Then ∷ separated_by (Sign sign.Semicolon) (statement_parts ss)
      then alternatives_tokens alts

abbrev pub statements_tokens : Statements → List Tok
statements_tokens ss = separated_by (Sign sign.Semicolon) (statement_parts ss)

-- declarations

abbrev pub kind_token : Kind → Tok
kind_token kind.Int = Word word.Int
kind_token kind.Bool = Word word.Bool
kind_token (kind.Class c) = Name c

abbrev pub variable_tokens : Var → List Tok
variable_tokens v = Name v.name ∷ Sign sign.Colon ∷ kind_token v.kind ∷ []

-- one declaration for each variable
abbrev pub declarations_tokens : Keyword → List Var → List Tok
declarations_tokens k [] = []
declarations_tokens k (v ∷ vs) = Word k ∷ variable_tokens v then declarations_tokens k vs

abbrev pub outcome_tokens : Option Kind → List Tok
outcome_tokens None = []
outcome_tokens (Some k) = Sign sign.Colon ∷ kind_token k ∷ []

-- the value, if the method has a result
abbrev pub result_tokens : Option Kind → Expression → List Tok
result_tokens None e = []
result_tokens (Some k) e = Word word.Result ∷ expression_tokens 1 e

-- the post statements, if there are any
abbrev pub post_tokens : Statements → List Tok
post_tokens Done = []
post_tokens (Then s ss) = Word word.Post ∷ statements_tokens (Then s ss)

abbrev pub method_tokens : MethodTree → List Tok
method_tokens m =
    Word word.Method ∷ Name m.name.name ∷ Sign sign.LeftParen ∷ separated_by (Sign sign.Comma) (map variable_tokens m.params)
    then Sign sign.RightParen ∷ outcome_tokens m.outcome
    then declarations_tokens word.Local m.locals
    then Word word.Begin ∷ statements_tokens m.body
    then result_tokens m.outcome m.value
    then post_tokens m.post
    then Word word.End ∷ []

abbrev pub methods_tokens : List MethodTree → List Tok
methods_tokens [] = []
methods_tokens (m ∷ ms) = method_tokens m then methods_tokens ms

abbrev pub class_tokens : ClassTree → List Tok
class_tokens c =
    Word word.Class ∷ Name c.name.name ∷ declarations_tokens word.Var c.vars
    then methods_tokens c.methods
    then Word word.Body ∷ statements_tokens c.body
    then Word word.End ∷ []

abbrev pub program_tokens : ProgramTree → List Tok
program_tokens [] = []
program_tokens (c ∷ cs) = class_tokens c then program_tokens cs

-- the text

-- whether a line feed goes before the token
abbrev pub breaks_before : Tok → Bool
breaks_before (Word word.Class) = true
breaks_before (Word word.Var) = true
breaks_before (Word word.Method) = true
breaks_before (Word word.Body) = true
breaks_before _ = false

-- whether a line feed goes after the token
abbrev pub breaks_after : Tok → Bool
breaks_after (Sign sign.Semicolon) = true
breaks_after _ = false

-- the separator before a token: nothing before the first token, otherwise one space or one line feed
abbrev pub gap : Option Tok → Tok → Text
gap None t = []
gap (Some before) t = if breaks_after before || breaks_before t then codes "\n" else codes " "

-- the text of tokens that follow the token `before`, if there is one
abbrev pub text_behind : List Text → Option Tok → List Tok → Text
text_behind names before [] = []
text_behind names before (t ∷ ts) = gap before t ++ (spelling names t ++ text_behind names (Some t) ts)

-- the canonical text of a program, over the table of its names and strings
abbrev pub canonical : List Text → ProgramTree → Text
canonical names p = text_behind names None (program_tokens p) ++ codes "\n"
