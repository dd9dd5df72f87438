-- Evaluation contexts in the sense of Felleisen and Hieb: terms with a hole where evaluation continues, given from the
-- hole outwards; and the redexes.
use Rattle.std.specs.Prelude.{◌≡◌, ℕ, List, [], ◌∷◌, Option, Some, None, option_map}
use Rattle.run_types.specs.declared.types.Value.{Value}
use Rattle.run_types.specs.declared.types.Op.{Op}
use Rattle.run_types.specs.declared.types.Item.TheVariants as I
use Rattle.pool_syntax.specs.declared.tree.Named.{Named}
use Rattle.pool_syntax.specs.Terms.{Store, Expression, Literal, Me, Variable, Create, Prefix, Infix, Call, Send, Frame, Wait, Expressions, NoArgs, Arg, Statement, Assign, Write, WriteText, Do, Async}
use Rattle.pool_syntax.specs.Terms.{If, While, Answer, Select, Serve, Statements, Done, Then, Alternatives, NoAlts, Alt, append}
use Rattle.pool_relation.specs.Reducible.{Choice, Reducible, OwnName, Read, Make, Unary, Binary, Invoke, SynchronousSend, Leave, Waiting, set_value}
use Rattle.pool_relation.specs.Reducible.{Set, Print, Drop, Post, Branch, Loop, Accept, Choose, Finish}

-- a value, with the position of its literal
abbrev pub Operand : Type 0
Operand = Value × ℕ

abbrev pub operand : Operand → Expression
operand v = Literal v.0 v.1

-- arguments that are values, then the others
abbrev pub arguments : List Operand → Expressions → Expressions
arguments [] es = es
arguments (v ∷ vs) es = Arg (operand v) (arguments vs es)

-- alternatives whose guards are values, then the others
abbrev pub guards : List (Choice × ℕ) → Alternatives → Alternatives
guards [] alts = alts
guards (c ∷ cs) alts = Alt (Literal c.0.guard c.1) c.0.answer c.0.work (guards cs alts)

-- a place of an expression in an expression
pub data Place : Type 0 where
  InPrefix : (op : Op) (pos : ℕ) → Place
  InLeft : (op : Op) (right : Expression) (pos : ℕ) → Place
  InRight : (op : Op) (left : Operand) (pos : ℕ) → Place
  InCall : (method : ℕ) (before : List Operand) (after : Expressions) (pos : ℕ) → Place
  InReceiver : (method : ℕ) (args : Expressions) (pos : ℕ) → Place
  InSend : (to : Operand) (method : ℕ) (before : List Operand) (after : Expressions) (pos : ℕ) → Place

abbrev pub placed : Place → Expression → Expression
placed (InPrefix op p) e = Prefix op e p
placed (InLeft op r p) e = Infix op e r p
placed (InRight op v p) e = Infix op (operand v) e p
placed (InCall m vs es p) e = Call m (arguments vs (Arg e es)) p
placed (InReceiver m es p) e = Send e m es p
placed (InSend v m vs es p) e = Send (operand v) m (arguments vs (Arg e es)) p

-- a place of an expression in a statement
pub data Slot : Type 0 where
  InAssign : (target pos : ℕ) → Slot
  InWrite : Slot
  InDo : Slot
  InAsyncReceiver : (method pos : ℕ) (args : Expressions) → Slot
  InAsync : (to : Operand) (method pos : ℕ) (before : List Operand) (after : Expressions) → Slot
  InIf : (yes no : Statements) → Slot
  InSelect : (before : List (Choice × ℕ)) (answer : Option (List Named)) (work : Statements) (after : Alternatives) → Slot

abbrev pub slotted : Slot → Expression → Statement
slotted (InAssign x p) e = Assign x p e
slotted InWrite e = Write e
slotted InDo e = Do e
slotted (InAsyncReceiver m p es) e = Async e m p es
slotted (InAsync v m p vs es) e = Async (operand v) m p (arguments vs (Arg e es))
slotted (InIf these those) e = If e these those
slotted (InSelect cs names ss alts) e = Select (guards cs (Alt e names ss alts))

mutual
  -- the context of an expression, up to the whole term
  pub data ExpressionContext : Type 0 where
    InExpression : (place : Place) (outer : ExpressionContext) → ExpressionContext
    InStatement : (slot : Slot) (outer : StatementsContext) → ExpressionContext
    -- the expression is the value of a method under way, an own one or a served one
    OwnValue : (method : ℕ) (temps : Store) (post : Statements) (outer : ExpressionContext) → ExpressionContext
    ServedValue : (method : ℕ) (caller : Option ℕ) (temps : Store) (post : Statements) (outer : StatementsContext) → ExpressionContext

  -- the context of statements, up to the whole term
  pub data StatementsContext : Type 0 where
    Whole : StatementsContext
    Before : (rest : Statements) (outer : StatementsContext) → StatementsContext
    -- they are the statements that a method under way has left
    OwnBody : (method : ℕ) (temps : Store) (value : Expression) (post : Statements) (outer : ExpressionContext) → StatementsContext
    ServedBody : (method : ℕ) (caller : Option ℕ) (temps : Store) (value : Expression) (post : Statements) (outer : StatementsContext) → StatementsContext
    -- they are the post statements of a method under way that has its value and serves no caller
    OwnPost : (method : ℕ) (temps : Store) (value : Operand) (outer : ExpressionContext) → StatementsContext
    ServedPost : (method : ℕ) (temps : Store) (value : Operand) (outer : StatementsContext) → StatementsContext

-- the whole term with this part in the hole
abbrev mutual
  pub around_expression : ExpressionContext → Expression → Statements
  around_expression (InExpression place k) e = around_expression k (placed place e)
  around_expression (InStatement slot k) e = around_statements k (Then (slotted slot e) Done)
  around_expression (OwnValue m t qs k) e = around_expression k (Frame m t Done e qs)
  around_expression (ServedValue m c t qs k) e = around_statements k (Then (Serve m c t Done e qs) Done)

  pub around_statements : StatementsContext → Statements → Statements
  around_statements Whole ss = ss
  around_statements (Before rest k) ss = around_statements k (append ss rest)
  around_statements (OwnBody m t e qs k) ss = around_expression k (Frame m t ss e qs)
  around_statements (ServedBody m c t e qs k) ss = around_statements k (Then (Serve m c t ss e qs) Done)
  around_statements (OwnPost m t v k) qs = around_expression k (Frame m t Done (operand v) qs)
  around_statements (ServedPost m t v k) qs = around_statements k (Then (Serve m None t Done (operand v) qs) Done)

-- the temps of the nearest method under way around the hole; empty if there is no method
abbrev mutual
  pub temps_at_expression : ExpressionContext → Store
  temps_at_expression (InExpression place k) = temps_at_expression k
  temps_at_expression (InStatement slot k) = temps_at_statements k
  temps_at_expression (OwnValue m t qs k) = t
  temps_at_expression (ServedValue m c t qs k) = t

  pub temps_at_statements : StatementsContext → Store
  temps_at_statements Whole = []
  temps_at_statements (Before rest k) = temps_at_statements k
  temps_at_statements (OwnBody m t e qs k) = t
  temps_at_statements (ServedBody m c t e qs k) = t
  temps_at_statements (OwnPost m t v k) = t
  temps_at_statements (ServedPost m t v k) = t

-- the temps after the redex r: an assignment sets the temp of its name, if there is one
abbrev pub temps_after : Reducible → Store → Store
temps_after (Set x v) t = set_value t x v
temps_after _ t = t

-- the same context with these temps in the nearest method
abbrev pub after : Reducible → StatementsContext → StatementsContext
after r Whole = Whole
after r (Before rest k) = Before rest (after r k)
after r (OwnBody m t e qs k) = OwnBody m (temps_after r t) e qs k
after r (ServedBody m c t e qs k) = ServedBody m c (temps_after r t) e qs k
after r (OwnPost m t v k) = OwnPost m (temps_after r t) v k
after r (ServedPost m t v k) = ServedPost m (temps_after r t) v k

-- the values of these arguments, if all of them are values
abbrev pub values_of : Expressions → Option (List Value)
values_of NoArgs = Some []
values_of (Arg (Literal v p) es) = option_map (λ vs. v ∷ vs) (values_of es)
values_of _ = None

abbrev pub choices_of : Alternatives → Option (List Choice)
choices_of NoAlts = Some []
choices_of (Alt (Literal v p) names ss alts) = option_map (λ cs. record { guard = v; answer = names; work = ss } ∷ cs) (choices_of alts)
choices_of _ = None

-- the redex that an expression is by itself: inside it are only values
abbrev pub expression_as_redex : Expression → Option Reducible
expression_as_redex (Me p) = Some OwnName
expression_as_redex (Variable x p) = Some (Read x)
expression_as_redex (Create c p) = Some (Make c)
expression_as_redex (Prefix op (Literal v p) q) = Some (Unary op v)
expression_as_redex (Infix op (Literal v p) (Literal w q) o) = Some (Binary op v w)
expression_as_redex (Call m es p) = option_map (Invoke m) (values_of es)
expression_as_redex (Send (Literal v p) m es q) = option_map (SynchronousSend v m) (values_of es)
expression_as_redex (Frame m t Done (Literal v p) Done) = Some (Leave v)
expression_as_redex (Wait b m) = Some (Waiting b m)
expression_as_redex _ = None

-- the redex that a statement is by itself
abbrev pub statement_as_redex : Statement → Option Reducible
statement_as_redex (Assign x p (Literal v q)) = Some (Set x v)
statement_as_redex (Write (Literal v p)) = Some (Print (I.Value v))
statement_as_redex (WriteText s) = Some (Print (I.Text (record { 0 = s })))
statement_as_redex (Do (Literal v p)) = Some (Drop v)
statement_as_redex (Async (Literal v p) m q es) = option_map (Post v m) (values_of es)
statement_as_redex (If (Literal v p) these those) = Some (Branch v these those)
statement_as_redex (While e ss) = Some (Loop e ss)
statement_as_redex (Answer names) = Some (Accept names)
statement_as_redex (Select alts) = option_map Choose (choices_of alts)
statement_as_redex (Serve m None t Done (Literal v p) Done) = Some (Finish None v Done)
statement_as_redex (Serve m (Some c) t Done (Literal v p) Done) = Some (Finish (Some c) v Done)
statement_as_redex (Serve m (Some c) t Done (Literal v p) (Then s qs)) =
    Some (Finish (Some c) v (Then (Serve m None t Done (Literal v p) (Then s qs)) Done))
statement_as_redex _ = None

-- the temps that belong to a redex, if those around it are t: at the end of a method they are the method's own
abbrev pub own_temps : Store → Expression → Store
own_temps t (Frame m u ss e qs) = u
own_temps t _ = t

abbrev pub own_temps_of : Store → Statement → Store
own_temps_of t (Serve m c u ss e qs) = u
own_temps_of t _ = t

-- the term is a context around a part that is the redex r, with the temps t
pub data Split (term : Statements) (r : Reducible) (t : Store) : Type 0 where
  AtExpression : (k : ExpressionContext) (e : Expression) → term ≡ around_expression k e → expression_as_redex e ≡ Some r
      → t ≡ own_temps (temps_at_expression k) e → Split term r t
  AtStatement : (k : StatementsContext) (s : Statement) → term ≡ around_statements k (Then s Done) → statement_as_redex s ≡ Some r
      → t ≡ own_temps_of (temps_at_statements k) s → Split term r t
