-- The redex of a term, and the term after another part has replaced its redex. The redex is the first part, from left
-- to right, that is no value and has only values inside. It is the redex of an evaluation context in the sense of
-- Felleisen and Hieb.
use Rattle.std.specs.Prelude.{ℕ, List, [], ◌∷◌, ◌==◌, ◌&&◌, Option, Some, None, Bool, true, false, if◌then◌else◌}
use Rattle.run_types.specs.declared.types.Value.{Value}
use Rattle.run_types.specs.declared.types.Op.{Op}
use Rattle.run_types.specs.declared.types.Item.{Item}
use Rattle.run_types.specs.declared.types.Item.TheVariants as I
use Rattle.pool_syntax.specs.declared.tree.Named.{Named}
use Rattle.pool_syntax.specs.Terms.{Store, Expression, Literal, Me, Variable, Create, Prefix, Infix, Call, Send, Frame, Wait, Expressions, NoArgs, Arg, Statement, Assign, Write, WriteText, Do, Async}
use Rattle.pool_syntax.specs.Terms.{If, While, Answer, Select, Serve, Statements, Done, Then, Alternatives, NoAlts, Alt, append}

-- an alternative with the value of its guard; answer is the list of names, or None if the alternative is plain
pub record Choice : Type 0 where
  pub guard : Value
  pub answer : Option (List Named)
  pub work : Statements

-- a redex: a part that is no value and has only values inside
pub data Reducible : Type 0 where
  OwnName : Reducible
  Read : (name : ℕ) → Reducible
  Make : (class : ℕ) → Reducible
  Unary : (op : Op) (arg : Value) → Reducible
  Binary : (op : Op) (left right : Value) → Reducible
  Invoke : (method : ℕ) (args : List Value) → Reducible
  SynchronousSend : (to : Value) (method : ℕ) (args : List Value) → Reducible
  -- an own method that has ended, with its value
  Leave : (value : Value) → Reducible
  Waiting : (receiver method : ℕ) → Reducible
  Set : (target : ℕ) (value : Value) → Reducible
  Print : (item : Item) → Reducible
  Drop : (value : Value) → Reducible
  Post : (to : Value) (method : ℕ) (args : List Value) → Reducible
  Branch : (cond : Value) (yes no : Statements) → Reducible
  Loop : (cond : Expression) (body : Statements) → Reducible
  Accept : (names : List Named) → Reducible
  Choose : (choices : List Choice) → Reducible
  -- a served method that has ended, with its value, and the work that is left of it after the value is returned
  Finish : (caller : Option ℕ) (value : Value) (work : Statements) → Reducible

-- the value of a part without redex, or the redex with the temps of the nearest method under way
pub data Found (A : Type 0) : Type 0 where
  Evaluated : (value : A) → Found A
  At : (redex : Reducible) (temps : Store) → Found A

-- continues with the value, or stops at the redex
abbrev pub and_then : {A B : Type 0} → Found A → (A → Found B) → Found B
and_then (Evaluated a) next = next a
and_then (At r t) next = At r t

-- the search of the post statements; they come next only if the method serves no caller
abbrev pub in_post : Option ℕ → Found (Unit {0}) → Found (Unit {0})
in_post None found = found
in_post (Some k) found = Evaluated tt

-- the rest of a served method after its value is returned: its post statements, served for no one
abbrev pub left_served : Option ℕ → ℕ → Store → Statements → Expression → Statements → Statements
left_served (Some k) m t ss e (Then s qs) = Then (Serve m None t ss e (Then s qs)) Done
left_served _ m t ss e qs = Done

-- the redex of each kind of part, sought from left to right under the temps t
abbrev mutual
  pub expression_redex : Store → Expression → Found Value
  expression_redex t (Literal v p) = Evaluated v
  expression_redex t (Me p) = At OwnName t
  expression_redex t (Variable x p) = At (Read x) t
  expression_redex t (Create c p) = At (Make c) t
  expression_redex t (Prefix op e p) = and_then (expression_redex t e) (λ v. At (Unary op v) t)
  expression_redex t (Infix op l r p) =
      and_then (expression_redex t l) (λ v. and_then (expression_redex t r) (λ w. At (Binary op v w) t))
  expression_redex t (Call m es p) = and_then (expressions_redex t es) (λ vs. At (Invoke m vs) t)
  expression_redex t (Send e m es p) =
      and_then (expression_redex t e) (λ v. and_then (expressions_redex t es) (λ vs. At (SynchronousSend v m vs) t))
  expression_redex t (Frame m u ss e qs) =
      and_then (statements_redex u ss)
      (λ done. and_then (expression_redex u e) (λ v. and_then (in_post None (statements_redex u qs)) (λ over. At (Leave v) u)))
  expression_redex t (Wait b m) = At (Waiting b m) t

  pub expressions_redex : Store → Expressions → Found (List Value)
  expressions_redex t NoArgs = Evaluated []
  expressions_redex t (Arg e es) =
      and_then (expression_redex t e) (λ v. and_then (expressions_redex t es) (λ vs. Evaluated (v ∷ vs)))

  pub statement_redex : Store → Statement → Found (Unit {0})
  statement_redex t (Assign x p e) = and_then (expression_redex t e) (λ v. At (Set x v) t)
  statement_redex t (Write e) = and_then (expression_redex t e) (λ v. At (Print (I.Value v)) t)
  statement_redex t (WriteText s) = At (Print (I.Text (record { 0 = s }))) t
  statement_redex t (Do e) = and_then (expression_redex t e) (λ v. At (Drop v) t)
  statement_redex t (Async e m p es) =
      and_then (expression_redex t e) (λ v. and_then (expressions_redex t es) (λ vs. At (Post v m vs) t))
  statement_redex t (If e these those) = and_then (expression_redex t e) (λ v. At (Branch v these those) t)
  statement_redex t (While e ss) = At (Loop e ss) t
  statement_redex t (Answer names) = At (Accept names) t
  statement_redex t (Select alts) = and_then (guards_redex t alts) (λ choices. At (Choose choices) t)
  statement_redex t (Serve m k u ss e qs) =
      and_then (statements_redex u ss)
      (λ done. and_then (expression_redex u e)
      (λ v. and_then (in_post k (statements_redex u qs)) (λ over. At (Finish k v (left_served k m u ss e qs)) u)))

  -- only the first statement of a list can have a redex
  pub statements_redex : Store → Statements → Found (Unit {0})
  statements_redex t Done = Evaluated tt
  statements_redex t (Then s ss) = statement_redex t s

  pub guards_redex : Store → Alternatives → Found (List Choice)
  guards_redex t NoAlts = Evaluated []
  guards_redex t (Alt e names ss alts) =
      and_then (expression_redex t e)
      (λ v. and_then (guards_redex t alts) (λ cs. Evaluated (record { guard = v; answer = names; work = ss } ∷ cs)))

-- whether an expression is a value
abbrev pub is_value : Expression → Bool
is_value (Literal v p) = true
is_value _ = false

-- whether all of these are values
abbrev pub are_values : Expressions → Bool
are_values NoArgs = true
are_values (Arg e es) = is_value e && are_values es

-- whether all guards are values
abbrev pub guards_are_values : Alternatives → Bool
guards_are_values NoAlts = true
guards_are_values (Alt e names ss alts) = is_value e && guards_are_values alts

-- whether no statement is left
abbrev pub is_done : Statements → Bool
is_done Done = true
is_done (Then s ss) = false

-- whether no post statement comes next
abbrev pub is_over : Option ℕ → Statements → Bool
is_over None qs = is_done qs
is_over (Some k) qs = true

-- the part that replaces a redex
pub data Contractum : Type 0 where
  AsExpression : (e : Expression) → Contractum
  AsStatements : (ss : Statements) → Contractum

-- the part as an expression; otherwise the old expression
abbrev pub as_expression : Contractum → Expression → Expression
as_expression (AsExpression e) old = e
as_expression (AsStatements ss) old = old

-- the part as statements; otherwise the old statement alone
abbrev pub as_statements : Contractum → Statement → Statements
as_statements (AsExpression e) old = Then old Done
as_statements (AsStatements ss) old = ss

-- the variables, in which the first of this name has the new value; without that name they are unchanged
abbrev pub set_value : Store → ℕ → Value → Store
set_value [] x v = []
set_value (b ∷ bs) x v = if b.0 == x then (x, v) ∷ bs else b ∷ set_value bs x v

-- the temps of a method under way, set if the next statement is an assignment of a value
abbrev pub assigned : Statements → Store → Store
assigned (Then (Assign x p (Literal v q)) ss) t = set_value t x v
assigned _ t = t

-- each kind of part, in which x replaces the redex
abbrev mutual
  pub fill_expression : Expression → Contractum → Expression
  fill_expression (Literal v p) x = Literal v p
  fill_expression (Me p) x = as_expression x (Me p)
  fill_expression (Variable n p) x = as_expression x (Variable n p)
  fill_expression (Create c p) x = as_expression x (Create c p)
  fill_expression (Prefix op e p) x =
      if is_value e then as_expression x (Prefix op e p) else Prefix op (fill_expression e x) p
  fill_expression (Infix op l r p) x =
      if is_value l then (if is_value r then as_expression x (Infix op l r p) else Infix op l (fill_expression r x) p)
      else Infix op (fill_expression l x) r p
  fill_expression (Call m es p) x =
      if are_values es then as_expression x (Call m es p) else Call m (fill_expressions es x) p
  fill_expression (Send e m es p) x =
      if is_value e then (if are_values es then as_expression x (Send e m es p) else Send e m (fill_expressions es x) p)
      else Send (fill_expression e x) m es p
  fill_expression (Frame m t ss e qs) x =
      if is_done ss
      then (if is_value e
      then (if is_over None qs then as_expression x (Frame m t ss e qs) else Frame m (assigned qs t) ss e (fill_statements qs x))
      else Frame m t ss (fill_expression e x) qs)
      else Frame m (assigned ss t) (fill_statements ss x) e qs
  fill_expression (Wait b m) x = as_expression x (Wait b m)

  pub fill_expressions : Expressions → Contractum → Expressions
  fill_expressions NoArgs x = NoArgs
  fill_expressions (Arg e es) x = if is_value e then Arg e (fill_expressions es x) else Arg (fill_expression e x) es

  pub fill_statement : Statement → Contractum → Statements
  fill_statement (Assign n p e) x =
      if is_value e then as_statements x (Assign n p e) else Then (Assign n p (fill_expression e x)) Done
  fill_statement (Write e) x = if is_value e then as_statements x (Write e) else Then (Write (fill_expression e x)) Done
  fill_statement (WriteText s) x = as_statements x (WriteText s)
  fill_statement (Do e) x = if is_value e then as_statements x (Do e) else Then (Do (fill_expression e x)) Done
  fill_statement (Async e m p es) x =
      if is_value e
      then (if are_values es then as_statements x (Async e m p es) else Then (Async e m p (fill_expressions es x)) Done)
      else Then (Async (fill_expression e x) m p es) Done
  fill_statement (If e these those) x =
      if is_value e then as_statements x (If e these those) else Then (If (fill_expression e x) these those) Done
  fill_statement (While e ss) x = as_statements x (While e ss)
  fill_statement (Answer names) x = as_statements x (Answer names)
  fill_statement (Select alts) x =
      if guards_are_values alts then as_statements x (Select alts) else Then (Select (fill_guards alts x)) Done
  fill_statement (Serve m k t ss e qs) x =
      if is_done ss
      then (if is_value e
      then (if is_over k qs then as_statements x (Serve m k t ss e qs) else Then (Serve m k (assigned qs t) ss e (fill_statements qs x)) Done)
      else Then (Serve m k t ss (fill_expression e x) qs) Done)
      else Then (Serve m k (assigned ss t) (fill_statements ss x) e qs) Done

  pub fill_statements : Statements → Contractum → Statements
  fill_statements Done x = Done
  fill_statements (Then s ss) x = append (fill_statement s x) ss

  pub fill_guards : Alternatives → Contractum → Alternatives
  fill_guards NoAlts x = NoAlts
  fill_guards (Alt e names ss alts) x =
      if is_value e then Alt e names ss (fill_guards alts x) else Alt (fill_expression e x) names ss alts
