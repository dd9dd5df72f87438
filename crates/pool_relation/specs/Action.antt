-- The next action of an object, computed from the redex of its term.
use Rattle.std.specs.Prelude.{ℕ, ◌==◌, List, [], ◌∷◌, ◌++◌, length, Option, Some, None, is_some, true, false, if◌then◌else◌}
use Rattle.std.specs.List.{list_any}
use Rattle.run_types.specs.declared.types.Value.{Value}
use Rattle.run_types.specs.declared.types.Value.TheVariants as V
use Rattle.run_types.specs.declared.types.Item.{Item}
use Rattle.run_types.specs.declared.types.Error.{Error}
use Rattle.run_types.specs.declared.types.Error.TheVariants.{NilDestination, NilOperand, NoOpenGuard}
use Rattle.pool_syntax.specs.declared.tree.Named.{Named}
use Rattle.pool_syntax.specs.declared.tree.Var.{Var}
use Rattle.pool_syntax.specs.Terms as T
use Rattle.pool_syntax.specs.Classes.{class_of, named_method}
use Rattle.pool_syntax.specs.Terms.{Store, Expression, Statements, MethodTree, ClassTree, ProgramTree, append}
use Rattle.run_types.specs.Values.{Outcome, Gives, Fails, WrongSort, prefix_value, infix_value, is_nil, not_bool, is_true}
use Rattle.pool_relation.specs.Reducible as R
use Rattle.pool_relation.specs.Reducible.{Choice, Reducible, Found, Evaluated, At, Contractum, AsExpression, AsStatements, set_value, fill_statements, statements_redex}

-- an object: its class, its variables, and its term, which is the work that is left
pub record Object : Type 0 where
  pub class : ℕ
  pub vars : Store
  pub term : Statements
  -- the run-time error that the object has met, if any
  pub fault : Option Error

-- the next action of an object
pub data Action : Type 0 where
  Finished : Action
  -- a transition of this object alone, with its term and variables after it
  Local : (term : Statements) (vars : Store) → Action
  Fault : (error : Error) → Action
  New : (class : ℕ) → Action
  Send : (receiver method : ℕ) (args : List Value) → Action
  Async : (receiver method : ℕ) (args : List Value) → Action
  Write : (item : Item) → Action
  Answer : (names : List Named) → Action
  Select : (choices : List Choice) → Action
  Return : (caller : ℕ) (value : Value) → Action
  Waits : (receiver method : ℕ) → Action
  -- a value of a wrong sort, or a name that is not declared
  Stuck : Action

-- the value of the first variable of this name
abbrev pub value_of : Store → ℕ → Option Value
value_of [] x = None
value_of (b ∷ bs) x = if b.0 == x then Some b.1 else value_of bs x

-- the method, if it has n parameters
abbrev pub with_count : ℕ → Option MethodTree → Option MethodTree
with_count n None = None
with_count n (Some m) = if length m.params == n then Some m else None

-- the method of the class with this name, if it has n parameters
abbrev pub method_in : Option ClassTree → ℕ → ℕ → Option MethodTree
method_in None m n = None
method_in (Some k) m n = with_count n (named_method k.methods m)

-- the same, for the class of this name in the program
abbrev pub method_of : ProgramTree → ℕ → ℕ → ℕ → Option MethodTree
method_of p c m n = method_in (class_of p c) m n

-- these variables, each with the value nil
abbrev pub nil_store : List Var → Store
nil_store [] = []
nil_store (v ∷ vs) = (v.name.0, V.Nil) ∷ nil_store vs

-- the parameters with their values; a parameter without a value is nil
abbrev pub bind : List Var → List Value → Store
bind [] values = []
bind (v ∷ vs) [] = nil_store (v ∷ vs)
bind (v ∷ vs) (x ∷ xs) = (v.name.0, x) ∷ bind vs xs

-- the temps of a method that begins: its parameters with their values, and its locals as nil
abbrev pub temps_of : MethodTree → List Value → Store
temps_of m args = bind m.params args ++ nil_store m.locals

-- a value as an expression, at position 0
abbrev pub literal : Value → Expression
literal v = T.Literal v 0

-- a local transition that replaces the redex with this part
abbrev pub becomes : Object → Contractum → Action
becomes x part = Local (fill_statements x.term part) x.vars

-- a local transition that replaces the redex with a value
abbrev pub becomes_value : Object → Value → Action
becomes_value x v = becomes x (AsExpression (literal v))

-- the action for the outcome of an operator
abbrev pub on_outcome : Object → Outcome → Action
on_outcome x (Gives v) = becomes_value x v
on_outcome x (Fails e) = Fault e
on_outcome x WrongSort = Stuck

-- the read of a name: the value of the temp if there is one, otherwise that of the object's variable
abbrev pub read : Object → Option Value → Option Value → Action
read x (Some v) own = becomes_value x v
read x None (Some v) = becomes_value x v
read x None None = Stuck

-- an own call: the method under way replaces the redex
abbrev pub on_call : Object → List Value → Option MethodTree → Action
on_call x args None = Stuck
on_call x args (Some m) = becomes x (AsExpression (T.Frame m.name.name.0 (temps_of m args) m.body m.value m.post))

-- a send to the object that this value names
abbrev pub on_object : Value → (ℕ → Action) → Action
on_object (V.Ref b) go = go b
on_object V.Nil go = Fault NilDestination
on_object _ go = Stuck

-- an assignment: to the temp if the nearest method has one of this name, otherwise to the object's variable
abbrev pub on_assignment : Object → Store → ℕ → Value → Action
on_assignment x t n v =
    if is_some (value_of t n) then becomes x (AsStatements T.Done)
    else (if is_some (value_of x.vars n) then Local (fill_statements x.term (AsStatements T.Done)) (set_value x.vars n v) else Stuck)

-- the branch that the condition selects
abbrev pub on_branch : Object → Value → Statements → Statements → Action
on_branch x (V.Bool true) these those = becomes x (AsStatements these)
on_branch x (V.Bool false) these those = becomes x (AsStatements those)
on_branch x V.Nil these those = Fault NilOperand
on_branch x _ these those = Stuck

-- a select, by the values of its guards
abbrev pub on_select : List Choice → Action
on_select cs =
    if list_any (λ c. is_nil c.guard) cs then Fault NilOperand
    else (if list_any (λ c. not_bool c.guard) cs then Stuck
    else (if list_any (λ c. is_true c.guard) cs then Select cs else Fault NoOpenGuard))

-- the end of a served method: a return of the value if there is a caller, otherwise the work that is left
abbrev pub on_finish : Object → Option ℕ → Value → Statements → Action
on_finish x None v work = becomes x (AsStatements work)
on_finish x (Some k) v work = Return k v

-- the action of the object o at a redex, if the nearest method has the temps t
abbrev pub redex_action : ProgramTree → ℕ → Object → Store → Reducible → Action
redex_action p o x t R.OwnName = becomes_value x (V.Ref o)
redex_action p o x t (R.Read n) = read x (value_of t n) (value_of x.vars n)
redex_action p o x t (R.Make c) = if is_some (class_of p c) then New c else Stuck
redex_action p o x t (R.Unary op v) = on_outcome x (prefix_value op v)
redex_action p o x t (R.Binary op v w) = on_outcome x (infix_value op v w)
redex_action p o x t (R.Invoke m args) = on_call x args (method_of p x.class m (length args))
redex_action p o x t (R.SynchronousSend v m args) = on_object v (λ b. Send b m args)
redex_action p o x t (R.Leave v) = becomes_value x v
redex_action p o x t (R.Waiting b m) = Waits b m
redex_action p o x t (R.Set n v) = on_assignment x t n v
redex_action p o x t (R.Print item) = Write item
redex_action p o x t (R.Drop v) = becomes x (AsStatements T.Done)
redex_action p o x t (R.Post v m args) = on_object v (λ b. Async b m args)
redex_action p o x t (R.Branch v these those) = on_branch x v these those
redex_action p o x t (R.Loop e ss) =
    becomes x (AsStatements (T.Then (T.If e (append ss (T.Then (T.While e ss) T.Done)) T.Done) T.Done))
redex_action p o x t (R.Accept names) = Answer names
redex_action p o x t (R.Choose choices) = on_select choices
redex_action p o x t (R.Finish caller v work) = on_finish x caller v work

-- the action of the object o, from the result of the search for its redex
abbrev pub found_action : ProgramTree → ℕ → Object → Found (Unit {0}) → Action
found_action p o x (Evaluated done) = Finished
found_action p o x (At r t) = redex_action p o x t r

-- the next action of the object o
abbrev pub action : ProgramTree → ℕ → Object → Action
action p o x = found_action p o x (statements_redex [] x.term)
