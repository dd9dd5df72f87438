-- The type system of the language: the class faults of a program, each with its token and its number. A program
-- without faults is well typed.
use Rattle.std.specs.Prelude.{ℕ, zero, suc, ◌+◌, ◌==◌, List, [], ◌∷◌, ◌++◌, length, Option, Some, None, is_some, is_none, Bool, true, false, not, ◌||◌, if◌then◌else◌, nat_le}
use Rattle.std.specs.List.{list_any}
use Rattle.run_types.specs.declared.types.Value.{Value}
use Rattle.run_types.specs.declared.types.Value.TheVariants as V
use Rattle.run_types.specs.declared.types.Op.{Op}
use Rattle.run_types.specs.declared.types.Op.TheVariants as O
use Rattle.run_types.specs.declared.types.Kind.{Kind}
use Rattle.run_types.specs.declared.types.Kind.TheVariants as K
use Rattle.pool_syntax.specs.declared.tree.Named.{Named}
use Rattle.pool_syntax.specs.declared.tree.Var.{Var}
use Rattle.pool_syntax.specs.Terms.{Expression, Literal, Me, Variable, Create, Prefix, Infix, Call, Send, Frame, Wait, Expressions, NoArgs, Arg, Statement, Assign, Write, WriteText, Do, Async, If}
use Rattle.pool_syntax.specs.Terms.{While, Answer, Select, Serve, Statements, Done, Then, Alternatives, NoAlts, Alt, MethodTree, ClassTree, ProgramTree}
use Rattle.pool_syntax.specs.Classes.{class_of, named_method}
use Rattle.pool_syntax.specs.FaultNumbers as N
use Rattle.pool_syntax.specs.Limits as L
use Rattle.run_types.specs.Sorts.{Sort, IntSort, BoolSort, ClassSort, NilSort, NoSort, BrokenSort, op_sort, operand_sort, is_same_sort}

-- a token and the number of its fault
abbrev pub FaultAt : Type 0
FaultAt = ℕ × ℕ

-- the scope of an expression: the program, its class, the parameters and locals of its method, and the classes of the
-- objects that exist
pub record Scope : Type 0 where
  pub program : ProgramTree
  pub class : ℕ
  -- the declaration of its class; own calls, variables and answer lists are looked up there, even if an earlier class
  -- has its name
  pub own : Option ClassTree
  pub temps : List Var
  pub object_class : ℕ → Option ℕ
  -- whether it is a term of an object, in which a destination may have become nil
  pub under_way : Bool
  -- the number of operands held when an outermost expression begins: one in post statements, the method's value
  pub held : ℕ

-- the sort of a declared type; broken if its class does not exist
abbrev pub kind_sort : ProgramTree → Kind → Sort
kind_sort p K.Int = IntSort
kind_sort p K.Bool = BoolSort
kind_sort p (K.Class c) = if is_some (class_of p c.0) then ClassSort c.0 else BrokenSort

-- the first variable of this name
abbrev pub var_of : List Var → ℕ → Option Var
var_of [] x = None
var_of (v ∷ vs) x = if v.name.0 == x then Some v else var_of vs x

-- the variables of a class
abbrev pub vars_of_class : Option ClassTree → List Var
vars_of_class None = []
vars_of_class (Some k) = k.vars

-- the methods of a class
abbrev pub methods_of_class : Option ClassTree → List MethodTree
methods_of_class None = []
methods_of_class (Some k) = k.methods

-- the methods of the class with this name
abbrev pub methods_of : ProgramTree → ℕ → List MethodTree
methods_of p c = methods_of_class (class_of p c)

-- the sort of a parameter or local if there is one, and otherwise of a variable
abbrev pub var_sort : ProgramTree → Option Var → Option Var → Sort
var_sort p (Some v) own = kind_sort p v.kind
var_sort p None (Some v) = kind_sort p v.kind
var_sort p None None = BrokenSort

-- the sort of a name in a scope
abbrev pub name_sort : Scope → ℕ → Sort
name_sort g x = var_sort g.program (var_of g.temps x) (var_of (vars_of_class g.own) x)

-- the sort of a result
abbrev pub outcome_sort : ProgramTree → Option Kind → Sort
outcome_sort p None = NoSort
outcome_sort p (Some k) = kind_sort p k

-- the sort of a call of the method
abbrev pub method_sort : ProgramTree → Option MethodTree → Sort
method_sort p None = BrokenSort
method_sort p (Some m) = outcome_sort p m.outcome

-- the sort of a call of an own method
abbrev pub own_sort : Scope → ℕ → Sort
own_sort g m = method_sort g.program (named_method (methods_of_class g.own) m)

-- the sort of a call of this method in a class
abbrev pub call_sort : ProgramTree → ℕ → ℕ → Sort
call_sort p c m = method_sort p (named_method (methods_of p c) m)

-- the sort of a send to a destination of this sort
abbrev pub send_sort : ProgramTree → Sort → ℕ → Sort
send_sort p (ClassSort c) m = call_sort p c m
send_sort p _ m = BrokenSort

-- the sort of an object of this class; broken without a class
abbrev pub object_sort : Option ℕ → Sort
object_sort None = BrokenSort
object_sort (Some c) = ClassSort c

-- the sort of a value
abbrev pub value_sort : Scope → Value → Sort
value_sort g (V.Int z) = IntSort
value_sort g (V.Bool b) = BoolSort
value_sort g (V.Ref n) = object_sort (g.object_class n)
value_sort g V.Nil = NilSort

-- whether a value is the name of no existing object
abbrev pub is_dangling : Scope → Value → Bool
is_dangling g (V.Ref n) = is_none (g.object_class n)
is_dangling g _ = false

-- the sort of an expression, even if it has faults
abbrev pub sort_of : Scope → Expression → Sort
sort_of g (Literal v p) = value_sort g v
sort_of g (Me p) = ClassSort g.class
sort_of g (Variable x p) = name_sort g x
sort_of g (Create c p) = if is_some (class_of g.program c) then ClassSort c else BrokenSort
sort_of g (Prefix op e p) = op_sort op
sort_of g (Infix op l r p) = op_sort op
sort_of g (Call m es p) = own_sort g m
sort_of g (Send e m es p) = send_sort g.program (sort_of g e) m
sort_of g (Frame m t ss e qs) = own_sort g m
sort_of g (Wait b m) = send_sort g.program (object_sort (g.object_class b)) m

-- the token of an expression
abbrev pub position : Expression → ℕ
position (Literal v p) = p
position (Me p) = p
position (Variable x p) = p
position (Create c p) = p
position (Prefix op e p) = p
position (Infix op l r p) = p
position (Call m es p) = p
position (Send e m es p) = p
position (Frame m t ss e qs) = 0
position (Wait b m) = 0

-- whether a sort fits every kind
abbrev pub is_open : Sort → Bool
is_open NilSort = true
is_open BrokenSort = true
is_open _ = false

-- the sort that the enclosing expression sees; an expression without a result has its own fault, and counts as broken
abbrev pub counted : Sort → Sort
counted NoSort = BrokenSort
counted s = s

-- the fault, if the test holds
abbrev pub fault_if : Bool → ℕ → ℕ → List FaultAt
fault_if true at number = (at, number) ∷ []
fault_if false at number = []

-- the fault of an expression without a result where a value is needed
abbrev pub no_result_faults : Sort → ℕ → List FaultAt
no_result_faults NoSort at = (at, N.no_result) ∷ []
no_result_faults _ at = []

-- the faults of an expression of sort s where the sort `need` is required
abbrev pub misfit : Sort → Sort → ℕ → List FaultAt
misfit s need at = no_result_faults s at ++ fault_if (not (is_open (counted s) || is_same_sort s need || is_broken need)) at N.type_differs
  where
    is_broken : Sort → Bool
    is_broken BrokenSort = true
    is_broken _ = false

-- whether a name is no parameter, local or variable
abbrev pub is_broken_name : Scope → ℕ → Bool
is_broken_name g x = not (is_some (var_of g.temps x) || is_some (var_of (vars_of_class g.own) x))

-- the faults of an expression where this sort is required
abbrev pub needs : Scope → Sort → Expression → List FaultAt
needs g need e = misfit (sort_of g e) need (position e)

-- the faults of an expression where a value of any sort is required
abbrev pub needs_any : Scope → Expression → List FaultAt
needs_any g e = no_result_faults (sort_of g e) (position e)

-- whether two sorts can be compared
abbrev pub is_comparable : Sort → Sort → Bool
is_comparable s t = is_same_sort s t || is_open s || is_open t

-- the faults of the operands of `==` and `!=`
abbrev pub needs_alike : Scope → Expression → Expression → List FaultAt
needs_alike g l r =
    needs_any g l ++ (needs_any g r ++ fault_if (not (is_comparable (counted (sort_of g l)) (counted (sort_of g r)))) (position r) N.type_differs)

-- the faults of the operands of an infix operator
abbrev pub needs_operands : Scope → Op → Expression → Expression → List FaultAt
needs_operands g O.Same l r = needs_alike g l r
needs_operands g O.Differs l r = needs_alike g l r
needs_operands g op l r = needs g (operand_sort op) l ++ needs g (operand_sort op) r

-- the fault of an expression that begins with 64 operands held, or more
abbrev pub limit_faults : ℕ → ℕ → List FaultAt
limit_faults held at = fault_if (nat_le L.most_operands held) at N.limit

-- the faults of a call of this method with this number of arguments
abbrev pub method_faults : Option MethodTree → ℕ → ℕ → List FaultAt
method_faults None count at = (at, N.unknown_method) ∷ []
method_faults (Some m) count at = fault_if (not (length m.params == count)) at N.argument_count

-- the parameters of a method
abbrev pub params_of : Option MethodTree → List Var
params_of None = []
params_of (Some m) = m.params

-- the number of expressions
abbrev pub size : Expressions → ℕ
size NoArgs = 0
size (Arg e es) = suc (size es)

-- the method of a destination; a destination that is broken or nil has none
abbrev pub sent_method : Scope → Sort → ℕ → Option MethodTree
sent_method g (ClassSort c) m = named_method (methods_of g.program c) m
sent_method g _ m = None

-- the faults of a send by the sort of its destination
abbrev pub destination_faults : Scope → Sort → ℕ → ℕ → ℕ → ℕ → List FaultAt
destination_faults g (ClassSort c) m count at to = method_faults (named_method (methods_of g.program c) m) count at
destination_faults g BrokenSort m count at to = []
destination_faults g NoSort m count at to = (to, N.no_result) ∷ []
destination_faults g NilSort m count at to = fault_if (not g.under_way) to N.type_differs
destination_faults g _ m count at to = (to, N.type_differs) ∷ []

-- the method with this name in the own class
abbrev pub own_method : Scope → ℕ → Option MethodTree
own_method g m = named_method (methods_of_class g.own) m

-- the parameters and locals of a method
abbrev pub temps_of_method : Option MethodTree → List Var
temps_of_method None = []
temps_of_method (Some m) = m.params ++ m.locals

-- the scope inside a method of the class
abbrev pub inside : Scope → ℕ → Scope
inside g m = record g { temps = temps_of_method (own_method g m); held = 0 }

-- the scope of post statements, in which the value of the method is held
abbrev pub behind_value : Scope → Scope
behind_value g = record g { held = 1 }

-- the faults of a method's value against its result; a method without a result has none
abbrev pub value_needs : Scope → Option MethodTree → Expression → List FaultAt
value_needs g None e = (position e, N.unknown_method) ∷ []
value_needs g (Some m) e = value_fits m.outcome
  where
    value_fits : Option Kind → List FaultAt
    value_fits None = []
    value_fits (Some k) = needs g (kind_sort g.program k) e

-- the faults of an answer list, whose names follow these
abbrev pub names_faults : Scope → List ℕ → List Named → List FaultAt
names_faults g before [] = []
names_faults g before (n ∷ ns) =
    fault_if (not (is_some (own_method g n.name.0)) || list_any (λ m. m == n.name.0) before) n.pos N.answer_name
    ++ names_faults g (n.name.0 ∷ before) ns

-- the faults of an alternative's list, if it answers
abbrev pub answer_faults : Scope → Option (List Named) → List FaultAt
answer_faults g None = []
answer_faults g (Some names) = names_faults g [] names

-- the faults in an expression that begins with h operands held, without the faults against what its place requires
abbrev mutual
  pub expression_faults : Scope → ℕ → Expression → List FaultAt
  expression_faults g h (Literal v p) = limit_faults h p ++ fault_if (is_dangling g v) p N.unknown_class
  expression_faults g h (Me p) = limit_faults h p
  expression_faults g h (Variable x p) = limit_faults h p ++ fault_if (is_broken_name g x) p N.unknown_variable
  expression_faults g h (Create c p) = limit_faults h p ++ fault_if (not (is_some (class_of g.program c))) p N.unknown_class
  expression_faults g h (Prefix op e p) = limit_faults h p ++ (expression_faults g h e ++ needs g (operand_sort op) e)
  expression_faults g h (Infix op l r p) =
      limit_faults h p ++ (expression_faults g h l ++ (expression_faults g (h + 1) r ++ needs_operands g op l r))
  expression_faults g h (Call m es p) =
      limit_faults h p ++ (method_faults (own_method g m) (size es) p ++ arguments_faults g h (params_of (own_method g m)) es)
  expression_faults g h (Send e m es p) =
      limit_faults h p ++ (expression_faults g h e ++ (destination_faults g (sort_of g e) m (size es) p (position e)
      ++ arguments_faults g (h + 1) (params_of (sent_method g (sort_of g e) m)) es))
  expression_faults g h (Frame m t ss e qs) =
      statements_faults (inside g m) ss ++ (expression_faults (inside g m) 0 e ++ (value_needs (inside g m) (own_method g m) e
      ++ statements_faults (behind_value (inside g m)) qs))
  expression_faults g h (Wait b m) = []

  pub arguments_faults : Scope → ℕ → List Var → Expressions → List FaultAt
  arguments_faults g h vs NoArgs = []
  arguments_faults g h [] (Arg e es) = expression_faults g h e ++ (needs_any g e ++ arguments_faults g (h + 1) [] es)
  arguments_faults g h (v ∷ vs) (Arg e es) =
      expression_faults g h e ++ (needs g (kind_sort g.program v.kind) e ++ arguments_faults g (h + 1) vs es)

  pub statement_faults : Scope → Statement → List FaultAt
  statement_faults g (Assign x p e) =
      fault_if (is_broken_name g x) p N.unknown_variable ++ (expression_faults g g.held e ++ needs g (name_sort g x) e)
  statement_faults g (Write e) = expression_faults g g.held e ++ needs_any g e
  statement_faults g (WriteText s) = []
  statement_faults g (Do e) = expression_faults g g.held e
  statement_faults g (Async e m p es) =
      expression_faults g g.held e ++ (destination_faults g (sort_of g e) m (size es) p (position e)
      ++ arguments_faults g (g.held + 1) (params_of (sent_method g (sort_of g e) m)) es)
  statement_faults g (If e these those) =
      expression_faults g g.held e ++ (needs g BoolSort e ++ (statements_faults g these ++ statements_faults g those))
  statement_faults g (While e ss) = expression_faults g g.held e ++ (needs g BoolSort e ++ statements_faults g ss)
  statement_faults g (Answer names) = names_faults g [] names
  statement_faults g (Select alts) = alternatives_faults g g.held alts
  statement_faults g (Serve m k t ss e qs) =
      statements_faults (inside g m) ss ++ (expression_faults (inside g m) 0 e ++ (value_needs (inside g m) (own_method g m) e
      ++ statements_faults (behind_value (inside g m)) qs))

  pub statements_faults : Scope → Statements → List FaultAt
  statements_faults g Done = []
  statements_faults g (Then s ss) = statement_faults g s ++ statements_faults g ss

  pub alternatives_faults : Scope → ℕ → Alternatives → List FaultAt
  alternatives_faults g i NoAlts = []
  alternatives_faults g i (Alt e names ss alts) =
      expression_faults g i e ++ (needs g BoolSort e ++ (answer_faults g names ++ (statements_faults g ss ++ alternatives_faults g (i + 1) alts)))

-- the fault of a declared type whose class does not exist
abbrev pub kind_faults : ProgramTree → Kind → ℕ → List FaultAt
kind_faults p K.Int at = []
kind_faults p K.Bool at = []
kind_faults p (K.Class c) at = fault_if (not (is_some (class_of p c.0))) at N.unknown_class

-- whether a name is among these
abbrev pub contains : List ℕ → ℕ → Bool
contains names n = list_any (λ m. m == n) names

-- the faults of variables that follow these names: a name that is there already has the fault with this number
abbrev pub vars_faults : ProgramTree → ℕ → List ℕ → List Var → List FaultAt
vars_faults p number before [] = []
vars_faults p number before (v ∷ vs) =
    fault_if (contains before v.name.0) v.pos number ++ (kind_faults p v.kind v.kind_pos
    ++ vars_faults p number (v.name.0 ∷ before) vs)

-- the fault of the variable at the index n of the list, if there is one
abbrev pub too_many : ℕ → List Var → List FaultAt
too_many n [] = []
too_many zero (v ∷ vs) = (v.pos, N.limit) ∷ []
too_many (suc n) (v ∷ vs) = too_many n vs

-- the fault of a result's kind
abbrev pub outcome_faults : ProgramTree → Option Kind → ℕ → List FaultAt
outcome_faults p None at = []
outcome_faults p (Some k) at = kind_faults p k at

-- the scope of the statements of a method of the class
abbrev pub method_scope : Scope → MethodTree → Scope
method_scope g m = record g { temps = m.params ++ m.locals }

-- the faults of a method
abbrev pub method_tree_faults : Scope → MethodTree → List FaultAt
method_tree_faults g m =
    vars_faults g.program N.local_twice [] (m.params ++ m.locals) ++ (too_many L.most_params m.params ++ (too_many L.most_locals (m.params ++ m.locals)
    ++ (outcome_faults g.program m.outcome m.outcome_pos
    ++ (statements_faults (method_scope g m) m.body ++ (expression_faults (method_scope g m) 0 m.value
    ++ (value_needs (method_scope g m) (Some m) m.value ++ statements_faults (behind_value (method_scope g m)) m.post))))))

-- the faults of methods that follow methods with these names
abbrev pub methods_faults : Scope → List ℕ → List MethodTree → List FaultAt
methods_faults g before [] = []
methods_faults g before (m ∷ ms) =
    fault_if (contains before m.name.name.0) m.name.pos N.method_twice ++ (fault_if (length before == L.most_methods) m.name.pos N.limit
    ++ (method_tree_faults g m ++ methods_faults g (m.name.name.0 ∷ before) ms))

-- the scope of the body of a class
abbrev pub class_scope : ProgramTree → ClassTree → Scope
class_scope p k = record { program = p; class = k.name.name.0; own = Some k; temps = []; object_class = λ n. None; under_way = false; held = 0 }

-- the faults of classes that follow classes with these names
abbrev pub classes_faults : ProgramTree → List ℕ → List ClassTree → List FaultAt
classes_faults p before [] = []
classes_faults p before (k ∷ ks) =
    fault_if (contains before k.name.name.0) k.name.pos N.class_twice ++ (fault_if (length before == L.most_classes) k.name.pos N.limit
    ++ (vars_faults p N.variable_twice [] k.vars ++ (too_many L.most_variables k.vars ++ (methods_faults (class_scope p k) [] k.methods
    ++ (statements_faults (class_scope p k) k.body ++ classes_faults p (k.name.name.0 ∷ before) ks)))))

-- the faults of a program
abbrev pub faults : ProgramTree → List FaultAt
faults p = classes_faults p [] p
