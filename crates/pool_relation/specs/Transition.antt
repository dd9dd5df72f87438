-- The transition relation of POOL: a label that is possible in a configuration determines the configuration after it.
-- Its source is America, de Bakker, Kok and Rutten, "Operational semantics of a parallel object-oriented language"
-- (POPL 1986); the asynchronous sends are those of America's POOL2.
use Rattle.std.specs.Prelude.{ℕ, zero, suc, ◌==◌, List, [], ◌∷◌, ◌++◌, length, Option, Some, None, is_some, is_none, Bool, false, not, ◌&&◌, ◌||◌, if◌then◌else◌, slice_get}
use Rattle.std.specs.List.{list_any}
use Rattle.run_types.specs.declared.types.Value.{Value}
use Rattle.run_types.specs.declared.types.Value.TheVariants as V
use Rattle.run_types.specs.declared.types.Item.{Item}
use Rattle.run_types.specs.declared.types.Error.{Error}
use Rattle.run_types.specs.declared.types.Label.{Label}
use Rattle.run_types.specs.declared.types.Label.TheVariants as L
use Rattle.pool_syntax.specs.declared.tree.Named.{Named}
use Rattle.pool_syntax.specs.Terms as T
use Rattle.pool_syntax.specs.Terms.{Expression, Statements, MethodTree, ClassTree, ProgramTree, append}
use Rattle.run_types.specs.Values.{is_same, is_true}
use Rattle.pool_relation.specs.Reducible.{Choice, Found, At, Finish, Contractum, AsExpression, AsStatements, statements_redex, fill_statements}
use Rattle.pool_relation.specs.Action as A
use Rattle.pool_syntax.specs.Classes.{class_of}
use Rattle.pool_relation.specs.Action.{Object, Action, method_of, nil_store, temps_of, literal, action}
use Rattle.run_types.specs.Message.{Message}
use Rattle.run_types.specs.Partial.{◌>>=◌, ◌>>◌, require}
use Rattle.run_types.specs.Same.{are_same, is_same_item, error_number}
use Rattle.pool_relation.specs.Configuration.{Configuration, object_of, put_object, messages_of, put_messages}

-- the object, if this error is None
abbrev pub without_fault : Object → Option Error → Option Object
without_fault x None = Some x
without_fault x (Some e) = None

-- the object of this name, if it exists and has met no error
abbrev pub running : Configuration → ℕ → Option Object
running c o = object_of c o >>= (λ x. without_fault x x.fault)

-- whether the list names the method
abbrev pub names_method : List Named → ℕ → Bool
names_method names m = list_any (λ n. n.name.0 == m) names

-- the methods that an object may serve next, and its work after one of them
pub record Offer : Type 0 where
  pub names : List Named
  pub work : Statements

-- the names of an alternative; a plain one has none
abbrev pub answered : Option (List Named) → List Named
answered None = []
answered (Some names) = names

-- the first open alternative that names the method
abbrev pub select_offer : List Choice → ℕ → Option Offer
select_offer [] m = None
select_offer (c ∷ cs) m =
    if is_true c.guard && names_method (answered c.answer) m
    then Some (record { names = answered c.answer; work = c.work })
    else select_offer cs m

-- the offer of an object for the method: its answer that names it, or the first such alternative of its select
abbrev pub offer : Action → ℕ → Option Offer
offer (A.Answer names) m = require (names_method names m) >> Some (record { names = names; work = T.Done })
offer (A.Select choices) m = select_offer choices m
offer _ m = None

-- the work of the alternative if it is open and plain
abbrev pub plain_choice : Option Choice → Option Statements
plain_choice None = None
plain_choice (Some c) = require (is_true c.guard && is_none c.answer) >> Some c.work

-- the work of alternative i of a select, counted from 1, if it is open and plain
abbrev pub picked : Action → ℕ → Option Statements
picked (A.Select choices) zero = None
picked (A.Select choices) (suc i) = plain_choice (slice_get choices i)
picked _ i = None

-- whether one of the messages is for one of these methods
abbrev pub has_message : List Named → List Message → Bool
has_message names [] = false
has_message names (m ∷ ms) = names_method names m.method || has_message names ms

-- the earliest message for one of these methods
abbrev pub first_message : List Named → List Message → Option Message
first_message names [] = None
first_message names (m ∷ ms) = if names_method names m.method then Some m else first_message names ms

-- the messages without the earliest one for these methods
abbrev pub without_first : List Named → List Message → List Message
without_first names [] = []
without_first names (m ∷ ms) = if names_method names m.method then ms else m ∷ without_first names ms

-- the object after this part has replaced its redex
abbrev pub refilled : Object → Contractum → Object
refilled x part = record x { term = fill_statements x.term part }

-- the object after a statement that ends at once
abbrev pub done : Object → Object
done x = refilled x (AsStatements T.Done)

-- the object after this value has replaced its redex
abbrev pub given : Object → Value → Object
given x v = refilled x (AsExpression (literal v))

-- the work that is left of the served method that returns its value
abbrev pub work_left : Found (Unit {0}) → Statements
work_left (At (Finish k v work) t) = work
work_left _ = T.Done

-- the object after it has returned a value: its post statements are left
abbrev pub returned : Object → Object
returned x = refilled x (AsStatements (work_left (statements_redex [] x.term)))

-- the object when it begins to serve the method for the caller, or for no one
abbrev pub serving : Object → MethodTree → Option ℕ → List Value → Statements → Object
serving x m caller args work =
    refilled x (AsStatements (T.Then (T.Serve m.name.name.0 caller (temps_of m args) m.body m.value m.post) work))

-- a new object of the class: its variables are nil
abbrev pub new_object : ClassTree → Object
new_object k = record { class = k.name.name.0; vars = nil_store k.vars; term = k.body; fault = None }

-- Each function below tests the next action of an object, or takes from it the parts that the label needs.

-- the object after its local transition
abbrev pub local_step : Object → Action → Option Object
local_step x (A.Local term vars) = Some (record x { term = term; vars = vars })
local_step x _ = None

-- the action makes an object of this class
abbrev pub makes : Action → ℕ → Bool
makes (A.New c) d = c == d
makes _ d = false

-- the action calls this method of r with these arguments
abbrev pub calls : Action → ℕ → ℕ → List Value → Bool
calls (A.Send b m args) r n values = b == r && m == n && are_same args values
calls _ r n values = false

-- the action sends this message to r
abbrev pub posts : Action → ℕ → ℕ → List Value → Bool
posts (A.Async b m args) r n values = b == r && m == n && are_same args values
posts _ r n values = false

-- the action returns this value to o
abbrev pub returns : Action → ℕ → Value → Bool
returns (A.Return k v) o w = k == o && is_same v w
returns _ o w = false

-- the action waits for r
abbrev pub waits_on : Action → ℕ → Bool
waits_on (A.Waits b m) r = b == r
waits_on _ r = false

-- the action writes this item
abbrev pub writes : Action → Item → Bool
writes (A.Write i) j = is_same_item i j
writes _ j = false

-- the action is this error
abbrev pub fails : Action → Error → Bool
fails (A.Fault e) f = error_number e == error_number f
fails _ f = false

-- the configuration after the label, or None if the label is not possible
abbrev pub transition : ProgramTree → Configuration → Label → Option Configuration
transition p c (L.Local o) = do
  x ← running c o
  y ← local_step x (action p o x)
  Some (put_object c o y)
transition p c (L.New o n k) = do
  x ← running c o
  require (makes (action p o x) k.0 && is_none (object_of c n))
  class ← class_of p k.0
  Some (put_object (put_object c o (given x (V.Ref n))) n (new_object class))
transition p c (L.Answer b o m args) = do
  x ← running c o
  y ← running c b
  require (calls (action p o x) b m.0 args)
  v ← offer (action p b y) m.0
  require (not (has_message v.names (messages_of c o b)))
  method ← method_of p y.class m.0 (length args)
  Some (put_object (put_object c o (refilled x (AsExpression (T.Wait b m.0)))) b (serving y method (Some o) args v.work))
transition p c (L.Return b o v) = do
  y ← running c b
  x ← running c o
  require (returns (action p b y) o v && waits_on (action p o x) b)
  Some (put_object (put_object c b (returned y)) o (given x v))
transition p c (L.Send o b m args) = do
  x ← running c o
  require (posts (action p o x) b m.0 args && is_some (object_of c b))
  Some (put_messages (put_object c o (done x)) o b (messages_of c o b ++ record { method = m.0; args = args } ∷ []))
transition p c (L.Take b s m args) = do
  y ← running c b
  v ← offer (action p b y) m.0
  first ← first_message v.names (messages_of c s b)
  require (first.method == m.0 && are_same first.args args)
  method ← method_of p y.class m.0 (length args)
  Some (put_messages (put_object c b (serving y method None args v.work)) s b (without_first v.names (messages_of c s b)))
transition p c (L.Write o item) = do
  x ← running c o
  require (writes (action p o x) item)
  Some (put_object c o (done x))
transition p c (L.Pick o i) = do
  x ← running c o
  work ← picked (action p o x) i
  Some (put_object c o (refilled x (AsStatements work)))
transition p c (L.Fault o e) = do
  x ← running c o
  require (fails (action p o x) e)
  Some (put_object c o (record x { fault = Some e }))

-- the configuration after these labels, or None if one of them is not possible where it is due
abbrev pub run : ProgramTree → Configuration → List Label → Option Configuration
run p c [] = Some c
run p c (l ∷ ls) = transition p c l >>= λ d. run p d ls

-- the last class of the program
abbrev pub last_class : ProgramTree → Option ClassTree
last_class [] = None
last_class (k ∷ []) = Some k
last_class (k ∷ l ∷ ls) = last_class (l ∷ ls)

-- the start of a program: one object of the last class, under the name n
abbrev pub start : ProgramTree → ℕ → Option Configuration
start p n = last_class p >>= λ k. Some (record { objects = (n, new_object k) ∷ []; messages = [] })
