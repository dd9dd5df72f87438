-- Typed actions: the requirements of a next action and the term after it, for an object whose variables and term are
-- typed.
use Rattle.std.proofs.Common.{◌≡◌, IsTrue, ℕ, List, [], ◌∷◌, ◌++◌, length, Option, Some, is_some, false}
use Rattle.run_types.specs.declared.types.Value.{Value}
use Rattle.run_types.specs.declared.types.Value.TheVariants as V
use Rattle.pool_syntax.specs.Terms as T
use Rattle.pool_syntax.specs.Terms.{Store, Statements, MethodTree, ProgramTree}
use Rattle.pool_syntax.specs.Classes.{class_of}
use Rattle.pool_syntax.specs.Typing.{Scope, value_sort, object_sort, is_dangling, send_sort, own_method, vars_of_class}
use Rattle.pool_relation.specs.Reducible.{AsExpression, AsStatements}
use Rattle.pool_relation.specs.Action as A
use Rattle.pool_relation.specs.Action.{Object, Action, action, method_of}
use Rattle.pool_relation.specs.Typed.{is_store_of}
use Rattle.pool_relation.specs.Transition.{refilled, done, returned, given}
use Rattle.pool_relation.specs.UnderWay.{Activity, Serving, served_for, serves}
use Rattle.pool_relation.proofs.typing.TypedTerm.{Methods, Waits, gives, TypedStatements}
use Rattle.pool_relation.proofs.typing.Sorts.{MayBecome}
use Rattle.pool_relation.proofs.typing.AddedObjects.{Grows}
use Rattle.pool_relation.proofs.typing.MethodStart.{running_scope}
use Rattle.pool_relation.proofs.redex.TypedRedex.{Spot, at, FitValues, TypedChoices}

-- where the term of the object stands
abbrev pub place : ProgramTree → (ℕ → Option ℕ) → Object → Scope
place p f x = running_scope p x.class f

-- these variables are those of the class, with fitting values
abbrev pub VarsFit : ProgramTree → (ℕ → Option ℕ) → Object → Store → Type 0
VarsFit p f x vars = IsTrue (is_store_of (place p f x) (vars_of_class (class_of p x.class)) vars)

-- the object of this name has the method, and the arguments fit
abbrev pub CanReceive : ProgramTree → (ℕ → Option ℕ) → ℕ → ℕ → List Value → Type 0
CanReceive p f b m args =
    (k : ℕ) × (t : MethodTree) × (f b ≡ Some k) × (method_of p k m (length args) ≡ Some t) × FitValues (running_scope p k f) t.params args

-- the term is typed, with no wait in it, and serves whom the object served
abbrev pub Steps : ProgramTree → (ℕ → Option ℕ) → Object → Statements → Type 0
Steps p f x ss = TypedStatements Methods (place p f x) ss × ((q : ℕ) → serves q ss ≡ serves q x.term)

-- typed statements may take the place of what the object does next, at this spot of a method
abbrev pub TakesStatements : ProgramTree → (ℕ → Option ℕ) → Object → Spot → Type 0
TakesStatements p f x ts =
    ((ss : Statements) → TypedStatements Methods (at (place p f x) ts) ss → TypedStatements Methods (place p f x) (refilled x (AsStatements ss)).term)
    × ((ss : Statements) (q : ℕ) → serves q (refilled x (AsStatements ss)).term ≡ serves q x.term ++ serves q ss)

-- by what it does next
abbrev pub TypedAction : ProgramTree → (ℕ → Option ℕ) → Object → Action → Type 0
TypedAction p f x A.Finished = Unit {0}
TypedAction p f x (A.Local term vars) =
    Steps p f x term × VarsFit p f x vars
TypedAction p f x (A.Fault e) = Unit {0}
TypedAction p f x (A.New c) =
    IsTrue (is_some (class_of p c))
    × ((f' : ℕ → Option ℕ) (n : ℕ) → Grows f f' → f' n ≡ Some c → Steps p f' x (given x (V.Ref n)).term)
TypedAction p f x (A.Send b m args) =
    CanReceive p f b m args × TypedStatements Waits (place p f x) (refilled x (AsExpression (T.Wait b m))).term
    × ((q : ℕ) → serves q (refilled x (AsExpression (T.Wait b m))).term ≡ serves q x.term)
    × ((o : ℕ) → action p o (refilled x (AsExpression (T.Wait b m))) ≡ A.Waits b m)
TypedAction p f x (A.Async b m args) = CanReceive p f b m args × Steps p f x (done x).term
TypedAction p f x (A.Write item) = Steps p f x (done x).term
TypedAction p f x (A.Answer names) = (ts : Spot) × TakesStatements p f x ts
TypedAction p f x (A.Select cs) = (ts : Spot) × TypedChoices (at (place p f x) ts) cs × TakesStatements p f x ts
TypedAction p f x (A.Return k v) =
    (m : ℕ) × (before : List Activity) × TypedStatements Methods (place p f x) (returned x).term
    × ((q : ℕ) → serves q x.term ≡ served_for q before ++ served_for q (Serving m (Some k) ∷ []))
    × ((q : ℕ) → serves q (returned x).term ≡ served_for q before)
    × (is_dangling (place p f x) v ≡ false) × IsTrue (gives p (own_method (place p f x) m) (value_sort (place p f x) v))
TypedAction p f x (A.Waits b m) =
    IsTrue (is_some (f b))
    × ((v : Value) → is_dangling (place p f x) v ≡ false → MayBecome (send_sort p (object_sort (f b)) m) (value_sort (place p f x) v) → Steps p f x (given x v).term)
TypedAction p f x A.Stuck = ⊥

-- an object whose variables and term are typed
pub record TypedObject (p : ProgramTree) (f : ℕ → Option ℕ) (x : Object) : Type 0 where
  pub vars : VarsFit p f x x.vars
  pub term : TypedStatements Waits (place p f x) x.term
