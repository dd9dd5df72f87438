-- Simulation: the code of an object has the same next action as the object, and represents it again after each step.
use Rattle.run_types.specs.declared.frames.CodeObject.{CodeObject}
use Rattle.run_types.specs.declared.frames.Frame.{Frame}
use Rattle.std.specs.Prelude.{◌≡◌, ℕ, zero, suc, List, [], ◌∷◌, length, map, Option, Some, None, slice_get}
use Rattle.run_types.specs.declared.types.Value.{Value}
use Rattle.run_types.specs.declared.types.Item.{Item}
use Rattle.pool_syntax.specs.Terms as T
use Rattle.pool_syntax.specs.Terms.{Store, Statements, MethodTree, ProgramTree}
use Rattle.pool_relation.specs.Reducible.{Choice, AsExpression, AsStatements}
use Rattle.pool_relation.specs.Action as A
use Rattle.pool_relation.specs.Action.{Object, Action, action, method_of}
use Rattle.run_types.specs.Values.{is_true}
use Rattle.pool_relation.specs.Transition as X
use Rattle.pool_relation.specs.Transition.{refilled, given, done, serving, picked}
use Rattle.run_types.specs.declared.types.Serves.{Serves}
use Rattle.code_semantics.specs.declared.unit.ClassCode.{ClassCode}
use Rattle.code_semantics.specs.declared.unit.Unit.{Unit as Code}
use Rattle.code_semantics.specs.Kinds as K
use Rattle.code_semantics.specs.Kinds.{Kind, Offered, code_kind}
use Rattle.code_semantics.specs.Frames.{code_of, silent}
use Rattle.code_semantics.specs.Step.{code_stepped, code_given, code_gone_on, code_picked, code_serving}
use Rattle.pool_compile.specs.Code.{name, answer_names}
use Rattle.pool_compile.specs.StandsFor.{IsServing, StandsFor}

abbrev pub offered : Choice → Offered
offered c = record { is_open = is_true c.guard; answer = answer_names c.answer }

-- the code has the same next action; while a call is served, its code is still at the `Send`
abbrev pub SameKind : Action → Kind → Type 0
SameKind A.Finished k = k ≡ K.Finished
SameKind (A.Local term vars) k = k ≡ K.Local
SameKind (A.Fault e) k = k ≡ K.Fault e
SameKind (A.New c) k = k ≡ K.New (name c)
SameKind (A.Send b m args) k = k ≡ K.Send b (name m) args
SameKind (A.Async b m args) k = k ≡ K.Async b (name m) args
SameKind (A.Write item) k = k ≡ K.Write item
SameKind (A.Answer names) k = k ≡ K.Answer (map (λ n. n.name) names)
SameKind (A.Select choices) k = k ≡ K.Select (map offered choices)
SameKind (A.Return w v) k = (n : ℕ) × (k ≡ K.Return w n v)
SameKind (A.Waits b m) k = (args : List Value) × (k ≡ K.Send b (name m) args)
SameKind A.Stuck k = Unit {0}

-- the innermost frame is at a step instruction
abbrev pub AtRest : Option ClassCode → List Frame → Type 0
AtRest k [] = Unit {0}
AtRest k (f ∷ fs) = silent f (slice_get (code_of k f.method) f.at) ≡ None

abbrev pub choice_work : Option Choice → Option Statements
choice_work None = None
choice_work (Some c) = Some c.work

-- the statements that are left after alternative i, from 1, of an answer or a select
abbrev pub work_at : Action → ℕ → Option Statements
work_at (A.Answer names) i = Some T.Done
work_at (A.Select choices) zero = None
work_at (A.Select choices) (suc j) = choice_work (slice_get choices j)
work_at _ i = None

-- the code represents the object, and is at a step instruction
abbrev pub Represents : ProgramTree → Code → Object → CodeObject → Type 0
Represents p u x y = StandsFor p x y × AtRest (slice_get u.classes y.class) y.frames

-- the code has the next action of the object, and after each step it represents the object after that step
pub record Follows (p : ProgramTree) (u : Code) (o : ℕ) (x : Object) (y : CodeObject) : Type 0 where
  pub kind : SameKind (action p o x) (code_kind u y)
  pub local : (term : Statements) (vars : Store) → action p o x ≡ A.Local term vars → Represents p u (record x { term = term; vars = vars }) (code_stepped u o y)
  pub made : (c : ℕ) (v : Value) → action p o x ≡ A.New c → Represents p u (given x v) (code_given u y v)
  -- the frames do not change while the call is served, nor while its result is under way
  pub held : (b m : ℕ) (args : List Value) → action p o x ≡ A.Send b m args → Represents p u (refilled x (AsExpression (T.Wait b m))) y
  pub resumed : (b m : ℕ) (v : Value) → action p o x ≡ A.Waits b m → Represents p u (given x v) (code_given u y v)
  pub wrote : (item : Item) → action p o x ≡ A.Write item → Represents p u (done x) (code_gone_on u y)
  pub posted : (b m : ℕ) (args : List Value) → action p o x ≡ A.Async b m args → Represents p u (done x) (code_gone_on u y)
  pub returned : (w : ℕ) (v : Value) → action p o x ≡ A.Return w v → Represents p u (X.returned x) (code_gone_on u y)
  pub picks : (i : ℕ) (work : Statements) → picked (action p o x) i ≡ Some work → Represents p u (refilled x (AsStatements work)) (code_picked u y i)
  pub serves : (i m : ℕ) (work : Statements) (method : MethodTree) (args : List Value) (caller : Option ℕ) (w : Serves)
      → work_at (action p o x) i ≡ Some work → method_of p x.class m (length args) ≡ Some method → IsServing caller w
      → (z : CodeObject) × (code_serving u y i (name m) args w ≡ Some z) × Represents p u (serving x method caller args work) z
