-- The redex that a focus of the stepper represents, in terms of the transition relation.
use Rattle.std.specs.Prelude.{ℕ, List, [], ◌∷◌, Option, Bool, true, false}
use Rattle.run_types.specs.declared.types.Value.{Value}
use Rattle.run_types.specs.declared.types.Item.TheVariants as I
use Rattle.pool_syntax.specs.TreeOf.{expression_of, statements_of}
use Rattle.pool_syntax.specs.Terms as T
use Rattle.pool_syntax.specs.Terms.{Store, Expression, Statement, Statements, append}
use Rattle.pool_relation.specs.Reducible as R
use Rattle.pool_relation.specs.Reducible.{Choice, Reducible, Found, Evaluated, left_served}
use Rattle.stepper_terms.specs.declared.contexts.Operand.{Operand}
use Rattle.stepper_terms.specs.declared.contexts.Guarded.{Guarded}
use Rattle.stepper_terms.specs.declared.contexts.Ready.{Ready}
use Rattle.stepper_terms.specs.declared.contexts.Ready.TheVariants as Y
use Rattle.stepper_terms.specs.declared.contexts.Task.{Task}
use Rattle.stepper_terms.specs.declared.contexts.Task.TheVariants as K
use Rattle.stepper_terms.specs.declared.contexts.SuspendedCall.{SuspendedCall}
use Rattle.stepper_terms.specs.declared.contexts.SuspendedCall.TheVariants as O
use Rattle.stepper_terms.specs.declared.contexts.Activation.{Activation}
use Rattle.stepper_terms.specs.declared.contexts.Stage.{Stage}
use Rattle.stepper_terms.specs.declared.contexts.Stage.TheVariants as A
use Rattle.stepper_terms.specs.Parts.{operand, loop_of, caller_of}

-- the values of operands
abbrev pub values : List Operand → List Value
values [] = []
values (v ∷ vs) = v.value ∷ values vs

-- an alternative with the value of its guard
abbrev pub choice : Guarded → Choice
choice g = record { guard = g.guard.value; answer = g.alt.now.answer; work = statements_of g.alt.now.work }

-- the alternatives with the values of their guards
abbrev pub choices : List Guarded → List Choice
choices [] = []
choices (g ∷ gs) = choice g ∷ choices gs

-- the redex of an expression
abbrev pub reduced : Ready → Reducible
reduced (Y.Me p) = R.OwnName
reduced (Y.Variable x p) = R.Read x.0
reduced (Y.Create c p) = R.Make c.0
reduced (Y.Prefix op v p) = R.Unary op v.value
reduced (Y.Infix op v w p) = R.Binary op v.value w.value
reduced (Y.Call m vs p) = R.Invoke m.0 (values vs.items)
reduced (Y.Send to m vs p) = R.SynchronousSend to.value m.0 (values vs.items)
reduced (Y.Wait b m) = R.Waiting b m.0

-- the redex of a statement
abbrev pub task_redex : Task → Reducible
task_redex (K.Assign n v) = R.Set n.name.0 v.value
task_redex (K.Write v) = R.Print (I.Value v.value)
task_redex (K.WriteText s) = R.Print (I.Text s)
task_redex (K.Do v) = R.Drop v.value
task_redex (K.Async to m vs) = R.Post to.value m.name.0 (values vs.items)
task_redex (K.If v these those) = R.Branch v.value (statements_of these.now) (statements_of those.now)
task_redex (K.Loop v k body) = R.Branch v.value (append (statements_of body.now) (loop_of (expression_of k.now) (statements_of body.now))) T.Done
task_redex (K.While k body) = R.Loop (expression_of k.now) (statements_of body.now)
task_redex (K.Answer names) = R.Accept names.now
task_redex (K.Select gs) = R.Choose (choices gs.items)

-- the temps of the innermost of these methods under way, or t if there is none
abbrev pub temps_at : Store → List Activation → Store
temps_at t [] = t
temps_at t (a ∷ more) = temps_at a.temps.items more

-- whether the statement assigns an evaluated value
abbrev pub assigns : Statement → Bool
assigns (T.Assign x p (T.Literal v q)) = true
assigns _ = false

-- the redex at the end of a method with these temps, this value and these post statements
abbrev pub end_redex : SuspendedCall → Option ℕ → ℕ → Store → Operand → Statements → Reducible
end_redex (O.Expression ks s gs) k m t v qs = R.Leave v.value
end_redex (O.Statement j gs) k m t v qs = R.Finish k v.value (left_served k m t T.Done (operand v) qs)

-- the post statements, if they have not begun
abbrev pub post_of : Stage → Statements
post_of (A.Body e qs) = statements_of qs.now
post_of (A.Post v) = T.Done

-- the redex at the end of this method, with its value
abbrev pub last_redex : Activation → Operand → Reducible
last_redex a v = end_redex a.outer (caller_of a.stage a.outer) a.method.0 a.temps.items v (post_of a.stage)
