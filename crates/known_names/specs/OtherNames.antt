-- Whether a state of the stepper names, of all objects, only such as have a name below a bound, and not a certain one.
use Rattle.std.specs.Prelude.{ℕ, List, Option, Some, None, Bool, true, not, ◌&&◌, ◌==◌, nat_lt}
use Rattle.std.specs.List.{list_all}
use Rattle.run_types.specs.declared.types.Value.{Value}
use Rattle.run_types.specs.declared.types.Value.TheVariants as V
use Rattle.stepper_terms.specs.declared.contexts.Operand.{Operand}
use Rattle.stepper_terms.specs.declared.contexts.Guarded.{Guarded}
use Rattle.stepper_terms.specs.declared.contexts.ExpressionContext.{ExpressionContext}
use Rattle.stepper_terms.specs.declared.contexts.ExpressionContext.TheVariants as P
use Rattle.stepper_terms.specs.declared.contexts.StatementContext.{StatementContext}
use Rattle.stepper_terms.specs.declared.contexts.StatementContext.TheVariants as L
use Rattle.stepper_terms.specs.declared.contexts.Ready.{Ready}
use Rattle.stepper_terms.specs.declared.contexts.Ready.TheVariants as R
use Rattle.stepper_terms.specs.declared.contexts.Task.{Task}
use Rattle.stepper_terms.specs.declared.contexts.Task.TheVariants as K
use Rattle.stepper_terms.specs.declared.contexts.Focus.{Focus}
use Rattle.stepper_terms.specs.declared.contexts.Focus.TheVariants as N
use Rattle.stepper_terms.specs.declared.contexts.SuspendedCall.{SuspendedCall}
use Rattle.stepper_terms.specs.declared.contexts.SuspendedCall.TheVariants as O
use Rattle.stepper_terms.specs.declared.contexts.Stage.{Stage}
use Rattle.stepper_terms.specs.declared.contexts.Stage.TheVariants as A
use Rattle.stepper_terms.specs.declared.contexts.Activation.{Activation}
use Rattle.stepper_terms.specs.declared.contexts.Continuation.{Continuation}
use Rattle.stepper_objects.specs.declared.object_state.ObjectState.{ObjectState}

-- The names that may occur: those below n, but for b. A program text has no name of an object.
module _ (n b : ℕ) where
  abbrev pub name_is_other : ℕ → Bool
  name_is_other q = nat_lt q n && not (q == b)

  abbrev pub value_is_other : Value → Bool
  value_is_other (V.Ref q) = name_is_other q
  value_is_other _ = true

  abbrev pub operand_is_other : Operand → Bool
  operand_is_other v = value_is_other v.value

  abbrev pub are_other : List Operand → Bool
  are_other vs = list_all operand_is_other vs

  abbrev pub bindings_are_other : List (ℕ × Value) → Bool
  bindings_are_other xs = list_all (λ (x : ℕ × Value). value_is_other x.1) xs

  abbrev pub guards_are_other : List Guarded → Bool
  guards_are_other gs = list_all (λ (g : Guarded). operand_is_other g.guard) gs

  abbrev pub place_is_other : ExpressionContext → Bool
  place_is_other (P.Right op l p) = operand_is_other l
  place_is_other (P.CallArgument m vs es p) = are_other vs.items
  place_is_other (P.SendArgument to m vs es p) = operand_is_other to && are_other vs.items
  place_is_other _ = true

  abbrev pub places_are_other : List ExpressionContext → Bool
  places_are_other ks = list_all place_is_other ks

  abbrev pub slot_is_other : StatementContext → Bool
  slot_is_other (L.Argument to m vs es) = operand_is_other to && are_other vs.items
  slot_is_other (L.Guard done at more) = guards_are_other done.items
  slot_is_other _ = true

  abbrev pub ready_is_other : Ready → Bool
  ready_is_other (R.Prefix op v p) = operand_is_other v
  ready_is_other (R.Infix op v w p) = operand_is_other v && operand_is_other w
  ready_is_other (R.Call m vs p) = are_other vs.items
  ready_is_other (R.Send to m vs p) = operand_is_other to && are_other vs.items
  ready_is_other (R.Wait q m) = name_is_other q
  ready_is_other _ = true

  abbrev pub task_is_other : Task → Bool
  task_is_other (K.Assign x v) = operand_is_other v
  task_is_other (K.Write v) = operand_is_other v
  task_is_other (K.Do v) = operand_is_other v
  task_is_other (K.Async to m vs) = operand_is_other to && are_other vs.items
  task_is_other (K.If v these those) = operand_is_other v
  task_is_other (K.Loop v k body) = operand_is_other v
  task_is_other (K.Select gs) = guards_are_other gs.items
  task_is_other _ = true

  abbrev pub focus_is_other : Focus → Bool
  focus_is_other (N.Expression r ks s gs) = ready_is_other r && places_are_other ks.items && slot_is_other s
  focus_is_other (N.Statement t gs) = task_is_other t
  focus_is_other (N.Value v) = operand_is_other v
  focus_is_other N.Over = true

  abbrev pub caller_is_other : Option ℕ → Bool
  caller_is_other None = true
  caller_is_other (Some q) = name_is_other q

  abbrev pub outer_is_other : SuspendedCall → Bool
  outer_is_other (O.Expression ks s gs) = places_are_other ks.items && slot_is_other s
  outer_is_other (O.Statement k gs) = caller_is_other k

  abbrev pub stage_is_other : Stage → Bool
  stage_is_other (A.Body e qs) = true
  stage_is_other (A.Post v) = operand_is_other v

  abbrev pub call_is_other : Activation → Bool
  call_is_other a = outer_is_other a.outer && bindings_are_other a.temps.items && stage_is_other a.stage

  abbrev pub work_is_other : Continuation → Bool
  work_is_other w = list_all call_is_other w.calls.items && focus_is_other w.next

  abbrev pub object_is_other : ObjectState → Bool
  object_is_other t = bindings_are_other t.vars.items && work_is_other t.work
