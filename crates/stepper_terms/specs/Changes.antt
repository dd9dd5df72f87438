-- Kinds of the focus of the stepper, and the part that replaces the innermost method at its end.
use Rattle.std.specs.Prelude.{ℕ, ◌-◌, List, length, slice_get, Option, Some, None, is_some, Bool, true, false, not}
use Rattle.run_types.specs.declared.types.Value.{Value}
use Rattle.pool_syntax.specs.Terms as T
use Rattle.pool_syntax.specs.Terms.{Statements}
use Rattle.stepper_terms.specs.declared.contexts.Task.{Task}
use Rattle.stepper_terms.specs.declared.contexts.Task.TheVariants as K
use Rattle.stepper_terms.specs.declared.contexts.Focus.{Focus}
use Rattle.stepper_terms.specs.declared.contexts.Focus.TheVariants as N
use Rattle.stepper_terms.specs.declared.contexts.Ready.{Ready}
use Rattle.stepper_terms.specs.declared.contexts.Ready.TheVariants as Y
use Rattle.stepper_terms.specs.declared.contexts.SuspendedCall.{SuspendedCall}
use Rattle.stepper_terms.specs.declared.contexts.SuspendedCall.TheVariants as O
use Rattle.stepper_terms.specs.declared.contexts.Operand.{Operand}
use Rattle.stepper_terms.specs.declared.contexts.Stage.{Stage}
use Rattle.stepper_terms.specs.declared.contexts.Stage.TheVariants as A
use Rattle.stepper_terms.specs.declared.contexts.Activation.{Activation}
use Rattle.pool_relation.specs.Reducible.{Contractum, AsExpression, AsStatements}
use Rattle.pool_relation.specs.Action.{literal}
use Rattle.stepper_terms.specs.Parts.{Content, Running, nothing, task, slotted, nested, left, caller_of}
use Rattle.stepper_terms.specs.Reduced.{assigns}

-- whether the redex is an expression
abbrev pub is_expression : Focus → Bool
is_expression (N.Expression r ks s gs) = true
is_expression _ = false

-- whether the redex is a statement
abbrev pub is_statement : Focus → Bool
is_statement (N.Statement k gs) = true
is_statement _ = false

-- whether the focus is at the end of a method or of a body
abbrev pub is_end : Focus → Bool
is_end (N.Value v) = true
is_end N.Over = true
is_end _ = false

-- the variable and the value, if the statement is an assignment
abbrev pub assigning : Task → Option (ℕ × Value)
assigning (K.Assign n v) = Some (n.name.0, v.value)
assigning _ = None

-- the statements after the redex, if it is a statement
abbrev pub rest_of : Focus → Statements
rest_of (N.Statement k gs) = left gs.items
rest_of _ = T.Done

-- whether the redex is a statement other than an assignment
abbrev pub keeps_temps : Focus → Bool
keeps_temps (N.Statement k gs) = not (assigns (task k))
keeps_temps _ = false

-- the variable and the value, if the redex is an assignment
abbrev pub next_assigns : Focus → Option (ℕ × Value)
next_assigns (N.Statement k gs) = assigning k
next_assigns _ = None

-- whether the expression is an own call
abbrev pub is_call_ready : Ready → Bool
is_call_ready (Y.Call m vs p) = true
is_call_ready _ = false

-- whether the redex is an own call
abbrev pub is_call : Focus → Bool
is_call (N.Expression r ks s gs) = is_call_ready r
is_call _ = false

-- the value of a method at its end; nil if none was evaluated
abbrev pub end_value : Stage → Focus → Operand
end_value (A.Post v) n = v
end_value (A.Body e qs) (N.Value v) = v
end_value (A.Body e qs) _ = nothing

-- the part that replaces a method that is left
abbrev pub left_part : SuspendedCall → Value → Contractum
left_part (O.Expression ks s gs) v = AsExpression (literal v)
left_part (O.Statement k gs) v = AsStatements T.Done

abbrev pub last_part : Option Activation → Focus → Contractum
last_part None n = AsStatements T.Done
last_part (Some a) n = left_part a.outer (end_value a.stage n).value

-- the part that replaces the innermost method at its end
abbrev pub end_part : List Activation → Focus → Contractum
end_part calls n = last_part (slice_get calls (length calls - 1)) n

-- whether a caller waits for the value of this method
abbrev pub last_awaited : Option Activation → Bool
last_awaited None = false
last_awaited (Some a) = is_some (caller_of a.stage a.outer)

-- whether a caller waits for the value of the innermost method
abbrev pub is_awaited : List Activation → Bool
is_awaited calls = last_awaited (slice_get calls (length calls - 1))

-- the content around a method after it is left with this value
abbrev pub after_left : SuspendedCall → Value → Content
after_left (O.Expression ks s gs) v = slotted s (left gs.items) (nested ks.items (literal v))
after_left (O.Statement k gs) v = Running (left gs.items)

-- the redex, if it is an expression
abbrev pub next_ready : Focus → Option Ready
next_ready (N.Expression r ks s gs) = Some r
next_ready _ = None
