-- The text of a body or of a method under way, and the lines of all methods under way, by the stepper's parts.
use Rattle.std.specs.Prelude.{ℕ, List, [], ◌∷◌, ◌++◌, codes, Some, None, Bool, true, false, if◌then◌else◌}
use Rattle.text_scan.specs.Text.{Text}
use Rattle.run_types.specs.Table.{text_at}
use Rattle.run_types.specs.declared.types.Value.{Value}
use Rattle.run_types.specs.declared.types.Value.TheVariants as V
use Rattle.pool_syntax.specs.Terms.{Statements}
use Rattle.pool_syntax.specs.TreeOf.{expression_of, statements_of}
use Rattle.record_writer.specs.RecordText.{led, object_text, value_text}
use Rattle.stepper_terms.specs.declared.contexts.StatementContext.{StatementContext}
use Rattle.stepper_terms.specs.declared.contexts.StatementContext.TheVariants as L
use Rattle.stepper_terms.specs.declared.contexts.Stage.{Stage}
use Rattle.stepper_terms.specs.declared.contexts.Stage.TheVariants as A
use Rattle.stepper_terms.specs.declared.contexts.Activation.{Activation}
use Rattle.stepper_terms.specs.declared.contexts.SuspendedCall.{SuspendedCall}
use Rattle.stepper_terms.specs.declared.contexts.SuspendedCall.TheVariants as O
use Rattle.stepper_terms.specs.declared.contexts.Focus.{Focus}
use Rattle.stepper_terms.specs.declared.contexts.Focus.TheVariants as N
use Rattle.stepper_terms.specs.declared.contexts.Continuation.{Continuation}
use Rattle.stepper_terms.specs.Parts.{behind, caller_at, left}
use Rattle.term_text.specs.Levels.{bindings, ended}
use Rattle.term_text.specs.Marked.{boxed, post_text, result_text}
use Rattle.term_text.specs.Words.{bare_text, braced, more_statements, statements_text, word}
use Rattle.stepper_text.specs.declared.inner.Inner.{Inner}
use Rattle.stepper_text.specs.declared.inner.Inner.TheVariants as I
use Rattle.stepper_terms.specs.declared.contexts.Operand.{Operand}
use Rattle.stepper_terms.specs.declared.contexts.ExpressionContext.{ExpressionContext}
use Rattle.stepper_terms.specs.declared.contexts.Ready.{Ready}
use Rattle.stepper_terms.specs.declared.contexts.Segment.{Segment}
use Rattle.stepper_terms.specs.declared.contexts.Task.{Task}
use Rattle.stepper_text.specs.Contents.{ready_text, running_text, task_text}

-- The content of a body or of a method under way, with the statements after it: an expression that is the redex, or a method under way, in these
-- contexts; a statement that is the redex; a served method; the value of the method; or the end.
pub data At : Type 0 where
  Evaluates : (slot : StatementContext) (places : List ExpressionContext) (redex : Ready) (rest : List Segment) → At
  Waits : (slot : StatementContext) (places : List ExpressionContext) (method : ℕ) (rest : List Segment) → At
  Comes : (task : Task) (rest : List Segment) → At
  Serves : (method : ℕ) (rest : List Segment) → At
  HasValue : (value : Operand) → At
  Ended : At

abbrev pub seen : Inner → At
seen (I.Running s ks r rest) = Evaluates s.now ks.now r.now rest.now
seen (I.Within s ks m rest) = Waits s.now ks.now m.0 rest.now
seen (I.Next k rest) = Comes k.now rest.now
seen (I.Serving m rest) = Serves m.0 rest.now
seen (I.Value v) = HasValue v
seen I.Over = Ended

-- the text of a body, or of post statements
abbrev pub at_text : List Text → At → Text
at_text names (Evaluates s ks r rest) = running_text names s ks (boxed (ready_text names r)) (left rest)
at_text names (Waits s ks m rest) = running_text names s ks (braced names m) (left rest)
at_text names (Comes k rest) = boxed (task_text names k) ++ more_statements names (left rest)
at_text names (Serves m rest) = braced names m ++ more_statements names (left rest)
at_text names (HasValue v) = []
at_text names Ended = []

abbrev pub inner_text : List Text → Inner → Text
inner_text names inner = at_text names (seen inner)

-- post statements that have not begun
abbrev pub later_text : List Text → Statements → Text
later_text names qs = post_text qs (statements_text names qs)

-- the value of a method, and its post statements
abbrev pub result_line : Text → Text → Text
result_line value later = result_text value ++ later

-- a method that is done, with this value
abbrev pub done_text : Value → Text
done_text v = boxed (result_text (word (value_text v)))

abbrev pub is_value_slot : StatementContext → Bool
is_value_slot L.Value = true
is_value_slot _ = false

-- whether the value of a method is under evaluation
abbrev pub is_at_value : At → Bool
is_at_value (Evaluates s ks r rest) = is_value_slot s
is_at_value (Waits s ks m rest) = is_value_slot s
is_at_value _ = false

abbrev pub is_in_value : Inner → Bool
is_in_value inner = is_at_value (seen inner)

-- statements under evaluation and then the value, or the value under evaluation
abbrev pub going_text : Bool → Text → Text → Text → Text
going_text in_value inner value later = if in_value then result_line inner later else inner ++ result_line value later

-- a method at its statements or at its value, with the texts of its value and of its post statements; `last` is the text of these if it is done
abbrev pub body_at : List Text → Text → Text → Text → At → Text
body_at names value later last (HasValue v) = done_text v.value ++ last
body_at names value later last Ended = done_text V.Nil ++ last
body_at names value later last at = going_text (is_at_value at) (at_text names at) value later

abbrev pub body_text : List Text → Text → Text → Text → Inner → Text
body_text names value later last inner = body_at names value later last (seen inner)

-- a method at its post statements
abbrev pub post_at : List Text → Value → At → Text
post_at names v (HasValue w) = done_text v
post_at names v Ended = done_text v
post_at names v at = result_line (word (value_text v)) (word (codes "post") ++ at_text names at)

abbrev pub post_stage_text : List Text → Value → Inner → Text
post_stage_text names v inner = post_at names v (seen inner)

abbrev pub stage_at : List Text → SuspendedCall → Stage → At → Text
stage_at names o (A.Body e qs) at =
    body_at names (bare_text names (expression_of e.now)) (later_text names (statements_of qs.now)) (later_text names (behind (caller_at o) (statements_of qs.now))) at
stage_at names o (A.Post v) at = post_at names v.value at

abbrev pub stage_text : List Text → SuspendedCall → Stage → Inner → Text
stage_text names o st inner = stage_at names o st (seen inner)

-- the first words of a method's line: it is an own call, or serves a caller, or no one
abbrev pub head_text : List Text → ℕ → ℕ → Stage → SuspendedCall → Text
head_text names o m st (O.Expression ks s gs) = codes "own" ++ led (object_text o ∷ text_at names m ∷ [])
head_text names o m (A.Body e qs) (O.Statement (Some k) gs) = codes "serve" ++ led (object_text o ∷ text_at names m ∷ object_text k ∷ [])
head_text names o m (A.Body e qs) (O.Statement None gs) = codes "take" ++ led (object_text o ∷ text_at names m ∷ [])
head_text names o m (A.Post v) (O.Statement k gs) = codes "take" ++ led (object_text o ∷ text_at names m ∷ [])

-- the line of a method under way
abbrev pub level_line : List Text → ℕ → Activation → At → Text
level_line names o a at = head_text names o a.method.0 a.stage a.outer ++ (bindings names a.temps.items ++ ended (stage_at names a.outer a.stage at))

-- the content of a body or a method, from the methods under way in it and the redex
abbrev pub at_now : Focus → At
at_now (N.Expression r ks s gs) = Evaluates s ks.items r gs.items
at_now (N.Statement k gs) = Comes k gs.items
at_now (N.Value v) = HasValue v
at_now N.Over = Ended

abbrev pub at_outer : ℕ → SuspendedCall → At
at_outer m (O.Expression ks s gs) = Waits s ks.items m gs.items
at_outer m (O.Statement k gs) = Serves m gs.items

abbrev pub at_first : List Activation → Focus → At
at_first [] n = at_now n
at_first (a ∷ more) n = at_outer a.method.0 a.outer

-- the lines of all methods under way, the outermost first
abbrev pub level_lines : List Text → ℕ → List Activation → Focus → Text
level_lines names o [] n = []
level_lines names o (a ∷ more) n = level_line names o a (at_first more n) ++ level_lines names o more n

-- the lines of the body and of all methods under way
abbrev pub work_lines : List Text → ℕ → Continuation → Text
work_lines names o w =
    (codes "body" ++ (led (object_text o ∷ []) ++ ended (at_text names (at_first w.calls.items w.next)))) ++ level_lines names o w.calls.items w.next
