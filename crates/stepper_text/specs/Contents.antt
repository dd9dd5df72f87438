-- The text of the statement under evaluation, and of those after it, by the stepper's contexts.
use Rattle.std.specs.Prelude.{ℕ, List, [], ◌∷◌, ◌++◌, codes}
use Rattle.text_scan.specs.Text.{Text}
use Rattle.run_types.specs.Table.{text_at}
use Rattle.pool_syntax.specs.TreeOf.{expression_of, expressions_of, statements_of}
use Rattle.pool_syntax.specs.Terms as T
use Rattle.pool_syntax.specs.Terms.{Expression, Statements, append}
use Rattle.record_writer.specs.RecordText.{led, object_text}
use Rattle.stepper_terms.specs.declared.contexts.Operand.{Operand}
use Rattle.stepper_terms.specs.declared.contexts.ExpressionContext.{ExpressionContext}
use Rattle.stepper_terms.specs.declared.contexts.Guarded.{Guarded}
use Rattle.stepper_terms.specs.declared.contexts.StatementContext.{StatementContext}
use Rattle.stepper_terms.specs.declared.contexts.StatementContext.TheVariants as L
use Rattle.stepper_terms.specs.declared.contexts.Ready.{Ready}
use Rattle.stepper_terms.specs.declared.contexts.Ready.TheVariants as R
use Rattle.stepper_terms.specs.declared.contexts.Task.{Task}
use Rattle.stepper_terms.specs.declared.contexts.Task.TheVariants as K
use Rattle.stepper_terms.specs.Parts.{alternatives}
use Rattle.term_text.specs.Words.{operator_text, alternatives_text, answer_text, arguments_text, bare_text, called, else_text, more_arguments, more_statements, names_text, statements_text, string_text, word}
use Rattle.stepper_text.specs.Around.{afters, befores, closed, done_arguments, nested_level, opened, operand_text}

-- evaluated arguments, a comma before each
abbrev pub more_operands : List Operand → Text
more_operands [] = []
more_operands (v ∷ vs) = word (codes ",") ++ (operand_text v ++ more_operands vs)

-- evaluated arguments, a comma between each two
abbrev pub operands_text : List Operand → Text
operands_text [] = []
operands_text (v ∷ vs) = operand_text v ++ more_operands vs

-- the redex; its operands have no parentheses
abbrev pub ready_text : List Text → Ready → Text
ready_text names (R.Me p) = word (codes "self")
ready_text names (R.Variable x p) = word (text_at names x.0)
ready_text names (R.Create c p) = led (codes "new" ∷ text_at names c.0 ∷ [])
ready_text names (R.Prefix op v p) = word (operator_text op) ++ operand_text v
ready_text names (R.Infix op v w p) = operand_text v ++ (word (operator_text op) ++ operand_text w)
ready_text names (R.Call m vs p) = called names m.0 (operands_text vs.items)
ready_text names (R.Send to m vs p) = operand_text to ++ (word (codes "!") ++ called names m.0 (operands_text vs.items))
ready_text names (R.Wait b m) = led (codes "waits" ∷ object_text b ∷ text_at names m.0 ∷ [])

-- alternatives whose guards are evaluated
abbrev pub guards_text : List Text → List Guarded → Text
guards_text names [] = []
guards_text names (g ∷ gs) =
    word (codes "when") ++ (operand_text g.guard ++ (answer_text names g.alt.now.answer ++ (word (codes "then") ++ (statements_text names (statements_of g.alt.now.work) ++ guards_text names gs))))

-- the text of a statement before its expression of this level
abbrev pub slot_before : List Text → StatementContext → ℕ → Text
slot_before names (L.Assign n) l = led (text_at names n.name.0 ∷ codes ":=" ∷ [])
slot_before names L.Write l = word (codes "write")
slot_before names L.Do l = []
slot_before names (L.Destination m es) l = opened 7 l
slot_before names (L.Argument to m vs es) l = operand_text to ++ (led (codes "!!" ∷ text_at names m.name.0 ∷ codes "(" ∷ []) ++ done_arguments vs.items)
slot_before names (L.If these those) l = word (codes "if")
slot_before names (L.Loop k body) l = word (codes "if")
slot_before names (L.Guard done at more) l = word (codes "select") ++ (guards_text names done.items ++ word (codes "when"))
slot_before names L.Value l = []

-- the unfolded body of a loop: its statements, and the loop again
abbrev pub again : List Text → Expression → Statements → Text
again names e body = statements_text names (append body (T.Then (T.While e body) T.Done))

-- the text after it, to the statement's end
abbrev pub slot_after : List Text → StatementContext → ℕ → Text
slot_after names (L.Assign n) l = []
slot_after names L.Write l = []
slot_after names L.Do l = []
slot_after names (L.Destination m es) l = closed 7 l ++ (word (codes "!!") ++ called names m.name.0 (arguments_text names (expressions_of es.now)))
slot_after names (L.Argument to m vs es) l = more_arguments names (expressions_of es.now) ++ word (codes ")")
slot_after names (L.If these those) l =
    word (codes "then") ++ (statements_text names (statements_of these.now) ++ (else_text (statements_of those.now) (statements_text names (statements_of those.now)) ++ word (codes "fi")))
slot_after names (L.Loop k body) l = word (codes "then") ++ (again names (expression_of k.now) (statements_of body.now) ++ word (codes "fi"))
slot_after names (L.Guard done at more) l =
    answer_text names at.now.answer ++ (word (codes "then") ++ (statements_text names (statements_of at.now.work) ++ (alternatives_text names (alternatives more.now) ++ word (codes "end"))))
slot_after names L.Value l = []

-- a statement that is the redex, without its brackets
abbrev pub task_text : List Text → Task → Text
task_text names (K.Assign n v) = led (text_at names n.name.0 ∷ codes ":=" ∷ []) ++ operand_text v
task_text names (K.Write v) = word (codes "write") ++ operand_text v
task_text names (K.WriteText s) = led (codes "write" ∷ string_text names s.0 ∷ [])
task_text names (K.Do v) = operand_text v
task_text names (K.Async to m vs) = operand_text to ++ (word (codes "!!") ++ called names m.name.0 (operands_text vs.items))
task_text names (K.If v these those) =
    word (codes "if") ++ (operand_text v ++ (word (codes "then") ++ (statements_text names (statements_of these.now) ++ (else_text (statements_of those.now) (statements_text names (statements_of those.now)) ++ word (codes "fi")))))
task_text names (K.Loop v k body) =
    word (codes "if") ++ (operand_text v ++ (word (codes "then") ++ (again names (expression_of k.now) (statements_of body.now) ++ word (codes "fi"))))
task_text names (K.While k body) =
    word (codes "while") ++ (bare_text names (expression_of k.now) ++ (word (codes "do") ++ (statements_text names (statements_of body.now) ++ word (codes "od"))))
task_text names (K.Answer ns) = word (codes "answer") ++ names_text names ns.now
task_text names (K.Select gs) = word (codes "select") ++ (guards_text names gs.items ++ word (codes "end"))

-- the statements after it; after the value of a method there are none
abbrev pub slot_rest : List Text → StatementContext → Statements → Text
slot_rest names L.Value rest = []
slot_rest names _ rest = more_statements names rest

-- a statement with a redex in brackets, or a method under way in braces, in these contexts; and the statements after it
abbrev pub running_text : List Text → StatementContext → List ExpressionContext → Text → Statements → Text
running_text names s ks core rest =
    slot_before names s (nested_level ks 8) ++ (befores names ks 8 ++ (core ++ (afters names ks 8 ++ (slot_after names s (nested_level ks 8) ++ slot_rest names s rest))))
