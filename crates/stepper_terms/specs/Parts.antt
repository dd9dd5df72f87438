-- The terms that the stepper's contexts and continuations represent.
use Rattle.std.specs.Prelude.{◌≡◌, ℕ, ◌-◌, ◌<◌, List, [], ◌∷◌, length, slice_get, Option, Some, None, false}
use denote.Bor.{Bor}
use Rattle.run_types.specs.declared.types.Value.TheVariants as V
use Rattle.pool_syntax.specs.declared.tree.Alt.{Alt}
use Rattle.pool_syntax.specs.declared.tree.Expr.{Expr}
use Rattle.pool_syntax.specs.TreeOf.{expression_of, expressions_of, statements_of}
use Rattle.pool_syntax.specs.Terms as T
use Rattle.pool_syntax.specs.Terms.{Store, Expression, Expressions, Statement, Statements, Alternatives, append}
use Rattle.stepper_terms.specs.declared.contexts.Operand.{Operand}
use Rattle.stepper_terms.specs.declared.contexts.ExpressionContext.{ExpressionContext}
use Rattle.stepper_terms.specs.declared.contexts.ExpressionContext.TheVariants as P
use Rattle.stepper_terms.specs.declared.contexts.Ready.{Ready}
use Rattle.stepper_terms.specs.declared.contexts.Ready.TheVariants as R
use Rattle.stepper_terms.specs.declared.contexts.Guarded.{Guarded}
use Rattle.stepper_terms.specs.declared.contexts.StatementContext.{StatementContext}
use Rattle.stepper_terms.specs.declared.contexts.StatementContext.TheVariants as L
use Rattle.stepper_terms.specs.declared.contexts.Task.{Task}
use Rattle.stepper_terms.specs.declared.contexts.Task.TheVariants as K
use Rattle.stepper_terms.specs.declared.contexts.Segment.{Segment}
use Rattle.stepper_terms.specs.declared.contexts.Segment.TheVariants as G
use Rattle.stepper_terms.specs.declared.contexts.Focus.{Focus}
use Rattle.stepper_terms.specs.declared.contexts.Focus.TheVariants as N
use Rattle.stepper_terms.specs.declared.contexts.SuspendedCall.{SuspendedCall}
use Rattle.stepper_terms.specs.declared.contexts.SuspendedCall.TheVariants as O
use Rattle.stepper_terms.specs.declared.contexts.Stage.{Stage}
use Rattle.stepper_terms.specs.declared.contexts.Stage.TheVariants as A
use Rattle.stepper_terms.specs.declared.contexts.Activation.{Activation}
use Rattle.stepper_terms.specs.declared.contexts.Continuation.{Continuation}
use Rattle.stepper_terms.specs.declared.seek.Step.{Step}
use Rattle.stepper_terms.specs.declared.seek.Step.TheVariants as S
use Rattle.pool_relation.specs.Reducible.{is_value}
use Rattle.stepper_terms.specs.Weights.{weight}

-- the value as an expression
abbrev pub operand : Operand → Expression
operand v = T.Literal v.value v.pos

-- the evaluated arguments, and then these expressions
abbrev pub operands : List Operand → Expressions → Expressions
operands [] es = es
operands (v ∷ vs) es = T.Arg (operand v) (operands vs es)

-- the expression e in the hole of a context
abbrev pub placed : ExpressionContext → Expression → Expression
placed (P.Prefix op p) e = T.Prefix op e p
placed (P.Left op r p) e = T.Infix op e (expression_of r.now) p
placed (P.Right op l p) e = T.Infix op (operand l) e p
placed (P.CallArgument m vs es p) e = T.Call m.0 (operands vs.items (T.Arg e (expressions_of es.now))) p
placed (P.Destination m es p) e = T.Send e m.0 (expressions_of es.now) p
placed (P.SendArgument to m vs es p) e = T.Send (operand to) m.0 (operands vs.items (T.Arg e (expressions_of es.now))) p

-- the expression e in these contexts, the innermost last
abbrev pub nested : List ExpressionContext → Expression → Expression
nested [] e = e
nested (k ∷ ks) e = placed k (nested ks e)

-- the redex, as an expression
abbrev pub ready : Ready → Expression
ready (R.Me p) = T.Me p
ready (R.Variable x p) = T.Variable x.0 p
ready (R.Create c p) = T.Create c.0 p
ready (R.Prefix op v p) = T.Prefix op (operand v) p
ready (R.Infix op v w p) = T.Infix op (operand v) (operand w) p
ready (R.Call m vs p) = T.Call m.0 (operands vs.items T.NoArgs) p
ready (R.Send to m vs p) = T.Send (operand to) m.0 (operands vs.items T.NoArgs) p
ready (R.Wait b m) = T.Wait b m.0

-- the alternatives
abbrev pub alternatives : List Alt → Alternatives
alternatives [] = T.NoAlts
alternatives (a ∷ more) = T.Alt (expression_of a.guard) a.answer (statements_of a.work) (alternatives more)

-- the redex, or the part in which to search
abbrev pub stepped : Step → Expression
stepped (S.Found r) = ready r
stepped (S.Into e) = expression_of e.now

-- a part in which to search is no value, and weighs less than n
abbrev pub IsBelow : ℕ → Step → Type 0
IsBelow n (S.Found r) = Unit {0}
IsBelow n (S.Into e) = (is_value (expression_of e.now) ≡ false) × (weight (expression_of e.now) < n)

-- a part in which to search is no value
abbrev pub IsOpen : Step → Type 0
IsOpen (S.Found r) = Unit {0}
IsOpen (S.Into e) = is_value (expression_of e.now) ≡ false

-- the alternatives with evaluated guards, and then these
abbrev pub guarded : List Guarded → Alternatives → Alternatives
guarded [] alts = alts
guarded (g ∷ gs) alts = T.Alt (operand g.guard) g.alt.now.answer (statements_of g.alt.now.work) (guarded gs alts)

-- a loop as statements
abbrev pub loop_of : Expression → Statements → Statements
loop_of e body = T.Then (T.While e body) T.Done

-- The rest of a body or of a method under way: statements; the value alone, if no statement is left; or nothing, if
-- the value is evaluated.
pub data Content : Type 0 where
  Running : (ss : Statements) → Content
  Valued : (e : Expression) → Content
  Over : (v : Operand) → Content

-- the statement with the expression e in its hole, and the statements after it
abbrev pub slotted : StatementContext → Statements → Expression → Content
slotted (L.Assign n) ss e = Running (T.Then (T.Assign n.name.0 n.pos e) ss)
slotted L.Write ss e = Running (T.Then (T.Write e) ss)
slotted L.Do ss e = Running (T.Then (T.Do e) ss)
slotted (L.Destination m es) ss e = Running (T.Then (T.Async e m.name.0 m.pos (expressions_of es.now)) ss)
slotted (L.Argument to m vs es) ss e =
    Running (T.Then (T.Async (operand to) m.name.0 m.pos (operands vs.items (T.Arg e (expressions_of es.now)))) ss)
slotted (L.If these those) ss e = Running (T.Then (T.If e (statements_of these.now) (statements_of those.now)) ss)
slotted (L.Loop k body) ss e =
    Running (T.Then (T.If e (append (statements_of body.now) (loop_of (expression_of k.now) (statements_of body.now))) T.Done) ss)
slotted (L.Guard done at more) ss e =
    Running (T.Then (T.Select (guarded done.items (T.Alt e at.now.answer (statements_of at.now.work) (alternatives more.now)))) ss)
slotted L.Value ss e = Valued e

-- the redex, as a statement
abbrev pub task : Task → Statement
task (K.Assign n v) = T.Assign n.name.0 n.pos (operand v)
task (K.Write v) = T.Write (operand v)
task (K.WriteText s) = T.WriteText s.0
task (K.Do v) = T.Do (operand v)
task (K.Async to m vs) = T.Async (operand to) m.name.0 m.pos (operands vs.items T.NoArgs)
task (K.If v these those) = T.If (operand v) (statements_of these.now) (statements_of those.now)
task (K.Loop v k body) = T.If (operand v) (append (statements_of body.now) (loop_of (expression_of k.now) (statements_of body.now))) T.Done
task (K.While k body) = T.While (expression_of k.now) (statements_of body.now)
task (K.Answer names) = T.Answer names.now
task (K.Select gs) = T.Select (guarded gs.items T.NoAlts)

-- the statements of a segment
abbrev pub segment : Segment → Statements
segment (G.Rest ss) = statements_of ss.now
segment (G.Again k body) = loop_of (expression_of k.now) (statements_of body.now)

-- all statements that follow; the last segment comes first
abbrev pub left : List Segment → Statements
left [] = T.Done
left (g ∷ gs) = append (left gs) (segment g)

-- the value of a method that has evaluated none
abbrev pub nothing : Operand
nothing = record { value = V.Nil; pos = 0 }

-- the redex with its surroundings, and the statements after it
abbrev pub content : Focus → Content
content (N.Expression r ks s gs) = slotted s (left gs.items) (nested ks.items (ready r))
content (N.Statement t gs) = Running (T.Then (task t) (left gs.items))
content (N.Value v) = Valued (operand v)
content N.Over = Over nothing

-- the same, if an evaluated value is the end
abbrev pub stopped : Focus → Content
stopped (N.Value v) = Over v
stopped n = content n

-- the statements; if none is left, the value if there is one
abbrev pub ahead : Option Expression → Statements → Content
ahead e (T.Then s ss) = Running (T.Then s ss)
ahead (Some e) T.Done = Valued e
ahead None T.Done = Over nothing

-- the content as the body of an object, or as post statements, which drop an evaluated value
abbrev pub bottom : Content → Statements
bottom (Running ss) = ss
bottom (Valued e) = T.Then (T.Do e) T.Done
bottom (Over v) = T.Done

-- the caller for whom a method began; an own method has none
abbrev pub caller_at : SuspendedCall → Option ℕ
caller_at (O.Expression ks s gs) = None
caller_at (O.Statement k gs) = k

-- the caller that a method serves; it serves no one while its post statements are under way
abbrev pub caller_of : Stage → SuspendedCall → Option ℕ
caller_of (A.Body e qs) o = caller_at o
caller_of (A.Post v) o = None

-- the post statements after an evaluated value; only a method for a caller has them, because without a caller they
-- begin at once
abbrev pub behind : Option ℕ → Statements → Statements
behind (Some k) qs = qs
behind None qs = T.Done

-- the statements, the value and the post statements that are left of a method under way
abbrev pub inside : SuspendedCall → Stage → Content → Statements × Expression × Statements
inside o (A.Body e qs) (Running ss) = (ss, expression_of e.now, statements_of qs.now)
inside o (A.Body e qs) (Valued x) = (T.Done, x, statements_of qs.now)
inside o (A.Body e qs) (Over v) = (T.Done, operand v, behind (caller_at o) (statements_of qs.now))
inside o (A.Post v) c = (T.Done, operand v, bottom c)

-- a method under way for this caller, in its outer context
abbrev pub around : SuspendedCall → Option ℕ → ℕ → Store → Statements × Expression × Statements → Content
around (O.Expression ks s gs) k m t b = slotted s (left gs.items) (nested ks.items (T.Frame m t b.0 b.1 b.2))
around (O.Statement j gs) k m t b = Running (T.Then (T.Serve m k t b.0 b.1 b.2) (left gs.items))

abbrev pub wrapped : Activation → Content → Content
wrapped a c = around a.outer (caller_of a.stage a.outer) a.method.0 a.temps.items (inside a.outer a.stage c)

-- the content in all these methods under way, the innermost last
abbrev pub layers : List Activation → Content → Content
layers [] c = c
layers (a ∷ more) c = wrapped a (layers more c)

-- the value to evaluate after the last statement: that of the innermost method, unless it is evaluated already
abbrev pub value_of_stage : Stage → Option Expression
value_of_stage (A.Body e qs) = Some (expression_of e.now)
value_of_stage (A.Post v) = None

abbrev pub value_of_last : Option Activation → Option Expression
value_of_last None = None
value_of_last (Some a) = value_of_stage a.stage

abbrev pub wanted : List Activation → Option Expression
wanted calls = value_of_last (slice_get calls (length calls - 1))

-- the expression of the program, if there is one
abbrev pub expression_seen : Option (Bor Expr) → Option Expression
expression_seen None = None
expression_seen (Some e) = Some (expression_of e.now)

-- the term that a continuation represents
abbrev pub term_of : Continuation → Statements
term_of w = bottom (layers w.calls.items (stopped w.next))
