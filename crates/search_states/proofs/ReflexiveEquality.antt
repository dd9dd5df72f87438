-- Each value is equal to itself, so the definitions of equality leave out no variant.
use Rattle.std.proofs.Common.{List, [], ◌∷◌, refl}
use Rattle.stepper_terms.specs.declared.contexts.ExpressionContext.{ExpressionContext}
use Rattle.stepper_terms.specs.declared.contexts.ExpressionContext.TheVariants as P
use Rattle.stepper_terms.specs.declared.contexts.StatementContext.{StatementContext}
use Rattle.stepper_terms.specs.declared.contexts.StatementContext.TheVariants as L
use Rattle.stepper_terms.specs.declared.contexts.Ready.{Ready}
use Rattle.stepper_terms.specs.declared.contexts.Ready.TheVariants as R
use Rattle.stepper_terms.specs.declared.contexts.Task.{Task}
use Rattle.stepper_terms.specs.declared.contexts.Task.TheVariants as K
use Rattle.stepper_terms.specs.declared.contexts.Segment.{Segment}
use Rattle.stepper_terms.specs.declared.contexts.Segment.TheVariants as G
use Rattle.stepper_terms.specs.declared.contexts.Focus.{Focus}
use Rattle.stepper_terms.specs.declared.contexts.Focus.TheVariants as N
use Rattle.stepper_terms.specs.declared.contexts.SuspendedCall.{SuspendedCall}
use Rattle.stepper_terms.specs.declared.contexts.SuspendedCall.TheVariants as O
use Rattle.stepper_terms.specs.declared.contexts.Stage.{Stage}
use Rattle.stepper_terms.specs.declared.contexts.Stage.TheVariants as A
use Rattle.stepper_objects.specs.declared.object_state.ObjectState.{ObjectState}
use Rattle.search_states.specs.Equal.{Paired, EqualPlace, EqualGuard, EqualSlot, EqualReady, EqualTask, EqualSegment, EqualNow, EqualOuter, EqualStage, EqualCall, EqualThing}

each : {X : Type 0} (Is : X → X → Type 0) → ((x : X) → Is x x) → (xs : List X) → Paired Is xs xs
each Is one [] = tt
each Is one (x ∷ xs) = (one x, each Is one xs)

place : (k : ExpressionContext) → EqualPlace k k
place (P.Prefix op p) = (refl, refl)
place (P.Left op r p) = (refl, refl, refl)
place (P.Right op l p) = (refl, refl, refl)
place (P.CallArgument m vs es p) = (refl, refl, refl, refl)
place (P.Destination m es p) = (refl, refl, refl)
place (P.SendArgument to m vs es p) = (refl, refl, refl, refl, refl)

slot : (s : StatementContext) → EqualSlot s s
slot (L.Assign n) = refl
slot L.Write = tt
slot L.Do = tt
slot (L.Destination m es) = (refl, refl)
slot (L.Argument to m vs es) = (refl, refl, refl, refl)
slot (L.If a b) = (refl, refl)
slot (L.Loop k a) = (refl, refl)
slot (L.Guard gs a more) = (each EqualGuard (λ g. (refl, refl, refl)) gs.items, refl, refl, refl)
slot L.Value = tt

redex : (r : Ready) → EqualReady r r
redex (R.Me p) = refl
redex (R.Variable x p) = (refl, refl)
redex (R.Create c p) = (refl, refl)
redex (R.Prefix op v p) = (refl, refl, refl)
redex (R.Infix op v w p) = (refl, refl, refl, refl)
redex (R.Call m vs p) = (refl, refl, refl)
redex (R.Send to m vs p) = (refl, refl, refl, refl)
redex (R.Wait b m) = (refl, refl)

statement : (t : Task) → EqualTask t t
statement (K.Assign n v) = (refl, refl)
statement (K.Write v) = refl
statement (K.WriteText s) = refl
statement (K.Do v) = refl
statement (K.Async to m vs) = (refl, refl, refl)
statement (K.If v a b) = (refl, refl, refl)
statement (K.Loop v k a) = (refl, refl, refl)
statement (K.While k a) = (refl, refl)
statement (K.Answer ns) = refl
statement (K.Select gs) = each EqualGuard (λ g. (refl, refl, refl)) gs.items

segment : (g : Segment) → EqualSegment g g
segment (G.Rest a) = refl
segment (G.Again k a) = (refl, refl)

next : (n : Focus) → EqualNow n n
next (N.Expression r ks s gs) = (redex r, each EqualPlace place ks.items, slot s, each EqualSegment segment gs.items)
next (N.Statement t gs) = (statement t, each EqualSegment segment gs.items)
next (N.Value v) = refl
next N.Over = tt

outer : (o : SuspendedCall) → EqualOuter o o
outer (O.Expression ks s gs) = (each EqualPlace place ks.items, slot s, each EqualSegment segment gs.items)
outer (O.Statement k gs) = each EqualSegment segment gs.items

stage : (s : Stage) → EqualStage s s
stage (A.Body e a) = (refl, refl)
stage (A.Post v) = refl

pub itself : (t : ObjectState) → EqualThing t t
itself t = (refl, refl, (each EqualCall (λ a. (outer a.outer, refl, refl, refl, stage a.stage)) t.work.calls.items, next t.work.next), refl)
