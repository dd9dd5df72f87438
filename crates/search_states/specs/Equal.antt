-- When two parts of a work are equal, part by part.
-- Only the addresses of their lists and of the program text may differ, and the stored callers of methods whose post
-- statements are under way.
use Rattle.std.specs.Prelude.{◌≡◌, List, [], ◌∷◌}
use Rattle.pool_syntax.specs.TreeOf.{alternatives_of, expression_of, expressions_of, statements_of}
use Rattle.stepper_terms.specs.declared.contexts.ExpressionContext.{ExpressionContext}
use Rattle.stepper_terms.specs.declared.contexts.ExpressionContext.TheVariants as P
use Rattle.stepper_terms.specs.declared.contexts.Guarded.{Guarded}
use Rattle.stepper_terms.specs.declared.contexts.StatementContext.{StatementContext}
use Rattle.stepper_terms.specs.declared.contexts.StatementContext.TheVariants as L
use Rattle.stepper_terms.specs.declared.contexts.Ready.{Ready}
use Rattle.stepper_terms.specs.declared.contexts.Ready.TheVariants as R
use Rattle.stepper_terms.specs.declared.contexts.Task.{Task}
use Rattle.stepper_terms.specs.declared.contexts.Task.TheVariants as K
use Rattle.stepper_terms.specs.declared.contexts.Segment.{Segment}
use Rattle.stepper_terms.specs.declared.contexts.Segment.TheVariants as G
use Rattle.stepper_terms.specs.declared.contexts.Focus.{Focus}
use Rattle.stepper_terms.specs.declared.contexts.Focus.TheVariants as N
use Rattle.stepper_terms.specs.declared.contexts.SuspendedCall.{SuspendedCall}
use Rattle.stepper_terms.specs.declared.contexts.SuspendedCall.TheVariants as O
use Rattle.stepper_terms.specs.declared.contexts.Stage.{Stage}
use Rattle.stepper_terms.specs.declared.contexts.Stage.TheVariants as A
use Rattle.stepper_terms.specs.declared.contexts.Activation.{Activation}
use Rattle.stepper_terms.specs.declared.contexts.Continuation.{Continuation}
use Rattle.stepper_terms.specs.Parts.{caller_of}
use Rattle.stepper_objects.specs.declared.object_state.ObjectState.{ObjectState}

-- lists of the same length with related items
abbrev pub Paired : {X : Type 0} → (X → X → Type 0) → List X → List X → Type 0
Paired Is [] [] = Unit {0}
Paired Is (x ∷ xs) (y ∷ ys) = Is x y × Paired Is xs ys
Paired Is _ _ = ⊥

abbrev pub EqualPlace : ExpressionContext → ExpressionContext → Type 0
EqualPlace (P.Prefix op p) (P.Prefix o q) = (op ≡ o) × (p ≡ q)
EqualPlace (P.Left op r p) (P.Left o s q) = (op ≡ o) × (expression_of r.now ≡ expression_of s.now) × (p ≡ q)
EqualPlace (P.Right op l p) (P.Right o m q) = (op ≡ o) × (l ≡ m) × (p ≡ q)
EqualPlace (P.CallArgument m vs es p) (P.CallArgument n ws fs q) = (m ≡ n) × (vs.items ≡ ws.items) × (expressions_of es.now ≡ expressions_of fs.now) × (p ≡ q)
EqualPlace (P.Destination m es p) (P.Destination n fs q) = (m ≡ n) × (expressions_of es.now ≡ expressions_of fs.now) × (p ≡ q)
EqualPlace (P.SendArgument to m vs es p) (P.SendArgument at n ws fs q) = (to ≡ at) × (m ≡ n) × (vs.items ≡ ws.items) × (expressions_of es.now ≡ expressions_of fs.now) × (p ≡ q)
EqualPlace _ _ = ⊥

abbrev pub EqualGuard : Guarded → Guarded → Type 0
EqualGuard g h = (g.guard ≡ h.guard) × (g.alt.now.answer ≡ h.alt.now.answer) × (statements_of g.alt.now.work ≡ statements_of h.alt.now.work)

abbrev pub EqualSlot : StatementContext → StatementContext → Type 0
EqualSlot (L.Assign n) (L.Assign m) = n ≡ m
EqualSlot L.Write L.Write = Unit {0}
EqualSlot L.Do L.Do = Unit {0}
EqualSlot (L.Destination m es) (L.Destination n fs) = (m ≡ n) × (expressions_of es.now ≡ expressions_of fs.now)
EqualSlot (L.Argument to m vs es) (L.Argument at n ws fs) = (to ≡ at) × (m ≡ n) × (vs.items ≡ ws.items) × (expressions_of es.now ≡ expressions_of fs.now)
EqualSlot (L.If a b) (L.If c d) = (statements_of a.now ≡ statements_of c.now) × (statements_of b.now ≡ statements_of d.now)
EqualSlot (L.Loop k a) (L.Loop l b) = (expression_of k.now ≡ expression_of l.now) × (statements_of a.now ≡ statements_of b.now)
EqualSlot (L.Guard gs a more) (L.Guard hs b others) =
    Paired EqualGuard gs.items hs.items × (a.now.answer ≡ b.now.answer) × (statements_of a.now.work ≡ statements_of b.now.work) × (alternatives_of more.now ≡ alternatives_of others.now)
EqualSlot L.Value L.Value = Unit {0}
EqualSlot _ _ = ⊥

abbrev pub EqualReady : Ready → Ready → Type 0
EqualReady (R.Me p) (R.Me q) = p ≡ q
EqualReady (R.Variable x p) (R.Variable y q) = (x ≡ y) × (p ≡ q)
EqualReady (R.Create c p) (R.Create d q) = (c ≡ d) × (p ≡ q)
EqualReady (R.Prefix op v p) (R.Prefix o w q) = (op ≡ o) × (v ≡ w) × (p ≡ q)
EqualReady (R.Infix op v w p) (R.Infix o x y q) = (op ≡ o) × (v ≡ x) × (w ≡ y) × (p ≡ q)
EqualReady (R.Call m vs p) (R.Call n ws q) = (m ≡ n) × (vs.items ≡ ws.items) × (p ≡ q)
EqualReady (R.Send to m vs p) (R.Send at n ws q) = (to ≡ at) × (m ≡ n) × (vs.items ≡ ws.items) × (p ≡ q)
EqualReady (R.Wait b m) (R.Wait c n) = (b ≡ c) × (m ≡ n)
EqualReady _ _ = ⊥

abbrev pub EqualTask : Task → Task → Type 0
EqualTask (K.Assign n v) (K.Assign m w) = (n ≡ m) × (v ≡ w)
EqualTask (K.Write v) (K.Write w) = v ≡ w
EqualTask (K.WriteText s) (K.WriteText t) = s ≡ t
EqualTask (K.Do v) (K.Do w) = v ≡ w
EqualTask (K.Async to m vs) (K.Async at n ws) = (to ≡ at) × (m ≡ n) × (vs.items ≡ ws.items)
EqualTask (K.If v a b) (K.If w c d) = (v ≡ w) × (statements_of a.now ≡ statements_of c.now) × (statements_of b.now ≡ statements_of d.now)
EqualTask (K.Loop v k a) (K.Loop w l b) = (v ≡ w) × (expression_of k.now ≡ expression_of l.now) × (statements_of a.now ≡ statements_of b.now)
EqualTask (K.While k a) (K.While l b) = (expression_of k.now ≡ expression_of l.now) × (statements_of a.now ≡ statements_of b.now)
EqualTask (K.Answer ns) (K.Answer ms) = ns.now ≡ ms.now
EqualTask (K.Select gs) (K.Select hs) = Paired EqualGuard gs.items hs.items
EqualTask _ _ = ⊥

abbrev pub EqualSegment : Segment → Segment → Type 0
EqualSegment (G.Rest a) (G.Rest b) = statements_of a.now ≡ statements_of b.now
EqualSegment (G.Again k a) (G.Again l b) = (expression_of k.now ≡ expression_of l.now) × (statements_of a.now ≡ statements_of b.now)
EqualSegment _ _ = ⊥

abbrev pub EqualNow : Focus → Focus → Type 0
EqualNow (N.Expression r ks s gs) (N.Expression q js t hs) = EqualReady r q × Paired EqualPlace ks.items js.items × EqualSlot s t × Paired EqualSegment gs.items hs.items
EqualNow (N.Statement t gs) (N.Statement s hs) = EqualTask t s × Paired EqualSegment gs.items hs.items
EqualNow (N.Value v) (N.Value w) = v ≡ w
EqualNow N.Over N.Over = Unit {0}
EqualNow _ _ = ⊥

-- The stored callers may differ: EqualCall compares the callers.
abbrev pub EqualOuter : SuspendedCall → SuspendedCall → Type 0
EqualOuter (O.Expression ks s gs) (O.Expression js t hs) = Paired EqualPlace ks.items js.items × EqualSlot s t × Paired EqualSegment gs.items hs.items
EqualOuter (O.Statement k gs) (O.Statement j hs) = Paired EqualSegment gs.items hs.items
EqualOuter _ _ = ⊥

abbrev pub EqualStage : Stage → Stage → Type 0
EqualStage (A.Body e a) (A.Body f b) = (expression_of e.now ≡ expression_of f.now) × (statements_of a.now ≡ statements_of b.now)
EqualStage (A.Post v) (A.Post w) = v ≡ w
EqualStage _ _ = ⊥

-- The callers are those that the methods serve. Post statements serve none.
abbrev pub EqualCall : Activation → Activation → Type 0
EqualCall a b = EqualOuter a.outer b.outer × (caller_of a.stage a.outer ≡ caller_of b.stage b.outer) × (a.method ≡ b.method) × (a.temps.items ≡ b.temps.items) × EqualStage a.stage b.stage

abbrev pub EqualWork : Continuation → Continuation → Type 0
EqualWork w v = Paired EqualCall w.calls.items v.calls.items × EqualNow w.next v.next

abbrev pub EqualThing : ObjectState → ObjectState → Type 0
EqualThing t s = (t.class ≡ s.class) × (t.vars.items ≡ s.vars.items) × EqualWork t.work s.work × (t.fault ≡ s.fault)
