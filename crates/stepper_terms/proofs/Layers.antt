-- The redex of a term in the stepper's form, and the term after another part has replaced it.
use Rattle.std.proofs.Common.{◌≡◌, refl, ap, ◌∙◌, ℕ, List, [], ◌∷◌, ◌++◌, Option, true, false, arith}
use Rattle.pool_syntax.specs.TreeOf.{expressions_of, statements_of}
use Rattle.pool_syntax.specs.Terms as T
use Rattle.pool_syntax.specs.Terms.{Store, Expression, Expressions, Statement, Statements, Alternatives, append}
use Rattle.pool_relation.specs.Reducible.{Reducible, Evaluated, At, Contractum, is_value, are_values, guards_are_values, as_expression, as_statements, assigned, fill_expression, fill_expressions, fill_statement, fill_statements, fill_guards, expression_redex, expressions_redex, statement_redex, statements_redex}
use Rattle.pool_relation.specs.Reducible.{guards_redex}
use Rattle.stepper_terms.specs.declared.contexts.Operand.{Operand}
use Rattle.stepper_terms.specs.declared.contexts.Guarded.{Guarded}
use Rattle.stepper_terms.specs.declared.contexts.ExpressionContext.{ExpressionContext}
use Rattle.stepper_terms.specs.declared.contexts.ExpressionContext.TheVariants as P
use Rattle.stepper_terms.specs.declared.contexts.Ready.{Ready}
use Rattle.stepper_terms.specs.declared.contexts.Ready.TheVariants as Y
use Rattle.stepper_terms.specs.declared.contexts.StatementContext.{StatementContext}
use Rattle.stepper_terms.specs.declared.contexts.StatementContext.TheVariants as L
use Rattle.stepper_terms.specs.declared.contexts.Task.{Task}
use Rattle.stepper_terms.specs.declared.contexts.Task.TheVariants as K
use Rattle.stepper_terms.specs.declared.contexts.SuspendedCall.{SuspendedCall}
use Rattle.stepper_terms.specs.declared.contexts.SuspendedCall.TheVariants as O
use Rattle.stepper_terms.specs.declared.contexts.Stage.{Stage}
use Rattle.stepper_terms.specs.declared.contexts.Stage.TheVariants as A
use Rattle.stepper_terms.specs.declared.contexts.Activation.{Activation}
use Rattle.stepper_terms.specs.Parts.{operand, operands, guarded, placed, nested, ready, alternatives, task, slotted, left, Content, Running, Valued, Over, inside, around, caller_of, wrapped, layers, bottom}
use Rattle.stepper_terms.specs.Reduced.{values, choices, reduced, task_redex, temps_at, assigns}
use Rattle.stepper_terms.proofs.ContentRedexes.{Finds, is_plain, refilled_content}

-- evaluated parts come before what is found
found_in_operands : (t : Store) (vs : List Operand) (e : Expression) (es : Expressions) (r : Reducible) (u : Store) → expression_redex t e ≡ At r u → expressions_redex t (operands vs (T.Arg e es)) ≡ At r u
found_in_operands t [] e es r u h = rw h refl
found_in_operands t (v ∷ vs) e es r u h = rw (found_in_operands t vs e es r u h) refl

found_in_guards : (t : Store) (gs : List Guarded) (e : Expression) (n : _) (ss : Statements) (alts : Alternatives) (r : Reducible) (u : Store) → expression_redex t e ≡ At r u → guards_redex t (guarded gs (T.Alt e n ss alts)) ≡ At r u
found_in_guards t [] e n ss alts r u h = rw h refl
found_in_guards t (g ∷ gs) e n ss alts r u h = rw (found_in_guards t gs e n ss alts r u h) refl

found_placed : (t : Store) (k : ExpressionContext) (e : Expression) (r : Reducible) (u : Store) → expression_redex t e ≡ At r u → expression_redex t (placed k e) ≡ At r u
found_placed t (P.Prefix op p) e r u h = rw h refl
found_placed t (P.Left op q p) e r u h = rw h refl
found_placed t (P.Right op l p) e r u h = rw h refl
found_placed t (P.CallArgument m vs es p) e r u h = rw (found_in_operands t vs.items e _ r u h) refl
found_placed t (P.Destination m es p) e r u h = rw h refl
found_placed t (P.SendArgument to m vs es p) e r u h = rw (found_in_operands t vs.items e _ r u h) refl

pub found_nested : (t : Store) (ks : List ExpressionContext) (e : Expression) (r : Reducible) (u : Store) → expression_redex t e ≡ At r u → expression_redex t (nested ks e) ≡ At r u
found_nested t [] e r u h = h
found_nested t (k ∷ ks) e r u h = found_placed t k (nested ks e) r u (found_nested t ks e r u h)

pub found_slotted : (t : Store) (s : StatementContext) (ss : Statements) (e : Expression) (r : Reducible) (u : Store) → expression_redex t e ≡ At r u → Finds t (slotted s ss e) r u
found_slotted t (L.Assign n) ss e r u h = rw h refl
found_slotted t L.Write ss e r u h = rw h refl
found_slotted t L.Do ss e r u h = rw h refl
found_slotted t (L.Destination m es) ss e r u h = rw h refl
found_slotted t (L.Argument to m vs es) ss e r u h = rw (found_in_operands t vs.items e _ r u h) refl
found_slotted t (L.If these those) ss e r u h = rw h refl
found_slotted t (L.Loop k body) ss e r u h = rw h refl
found_slotted t (L.Guard done at more) ss e r u h = rw (found_in_guards t done.items e _ _ _ r u h) refl
found_slotted t L.Value ss e r u h = h

-- a method under way around what is found
found_around : (t : Store) (o : SuspendedCall) (st : Stage) (m : ℕ) (u : Store) (c : Content) (r : Reducible) (w : Store) → Finds u c r w
    → Finds t (around o (caller_of st o) m u (inside o st c)) r w
found_around t (O.Expression ks s gs) (A.Body e qs) m u (Running ss) r w h = found_slotted t s _ _ r w (found_nested t ks.items _ r w (rw h refl))
found_around t (O.Expression ks s gs) (A.Body e qs) m u (Valued x) r w h = found_slotted t s _ _ r w (found_nested t ks.items _ r w (rw h refl))
found_around t (O.Expression ks s gs) (A.Post v) m u (Running ss) r w h = found_slotted t s _ _ r w (found_nested t ks.items _ r w (rw h refl))
found_around t (O.Expression ks s gs) (A.Post v) m u (Valued x) r w h = found_slotted t s _ _ r w (found_nested t ks.items _ r w (rw h refl))
found_around t (O.Statement k gs) (A.Body e qs) m u (Running ss) r w h = rw h refl
found_around t (O.Statement k gs) (A.Body e qs) m u (Valued x) r w h = rw h refl
found_around t (O.Statement k gs) (A.Post v) m u (Running ss) r w h = rw h refl
found_around t (O.Statement k gs) (A.Post v) m u (Valued x) r w h = rw h refl
found_around t o st m u (Over v) r w h = absurd h

pub found_layers : (t : Store) (xs : List Activation) (c : Content) (r : Reducible) (u : Store) → Finds (temps_at t xs) c r u → Finds t (layers xs c) r u
found_layers t [] c r u h = h
found_layers t (a ∷ more) c r u h = found_around t a.outer a.stage a.method.0 a.temps.items (layers more c) r u (found_layers a.temps.items more c r u h)

pub found_bottom : (c : Content) (r : Reducible) (u : Store) → Finds [] c r u → statements_redex [] (bottom c) ≡ At r u
found_bottom (Running ss) r u h = h
found_bottom (Valued e) r u h = rw h refl
found_bottom (Over v) r u h = absurd h

-- the parts that are the redex
values_found : (t : Store) (vs : List Operand) → expressions_redex t (operands vs T.NoArgs) ≡ Evaluated (values vs)
values_found t [] = refl
values_found t (v ∷ vs) = rw (values_found t vs) refl

choices_found : (t : Store) (gs : List Guarded) → guards_redex t (guarded gs T.NoAlts) ≡ Evaluated (choices gs)
choices_found t [] = refl
choices_found t (g ∷ gs) = rw (choices_found t gs) refl

pub found_ready : (t : Store) (r : Ready) → expression_redex t (ready r) ≡ At (reduced r) t
found_ready t (Y.Me p) = refl
found_ready t (Y.Variable x p) = refl
found_ready t (Y.Create c p) = refl
found_ready t (Y.Prefix op v p) = refl
found_ready t (Y.Infix op v w p) = refl
found_ready t (Y.Call m vs p) = rw (values_found t vs.items) refl
found_ready t (Y.Send to m vs p) = rw (values_found t vs.items) refl
found_ready t (Y.Wait b m) = refl

pub found_task : (t : Store) (k : Task) → statement_redex t (task k) ≡ At (task_redex k) t
found_task t (K.Assign n v) = refl
found_task t (K.Write v) = refl
found_task t (K.WriteText s) = refl
found_task t (K.Do v) = refl
found_task t (K.Async to m vs) = rw (values_found t vs.items) refl
found_task t (K.If v these those) = refl
found_task t (K.Loop v k body) = refl
found_task t (K.While k body) = refl
found_task t (K.Answer names) = refl
found_task t (K.Select gs) = rw (choices_found t gs.items) refl

-- another part goes into a place
unfilled : (vs : List Operand) (e : Expression) (es : Expressions) → is_value e ≡ false → are_values (operands vs (T.Arg e es)) ≡ false
unfilled [] e es h = rw h refl
unfilled (v ∷ vs) e es h = unfilled vs e es h

fill_operands : (vs : List Operand) (e : Expression) (es : Expressions) (x : Contractum) → is_value e ≡ false → fill_expressions (operands vs (T.Arg e es)) x ≡ operands vs (T.Arg (fill_expression e x) es)
fill_operands [] e es x h = rw h refl
fill_operands (v ∷ vs) e es x h = ap (T.Arg (operand v)) (fill_operands vs e es x h)

unguarded : (gs : List Guarded) (e : Expression) (n : _) (ss : Statements) (alts : Alternatives) → is_value e ≡ false → guards_are_values (guarded gs (T.Alt e n ss alts)) ≡ false
unguarded [] e n ss alts h = rw h refl
unguarded (g ∷ gs) e n ss alts h = unguarded gs e n ss alts h

fill_guarded : (gs : List Guarded) (e : Expression) (n : _) (ss : Statements) (alts : Alternatives) (x : Contractum) → is_value e ≡ false → fill_guards (guarded gs (T.Alt e n ss alts)) x ≡ guarded gs (T.Alt (fill_expression e x) n ss alts)
fill_guarded [] e n ss alts x h = rw h refl
fill_guarded (g ∷ gs) e n ss alts x h = ap (T.Alt (operand g.guard) g.alt.now.answer (statements_of g.alt.now.work)) (fill_guarded gs e n ss alts x h)

open_placed : (k : ExpressionContext) (e : Expression) → is_value (placed k e) ≡ false
open_placed (P.Prefix op p) e = refl
open_placed (P.Left op q p) e = refl
open_placed (P.Right op l p) e = refl
open_placed (P.CallArgument m vs es p) e = refl
open_placed (P.Destination m es p) e = refl
open_placed (P.SendArgument to m vs es p) e = refl

pub open_nested : (ks : List ExpressionContext) (e : Expression) → is_value e ≡ false → is_value (nested ks e) ≡ false
open_nested [] e h = h
open_nested (k ∷ ks) e h = open_placed k (nested ks e)

fill_placed : (k : ExpressionContext) (e : Expression) (x : Contractum) → is_value e ≡ false → fill_expression (placed k e) x ≡ placed k (fill_expression e x)
fill_placed (P.Prefix op p) e x h = rw h refl
fill_placed (P.Left op q p) e x h = rw h refl
fill_placed (P.Right op l p) e x h = rw h refl
fill_placed (P.CallArgument m vs es p) e x h = rw (unfilled vs.items e (expressions_of es.now) h, fill_operands vs.items e (expressions_of es.now) x h) refl
fill_placed (P.Destination m es p) e x h = rw h refl
fill_placed (P.SendArgument to m vs es p) e x h = rw (unfilled vs.items e (expressions_of es.now) h, fill_operands vs.items e (expressions_of es.now) x h) refl

pub fill_nested : (ks : List ExpressionContext) (e : Expression) (x : Contractum) → is_value e ≡ false → fill_expression (nested ks e) x ≡ nested ks (fill_expression e x)
fill_nested [] e x h = refl
fill_nested (k ∷ ks) e x h = fill_placed k (nested ks e) x (open_nested ks e h) ∙ ap (placed k) (fill_nested ks e x h)

-- another part goes into a statement
assigns_no_value : (n p : ℕ) (e : Expression) → is_value e ≡ false → assigns (T.Assign n p e) ≡ false
assigns_no_value n p (T.Literal v q) h = absurd (grind arith)
assigns_no_value n p _ h = refl

pub plain_slotted : (s : StatementContext) (ss : Statements) (e : Expression) → is_value e ≡ false → is_plain (slotted s ss e) ≡ true
plain_slotted (L.Assign n) ss e h = rw (assigns_no_value n.name.0 n.pos e h) refl
plain_slotted L.Write ss e h = refl
plain_slotted L.Do ss e h = refl
plain_slotted (L.Destination m es) ss e h = refl
plain_slotted (L.Argument to m vs es) ss e h = refl
plain_slotted (L.If these those) ss e h = refl
plain_slotted (L.Loop k body) ss e h = refl
plain_slotted (L.Guard done at more) ss e h = refl
plain_slotted L.Value ss e h = rw h refl

pub fill_slotted : (s : StatementContext) (ss : Statements) (e : Expression) (x : Contractum) → is_value e ≡ false → refilled_content (slotted s ss e) x ≡ slotted s ss (fill_expression e x)
fill_slotted (L.Assign n) ss e x h = rw h refl
fill_slotted L.Write ss e x h = rw h refl
fill_slotted L.Do ss e x h = rw h refl
fill_slotted (L.Destination m es) ss e x h = rw h refl
fill_slotted (L.Argument to m vs es) ss e x h = rw (unfilled vs.items e (expressions_of es.now) h, fill_operands vs.items e (expressions_of es.now) x h) refl
fill_slotted (L.If these those) ss e x h = rw h refl
fill_slotted (L.Loop k body) ss e x h = rw h refl
fill_slotted (L.Guard done at more) ss e x h = rw (unguarded done.items e at.now.answer (statements_of at.now.work) (alternatives more.now) h, fill_guarded done.items e at.now.answer (statements_of at.now.work) (alternatives more.now) x h) refl
fill_slotted L.Value ss e x h = refl

-- another part goes into a method under way
assigned_none : (s : Statement) (ss : Statements) (t : Store) → assigns s ≡ false → assigned (T.Then s ss) t ≡ t
assigned_none (T.Assign n p (T.Literal v q)) ss t h = absurd (grind arith)
assigned_none _ ss t h = refl

pub plain_around : (o : SuspendedCall) (k : Option ℕ) (m : ℕ) (t : Store) (b : Statements × Expression × Statements) → is_plain (around o k m t b) ≡ true
plain_around (O.Expression ks s gs) k m t b = plain_slotted s _ (nested ks.items (T.Frame m t b.0 b.1 b.2)) (open_nested ks.items _ refl)
plain_around (O.Statement j gs) k m t b = refl

fill_frame : (o : SuspendedCall) (st : Stage) (m : ℕ) (t : Store) (c : Content) (x : Contractum) → is_plain c ≡ true
    → fill_expression (T.Frame m t (inside o st c).0 (inside o st c).1 (inside o st c).2) x
    ≡ T.Frame m t (inside o st (refilled_content c x)).0 (inside o st (refilled_content c x)).1 (inside o st (refilled_content c x)).2
fill_frame o st m t (Running T.Done) x h = absurd (grind arith)
fill_frame o (A.Body e qs) m t (Running (T.Then s ss)) x h = rw (assigned_none s ss t (grind arith)) refl
fill_frame o (A.Post v) m t (Running (T.Then s ss)) x h = rw (assigned_none s ss t (grind arith)) refl
fill_frame o (A.Body e qs) m t (Valued y) x h = let k : is_value y ≡ false = grind arith in rw k refl
fill_frame o (A.Post v) m t (Valued y) x h = let k : is_value y ≡ false = grind arith in rw k refl
fill_frame o st m t (Over v) x h = absurd (grind arith)

fill_serve : (o : SuspendedCall) (st : Stage) (m : ℕ) (t : Store) (c : Content) (x : Contractum) → is_plain c ≡ true
    → fill_statement (T.Serve m (caller_of st o) t (inside o st c).0 (inside o st c).1 (inside o st c).2) x
    ≡ T.Then (T.Serve m (caller_of st o) t (inside o st (refilled_content c x)).0 (inside o st (refilled_content c x)).1 (inside o st (refilled_content c x)).2) T.Done
fill_serve o st m t (Running T.Done) x h = absurd (grind arith)
fill_serve o (A.Body e qs) m t (Running (T.Then s ss)) x h = rw (assigned_none s ss t (grind arith)) refl
fill_serve o (A.Post v) m t (Running (T.Then s ss)) x h = rw (assigned_none s ss t (grind arith)) refl
fill_serve o (A.Body e qs) m t (Valued y) x h = let j : is_value y ≡ false = grind arith in rw j refl
fill_serve o (A.Post v) m t (Valued y) x h = let j : is_value y ≡ false = grind arith in rw j refl
fill_serve o st m t (Over v) x h = absurd (grind arith)

pub fill_around : (o : SuspendedCall) (st : Stage) (m : ℕ) (t : Store) (c : Content) (x : Contractum) → is_plain c ≡ true
    → refilled_content (around o (caller_of st o) m t (inside o st c)) x ≡ around o (caller_of st o) m t (inside o st (refilled_content c x))
fill_around (O.Expression ks s gs) st m t c x h =
    let o = O.Expression ks s gs in
    let f : Expression = T.Frame m t (inside o st c).0 (inside o st c).1 (inside o st c).2 in
    fill_slotted s (left gs.items) (nested ks.items f) x (open_nested ks.items f refl)
    ∙ ap (slotted s (left gs.items)) (fill_nested ks.items f x refl ∙ ap (nested ks.items) (fill_frame o st m t c x h))
fill_around (O.Statement k gs) st m t c x h = ap (λ ss. Running (append ss (left gs.items))) (fill_serve (O.Statement k gs) st m t c x h)

plain_layers : (xs : List Activation) (c : Content) → is_plain c ≡ true → is_plain (layers xs c) ≡ true
plain_layers [] c h = h
plain_layers (a ∷ more) c h = plain_around a.outer (caller_of a.stage a.outer) a.method.0 a.temps.items _

fill_layers : (xs : List Activation) (c : Content) (x : Contractum) → is_plain c ≡ true → refilled_content (layers xs c) x ≡ layers xs (refilled_content c x)
fill_layers [] c x h = refl
fill_layers (a ∷ more) c x h =
    fill_around a.outer a.stage a.method.0 a.temps.items (layers more c) x (plain_layers more c h) ∙ ap (wrapped a) (fill_layers more c x h)

fill_bottom : (c : Content) (x : Contractum) → is_plain c ≡ true → fill_statements (bottom c) x ≡ bottom (refilled_content c x)
fill_bottom (Running ss) x h = refl
fill_bottom (Valued e) x h = let j : is_value e ≡ false = grind arith in rw j refl
fill_bottom (Over v) x h = refl

-- the term with another part in the place of its redex
pub fill_term : (xs : List Activation) (c : Content) (x : Contractum) → is_plain c ≡ true → fill_statements (bottom (layers xs c)) x ≡ bottom (layers xs (refilled_content c x))
fill_term xs c x h = fill_bottom (layers xs c) x (plain_layers xs c h) ∙ ap bottom (fill_layers xs c x h)

-- another part in the place of the redex itself
all_filled : (vs : List Operand) → are_values (operands vs T.NoArgs) ≡ true
all_filled [] = refl
all_filled (v ∷ vs) = all_filled vs

all_guarded : (gs : List Guarded) → guards_are_values (guarded gs T.NoAlts) ≡ true
all_guarded [] = refl
all_guarded (g ∷ gs) = all_guarded gs

pub open_ready : (r : Ready) → is_value (ready r) ≡ false
open_ready (Y.Me p) = refl
open_ready (Y.Variable x p) = refl
open_ready (Y.Create c p) = refl
open_ready (Y.Prefix op v p) = refl
open_ready (Y.Infix op v w p) = refl
open_ready (Y.Call m vs p) = refl
open_ready (Y.Send to m vs p) = refl
open_ready (Y.Wait b m) = refl

pub fill_ready : (r : Ready) (x : Contractum) → fill_expression (ready r) x ≡ as_expression x (ready r)
fill_ready (Y.Me p) x = refl
fill_ready (Y.Variable n p) x = refl
fill_ready (Y.Create c p) x = refl
fill_ready (Y.Prefix op v p) x = refl
fill_ready (Y.Infix op v w p) x = refl
fill_ready (Y.Call m vs p) x = rw (all_filled vs.items) refl
fill_ready (Y.Send to m vs p) x = rw (all_filled vs.items) refl
fill_ready (Y.Wait b m) x = refl

pub fill_task : (k : Task) (x : Contractum) → fill_statement (task k) x ≡ as_statements x (task k)
fill_task (K.Assign n v) x = refl
fill_task (K.Write v) x = refl
fill_task (K.WriteText s) x = refl
fill_task (K.Do v) x = refl
fill_task (K.Async to m vs) x = rw (all_filled vs.items) refl
fill_task (K.If v these those) x = refl
fill_task (K.Loop v k body) x = refl
fill_task (K.While k body) x = refl
fill_task (K.Answer names) x = refl
fill_task (K.Select gs) x = rw (all_guarded gs.items) refl

-- one more method under way
pub layers_more : (xs : List Activation) (a : Activation) (c : Content) → layers (xs ++ a ∷ []) c ≡ layers xs (wrapped a c)
layers_more [] a c = refl
layers_more (b ∷ xs) a c = ap (wrapped b) (layers_more xs a c)

pub temps_more : (t : Store) (xs : List Activation) (a : Activation) → temps_at t (xs ++ a ∷ []) ≡ a.temps.items
temps_more t [] a = refl
temps_more t (b ∷ xs) a = temps_more b.temps.items xs a
