-- Changes of an object's work.
use Rattle.std.proofs.Common.{◌≡◌, refl, ap, ap₂, sym, ◌∙◌, ℕ, zero, suc, ◌-◌, ◌<◌, List, [], ◌∷◌, ◌++◌, length, take, drop, slice_get, slice_set, slice_index_or, Option, Some, None, is_some, true, false, arith}
use Rattle.run_types.specs.declared.types.Value.{Value}
use Rattle.pool_syntax.specs.TreeOf.{expression_of, statements_of}
use Rattle.pool_syntax.specs.declared.tree.Stmt.{Stmt}
use Rattle.pool_syntax.specs.Terms as T
use Rattle.pool_syntax.specs.Terms.{Store, Expression, Statement, Statements, append}
use Rattle.pool_relation.specs.Reducible.{At, AsExpression, AsStatements, set_value, fill_statements, statements_redex}
use Rattle.pool_relation.specs.Transition.{work_left}
use Rattle.stepper_terms.specs.declared.contexts.Operand.{Operand}
use Rattle.stepper_terms.specs.declared.contexts.ExpressionContext.{ExpressionContext}
use Rattle.stepper_terms.specs.declared.contexts.SuspendedCall.{SuspendedCall}
use Rattle.stepper_terms.specs.declared.contexts.Stage.{Stage}
use Rattle.stepper_terms.specs.declared.contexts.Stage.TheVariants as A
use Rattle.stepper_terms.specs.declared.contexts.Ready.{Ready}
use Rattle.stepper_terms.specs.declared.contexts.StatementContext.{StatementContext}
use Rattle.stepper_terms.specs.declared.contexts.Task.{Task}
use Rattle.stepper_terms.specs.declared.contexts.Activation.{Activation}
use Rattle.stepper_terms.specs.declared.contexts.Focus.{Focus}
use Rattle.stepper_terms.specs.declared.contexts.Focus.TheVariants as N
use Rattle.stepper_terms.specs.Changes.{after_left, keeps_temps, rest_of, is_end, next_assigns, end_value, end_part, left_part, last_awaited, is_awaited}
use Rattle.stepper_terms.specs.Parts.{content, stopped, operand, nested, ready, task, slotted, left, Content, Running, caller_at, caller_of, behind, inside, around, wrapped, layers, bottom}
use Rattle.stepper_terms.specs.Reduced.{assigns, end_redex, post_of, last_redex}
use Rattle.stepper_terms.proofs.ContentRedexes.{refilled_content}
use Rattle.stepper_terms.proofs.ContextPlug.{nothing_left}
use Rattle.stepper_terms.proofs.NextAction.{at_end, for_no_one, end_next}
use Rattle.stepper_terms.specs.declared.contexts.SuspendedCall.TheVariants as O
use Rattle.stepper_terms.specs.declared.contexts.Task.TheVariants as K
use Rattle.pool_relation.specs.Action.{literal}
use Rattle.stepper_terms.proofs.Layers.{plain_around, fill_term, fill_slotted, fill_nested, fill_ready, fill_task, open_nested, open_ready, plain_slotted, layers_more}

-- an expression takes the place of the redex
pub expression_filled : (xs : List Activation) (s : StatementContext) (ss : Statements) (ks : List ExpressionContext) (r : Ready) (e : Expression)
    → fill_statements (bottom (layers xs (slotted s ss (nested ks (ready r))))) (AsExpression e) ≡ bottom (layers xs (slotted s ss (nested ks e)))
expression_filled xs s ss ks r e =
    fill_term xs (slotted s ss (nested ks (ready r))) (AsExpression e) (plain_slotted s ss (nested ks (ready r)) (open_nested ks (ready r) (open_ready r)))
    ∙ ap (λ c. bottom (layers xs c)) (fill_slotted s ss (nested ks (ready r)) (AsExpression e) (open_nested ks (ready r) (open_ready r))
    ∙ ap (slotted s ss) (fill_nested ks (ready r) (AsExpression e) (open_ready r) ∙ ap (nested ks) (fill_ready r (AsExpression e))))

-- statements take the place of the redex
pub statement_filled : (xs : List Activation) (k : Task) (ss these : Statements) → assigns (task k) ≡ false
    → fill_statements (bottom (layers xs (Running (T.Then (task k) ss)))) (AsStatements these) ≡ bottom (layers xs (Running (append these ss)))
statement_filled xs k ss these h =
    fill_term xs (Running (T.Then (task k) ss)) (AsStatements these) (rw h refl)
    ∙ ap (λ c. bottom (layers xs (Running (append c ss)))) (fill_task k (AsStatements these))

-- the first entry of the name is set
pub set_at : (xs : Store) (i n : ℕ) (v : Value) (d : ℕ × Value) → i < length xs → (slice_index_or xs i d).0 ≡ n → take i xs ++ set_value (drop i xs) n v ≡ slice_set xs i (n, v)
set_at [] i n v d lt h = absurd (omega arith)
set_at (b ∷ bs) zero n v d lt h = grind (arith, h)
set_at (b ∷ bs) (suc i) n v d lt h = ap (λ l. b ∷ l) (set_at bs i n v d (omega arith) h)

-- the same for what comes next
pub next_filled : (xs : List Activation) (n : Focus) (these : Statements) → keeps_temps n ≡ true
    → fill_statements (bottom (layers xs (stopped n))) (AsStatements these) ≡ bottom (layers xs (Running (append these (rest_of n))))
next_filled xs (N.Statement k gs) these h = statement_filled xs k (left gs.items) these (grind arith)
next_filled xs (N.Expression r ks s gs) these h = absurd (grind arith)
next_filled xs (N.Value v) these h = absurd (grind arith)
next_filled xs N.Over these h = absurd (grind arith)

-- an assignment is done
pub assigned_bottom : (n : Focus) (x : ℕ) (v : Value) → next_assigns n ≡ Some (x, v) → fill_statements (bottom (stopped n)) (AsStatements T.Done) ≡ rest_of n
assigned_bottom (N.Statement (K.Assign m w) gs) x v h = refl
assigned_bottom (N.Statement _ gs) x v h = absurd (grind arith)
assigned_bottom (N.Expression r ks s gs) x v h = absurd (grind arith)
assigned_bottom (N.Value w) x v h = absurd (grind arith)
assigned_bottom N.Over x v h = absurd (grind arith)

-- the statement of a method under way is an assignment
fill_assigned : (o : SuspendedCall) (st : Stage) (m : ℕ) (t : Store) (x p : ℕ) (v : Value) (q : ℕ) (ss : Statements)
    → refilled_content (around o (caller_of st o) m t (inside o st (Running (T.Then (T.Assign x p (T.Literal v q)) ss)))) (AsStatements T.Done)
    ≡ around o (caller_of st o) m (set_value t x v) (inside o st (Running ss))
fill_assigned (O.Expression ks s gs) (A.Body e qs) m t x p v q ss =
    let f : Expression = T.Frame m t (T.Then (T.Assign x p (T.Literal v q)) ss) (expression_of e.now) (statements_of qs.now) in
    fill_slotted s (left gs.items) (nested ks.items f) (AsStatements T.Done) (open_nested ks.items f refl)
    ∙ ap (slotted s (left gs.items)) (fill_nested ks.items f (AsStatements T.Done) refl)
fill_assigned (O.Expression ks s gs) (A.Post w) m t x p v q ss =
    let f : Expression = T.Frame m t T.Done (operand w) (T.Then (T.Assign x p (T.Literal v q)) ss) in
    fill_slotted s (left gs.items) (nested ks.items f) (AsStatements T.Done) (open_nested ks.items f refl)
    ∙ ap (slotted s (left gs.items)) (fill_nested ks.items f (AsStatements T.Done) refl)
fill_assigned (O.Statement k gs) (A.Body e qs) m t x p v q ss = refl
fill_assigned (O.Statement k gs) (A.Post w) m t x p v q ss = refl

pub assigned_around : (ys : List Activation) (a : Activation) (n : Focus) (x : ℕ) (v : Value) → next_assigns n ≡ Some (x, v)
    → fill_statements (bottom (layers (ys ++ a ∷ []) (stopped n))) (AsStatements T.Done)
    ≡ bottom (layers ys (around a.outer (caller_of a.stage a.outer) a.method.0 (set_value a.temps.items x v) (inside a.outer a.stage (Running (rest_of n)))))
assigned_around ys a (N.Statement (K.Assign m w) gs) x v h =
    let one : m.name.0 ≡ x = grind (arith, h) in
    let two : w.value ≡ v = grind (arith, h) in
    let k = caller_of a.stage a.outer in
    rw (layers_more ys a (content (N.Statement (K.Assign m w) gs)))
    (fill_term ys (wrapped a (content (N.Statement (K.Assign m w) gs))) (AsStatements T.Done) (plain_around a.outer k a.method.0 a.temps.items _)
    ∙ ap (λ c. bottom (layers ys c)) (fill_assigned a.outer a.stage a.method.0 a.temps.items m.name.0 m.pos w.value w.pos (left gs.items)
    ∙ ap₂ (λ y u. around a.outer k a.method.0 (set_value a.temps.items y u) (inside a.outer a.stage (Running (left gs.items)))) one two))
assigned_around ys a (N.Statement _ gs) x v h = absurd (grind arith)
assigned_around ys a (N.Expression r ks s gs) x v h = absurd (grind arith)
assigned_around ys a (N.Value w) x v h = absurd (grind arith)
assigned_around ys a N.Over x v h = absurd (grind arith)

pub assigned_inside : (ys : List Activation) (a b : Activation) (n : Focus) (x : ℕ) (v : Value) → next_assigns n ≡ Some (x, v)
    → b.outer ≡ a.outer → b.method ≡ a.method → b.stage ≡ a.stage → b.temps.items ≡ set_value a.temps.items x v
    → fill_statements (bottom (layers (ys ++ a ∷ []) (stopped n))) (AsStatements T.Done) ≡ bottom (layers (ys ++ b ∷ []) (Running (rest_of n)))
assigned_inside ys a b n x v h o k e t = rw (layers_more ys b (Running (rest_of n)), o, k, e, t) (assigned_around ys a n x v h)

-- the last of a list
last_more : (ys : List Activation) (a : Activation) → slice_get (ys ++ a ∷ []) (length (ys ++ a ∷ []) - 1) ≡ Some a
last_more [] a = refl
last_more (b ∷ []) a = refl
last_more (b ∷ d ∷ ys) a =
    let e : suc (suc (length (ys ++ a ∷ []))) - 1 ≡ suc (length (ys ++ a ∷ [])) = omega arith in
    let g : suc (length (ys ++ a ∷ [])) - 1 ≡ length (ys ++ a ∷ []) = omega arith in
    rw e (rw g at (last_more (d ∷ ys) a))

-- a method at its end is left
left_around : (o : SuspendedCall) (st : Stage) (m : ℕ) (t : Store) (v : Operand) (qs : Statements)
    → refilled_content (around o (caller_of st o) m t (T.Done, operand v, behind (caller_of st o) qs)) (left_part o v.value) ≡ after_left o v.value
left_around (O.Expression ks s gs) st m t v qs =
    let f : Expression = T.Frame m t T.Done (operand v) T.Done in
    rw (for_no_one st ks s gs)
    (fill_slotted s (left gs.items) (nested ks.items f) (AsExpression (literal v.value)) (open_nested ks.items f refl)
    ∙ ap (slotted s (left gs.items)) (fill_nested ks.items f (AsExpression (literal v.value)) refl))
left_around (O.Statement j gs) st m t v qs = by (caller_of st (O.Statement j gs))
  where
    by : (k : Option ℕ) → refilled_content (around (O.Statement j gs) k m t (T.Done, operand v, behind k qs)) (AsStatements T.Done) ≡ Running (left gs.items)
    by None = refl
    by (Some k) = refl

left_inside : (ys : List Activation) (a : Activation) (n : Focus) → is_end n ≡ true
    → fill_statements (bottom (layers (ys ++ a ∷ []) (stopped n))) (left_part a.outer (end_value a.stage n).value) ≡ bottom (layers ys (after_left a.outer (end_value a.stage n).value))
left_inside ys a n h =
    let k = caller_of a.stage a.outer in
    let part = left_part a.outer (end_value a.stage n).value in
    rw (layers_more ys a (stopped n))
    (fill_term ys (wrapped a (stopped n)) part (plain_around a.outer k a.method.0 a.temps.items _)
    ∙ ap (λ d. bottom (layers ys d)) (ap (λ b. refilled_content (around a.outer k a.method.0 a.temps.items b) part) (at_end a.outer a.stage n h)
    ∙ left_around a.outer a.stage a.method.0 a.temps.items (end_value a.stage n) (post_of a.stage)))

pub left_call : (xs ys : List Activation) (a : Activation) (n : Focus) → xs ≡ ys ++ a ∷ [] → is_end n ≡ true
    → fill_statements (bottom (layers xs (stopped n))) (end_part xs n) ≡ bottom (layers ys (after_left a.outer (end_value a.stage n).value))
left_call xs ys a n e h = rw (e, last_more ys a) (left_inside ys a n h)

pub left_bottom : (xs : List Activation) (n : Focus) → xs ≡ [] → is_end n ≡ true → fill_statements (bottom (layers xs (stopped n))) (end_part xs n) ≡ T.Done
left_bottom xs (N.Value v) e h = rw e refl
left_bottom xs N.Over e h = rw e refl
left_bottom xs (N.Statement k gs) e h = absurd (grind arith)
left_bottom xs (N.Expression r ks s gs) e h = absurd (grind arith)

-- what is left of a method once its caller has the value: its post statements, for no one, if there are any
abbrev pub left_of : SuspendedCall → ℕ → Store → Operand → Statements → Content
left_of o m t v T.Done = after_left o v.value
left_of o m t v (T.Then s ss) = around o None m t (T.Done, operand v, T.Then s ss)

-- a value is given to its caller
returned_around : (o : SuspendedCall) (k : ℕ) (m : ℕ) (t : Store) (v : Operand) (qs : Statements) → caller_at o ≡ Some k
    → refilled_content (around o (Some k) m t (T.Done, operand v, qs)) (AsStatements (work_left (At (end_redex o (Some k) m t v qs) t))) ≡ left_of o m t v qs
returned_around (O.Expression ks s gs) k m t v qs h = absurd (grind arith)
returned_around (O.Statement j gs) k m t v T.Done h = refl
returned_around (O.Statement j gs) k m t v (T.Then q qs) h = refl

pub returned_call : (ys : List Activation) (a : Activation) (n : Focus) (k : ℕ) → is_end n ≡ true → caller_of a.stage a.outer ≡ Some k
    → fill_statements (bottom (layers (ys ++ a ∷ []) (stopped n))) (AsStatements (work_left (statements_redex [] (bottom (layers (ys ++ a ∷ []) (stopped n))))))
    ≡ bottom (layers ys (left_of a.outer a.method.0 a.temps.items (end_value a.stage n) (post_of a.stage)))
returned_call ys a n k h g =
    let m = a.method.0 in
    let t = a.temps.items in
    let v = end_value a.stage n in
    let part = AsStatements (work_left (At (last_redex a v) t)) in
    ap (λ f. fill_statements (bottom (layers (ys ++ a ∷ []) (stopped n))) (AsStatements (work_left f))) (end_next ys a n h)
    ∙ rw (layers_more ys a (stopped n))
    (fill_term ys (wrapped a (stopped n)) part (plain_around a.outer (caller_of a.stage a.outer) m t _)
    ∙ ap (λ d. bottom (layers ys d)) (ap (λ b. refilled_content (around a.outer (caller_of a.stage a.outer) m t b) part) (at_end a.outer a.stage n h)
    ∙ rw g (returned_around a.outer k m t v (post_of a.stage) (asks a.stage a.outer k g))))
  where
    asks : (st : Stage) (o : SuspendedCall) (k : ℕ) → caller_of st o ≡ Some k → caller_at o ≡ Some k
    asks (A.Body e qs) o k h = h
    asks (A.Post w) o k h = absurd (grind arith)

awaited_last : (ys : List Activation) (a : Activation) → is_awaited (ys ++ a ∷ []) ≡ true → (k : ℕ) × (caller_of a.stage a.outer ≡ Some k)
awaited_last ys a h = by (caller_of a.stage a.outer) (sym (ap last_awaited (last_more ys a)) ∙ h)
  where
    by : (o : Option ℕ) → is_some o ≡ true → (k : ℕ) × (o ≡ Some k)
    by None i = absurd (grind arith)
    by (Some k) i = (k, refl)

-- without post statements the method is gone
pub returned_left : (xs ys : List Activation) (a : Activation) (n : Focus) (e : _) (qs : _) → xs ≡ ys ++ a ∷ [] → is_end n ≡ true → is_awaited xs ≡ true
    → a.stage ≡ A.Body e qs → length qs.now ≡ 0
    → fill_statements (bottom (layers xs (stopped n))) (AsStatements (work_left (statements_redex [] (bottom (layers xs (stopped n))))))
    ≡ bottom (layers ys (after_left a.outer (end_value a.stage n).value))
returned_left xs ys a n e qs s h w g z =
    let k = awaited_last ys a (rw s at w) in
    let p : post_of a.stage ≡ T.Done = ap post_of g ∙ nothing_left qs.now z in
    rw s (returned_call ys a n k.0 h k.1 ∙ ap (λ ss. bottom (layers ys (left_of a.outer a.method.0 a.temps.items (end_value a.stage n) ss))) p)

-- else it is under way with them, for no one
pub returned_post : (xs ys : List Activation) (a : Activation) (n : Focus) (e : _) (qs : _) → xs ≡ ys ++ a ∷ [] → is_end n ≡ true → is_awaited xs ≡ true
    → a.stage ≡ A.Body e qs → (length qs.now ≡ 0 → ⊥)
    → fill_statements (bottom (layers xs (stopped n))) (AsStatements (work_left (statements_redex [] (bottom (layers xs (stopped n))))))
    ≡ bottom (layers ys (around a.outer None a.method.0 a.temps.items (T.Done, operand (end_value a.stage n), statements_of qs.now)))
returned_post xs ys a n e qs s h w g z =
    let k = awaited_last ys a (rw s at w) in
    rw s (returned_call ys a n k.0 h k.1 ∙ ap (λ ss. bottom (layers ys (left_of a.outer a.method.0 a.temps.items (end_value a.stage n) ss))) (ap post_of g)
    ∙ by qs.now z)
  where
    by : (ss : List Stmt) → (length ss ≡ 0 → ⊥)
        → bottom (layers ys (left_of a.outer a.method.0 a.temps.items (end_value a.stage n) (statements_of ss)))
        ≡ bottom (layers ys (around a.outer None a.method.0 a.temps.items (T.Done, operand (end_value a.stage n), statements_of ss)))
    by [] i = absurd (i refl)
    by (q ∷ qs) i = refl
