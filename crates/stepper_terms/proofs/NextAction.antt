-- The next action of an object, from the focus of its work.
use Rattle.std.proofs.Common.{◌≡◌, refl, ap, ℕ, suc, ◌-◌, List, [], ◌∷◌, ◌++◌, length, slice_get, Option, Some, None, true, arith}
use Rattle.pool_syntax.specs.Terms as T
use Rattle.pool_syntax.specs.Terms.{Store, Statements, ProgramTree}
use Rattle.pool_relation.specs.Reducible as R
use Rattle.pool_relation.specs.Reducible.{Reducible, Evaluated, At, expression_redex, statements_redex}
use Rattle.pool_relation.specs.Action as A
use Rattle.pool_relation.specs.Action.{Object, Action, action, redex_action}
use Rattle.stepper_terms.specs.declared.contexts.Operand.{Operand}
use Rattle.stepper_terms.specs.declared.contexts.ExpressionContext.{ExpressionContext}
use Rattle.stepper_terms.specs.declared.contexts.Ready.{Ready}
use Rattle.stepper_terms.specs.declared.contexts.StatementContext.{StatementContext}
use Rattle.stepper_terms.specs.declared.contexts.Task.{Task}
use Rattle.stepper_terms.specs.declared.contexts.SuspendedCall.{SuspendedCall}
use Rattle.stepper_terms.specs.declared.contexts.SuspendedCall.TheVariants as O
use Rattle.stepper_terms.specs.declared.contexts.Stage.{Stage}
use Rattle.stepper_terms.specs.declared.contexts.Stage.TheVariants as G
use Rattle.stepper_terms.specs.declared.contexts.Activation.{Activation}
use Rattle.stepper_terms.specs.declared.contexts.Focus.{Focus}
use Rattle.stepper_terms.specs.declared.contexts.Focus.TheVariants as N
use Rattle.stepper_terms.specs.Parts.{operand, nested, ready, task, slotted, left, Running, stopped, caller_of, behind, inside, around, wrapped, layers, bottom}
use Rattle.stepper_terms.specs.Reduced.{reduced, task_redex, end_redex, post_of, last_redex, temps_at}
use Rattle.stepper_terms.proofs.ContentRedexes.{Finds}
use Rattle.stepper_terms.specs.Changes.{is_end, end_value}
use Rattle.stepper_terms.proofs.Layers.{found_nested, found_slotted, found_layers, found_bottom, found_ready, found_task, layers_more, temps_more}

-- the last of a list
pub last_split : (xs : List Activation) (a : Activation) → slice_get xs (length xs - 1) ≡ Some a → (ys : List Activation) × (xs ≡ ys ++ a ∷ [])
last_split [] a h = absurd (grind arith)
last_split (b ∷ []) a h = ([], grind arith)
last_split (b ∷ d ∷ xs) a h =
    let e : suc (suc (length xs)) - 1 ≡ suc (length xs) = omega arith in
    let g : suc (length xs) - 1 ≡ length xs = omega arith in
    let k : slice_get (d ∷ xs) (length (d ∷ xs) - 1) ≡ Some a = rw g (rw e at h) in
    let r = last_split (d ∷ xs) a k in
    (b ∷ r.0, ap (λ l. b ∷ l) {y = r.0 ++ a ∷ []} r.1)

pub none_last : (xs : List Activation) → slice_get xs (length xs - 1) ≡ None → xs ≡ []
none_last [] h = refl
none_last (b ∷ []) h = absurd (grind arith)
none_last (b ∷ d ∷ xs) h =
    let e : suc (suc (length xs)) - 1 ≡ suc (length xs) = omega arith in
    let g : suc (length xs) - 1 ≡ length xs = omega arith in
    let k : slice_get (d ∷ xs) (length (d ∷ xs) - 1) ≡ None = rw g (rw e at h) in
    let r = none_last (d ∷ xs) k in
    absurd (grind (arith, r))

pub temps_last : (xs : List Activation) (a : Activation) → slice_get xs (length xs - 1) ≡ Some a → temps_at [] xs ≡ a.temps.items
temps_last xs a h = let s = last_split xs a h in rw s.1 (temps_more [] s.0 a)

-- the redex of the whole term
pub expression_next : (xs : List Activation) (s : StatementContext) (ss : Statements) (ks : List ExpressionContext) (r : Ready) → statements_redex [] (bottom (layers xs (slotted s ss (nested ks (ready r))))) ≡ At (reduced r) (temps_at [] xs)
expression_next xs s ss ks r =
    found_bottom (layers xs (slotted s ss (nested ks (ready r)))) (reduced r) (temps_at [] xs)
    (found_layers [] xs (slotted s ss (nested ks (ready r))) (reduced r) (temps_at [] xs)
    (found_slotted (temps_at [] xs) s ss (nested ks (ready r)) (reduced r) (temps_at [] xs)
    (found_nested (temps_at [] xs) ks (ready r) (reduced r) (temps_at [] xs) (found_ready (temps_at [] xs) r))))

pub statement_next : (xs : List Activation) (k : Task) (ss : Statements) → statements_redex [] (bottom (layers xs (Running (T.Then (task k) ss)))) ≡ At (task_redex k) (temps_at [] xs)
statement_next xs k ss =
    found_bottom (layers xs (Running (T.Then (task k) ss))) (task_redex k) (temps_at [] xs)
    (found_layers [] xs (Running (T.Then (task k) ss)) (task_redex k) (temps_at [] xs) (found_task (temps_at [] xs) k))

-- what is left in a method at its end
pub at_end : (o : SuspendedCall) (st : Stage) (n : Focus) → is_end n ≡ true
    → inside o st (stopped n) ≡ (T.Done, operand (end_value st n), behind (caller_of st o) (post_of st))
at_end o (G.Body e qs) (N.Value v) h = refl
at_end o (G.Body e qs) N.Over h = refl
at_end o (G.Post w) (N.Value v) h = refl
at_end o (G.Post w) N.Over h = refl
at_end o st (N.Statement k gs) h = absurd (grind arith)
at_end o st (N.Expression r ks s gs) h = absurd (grind arith)

pub for_no_one : (st : Stage) (ks : _) (s : StatementContext) (gs : _) → caller_of st (O.Expression ks s gs) ≡ None
for_no_one (G.Body e qs) ks s gs = refl
for_no_one (G.Post v) ks s gs = refl

found_end : (t : Store) (o : SuspendedCall) (st : Stage) (m : ℕ) (u : Store) (v : Operand) (qs : Statements)
    → Finds t (around o (caller_of st o) m u (T.Done, operand v, behind (caller_of st o) qs)) (end_redex o (caller_of st o) m u v qs) u
found_end t (O.Expression ks s gs) st m u v qs =
    rw (for_no_one st ks s gs) (found_slotted t s (left gs.items) _ (R.Leave v.value) u (found_nested t ks.items _ (R.Leave v.value) u refl))
found_end t (O.Statement j gs) st m u v qs = by (caller_of st (O.Statement j gs))
  where
    by : (k : Option ℕ) → Finds t (around (O.Statement j gs) k m u (T.Done, operand v, behind k qs)) (end_redex (O.Statement j gs) k m u v qs) u
    by None = refl
    by (Some k) = refl

pub end_next : (ys : List Activation) (a : Activation) (n : Focus) → is_end n ≡ true
    → statements_redex [] (bottom (layers (ys ++ a ∷ []) (stopped n))) ≡ At (last_redex a (end_value a.stage n)) a.temps.items
end_next ys a n h =
    rw (layers_more ys a (stopped n))
    (found_bottom (layers ys (wrapped a (stopped n))) _ _ (found_layers [] ys (wrapped a (stopped n)) _ _
    (rw (at_end a.outer a.stage n h) (found_end (temps_at [] ys) a.outer a.stage a.method.0 a.temps.items (end_value a.stage n) (post_of a.stage)))))

pub last_next : (xs : List Activation) (a : Activation) (n : Focus) → is_end n ≡ true → slice_get xs (length xs - 1) ≡ Some a
    → statements_redex [] (bottom (layers xs (stopped n))) ≡ At (last_redex a (end_value a.stage n)) a.temps.items
last_next xs a n h g = let s = last_split xs a g in rw s.1 (end_next s.0 a n h)

pub end_at_bottom : (xs : List Activation) (n : Focus) → is_end n ≡ true → slice_get xs (length xs - 1) ≡ None → statements_redex [] (bottom (layers xs (stopped n))) ≡ Evaluated tt
end_at_bottom xs (N.Value v) h g = rw (none_last xs g) refl
end_at_bottom xs N.Over h g = rw (none_last xs g) refl
end_at_bottom xs (N.Statement k gs) h g = absurd (grind arith)
end_at_bottom xs (N.Expression r ks s gs) h g = absurd (grind arith)

-- the action at a redex
pub action_at : (p : ProgramTree) (o : ℕ) (x : Object) (r : Reducible) (t : Store) → statements_redex [] x.term ≡ At r t → action p o x ≡ redex_action p o x t r
action_at p o x r t h = rw h refl

pub action_none : (p : ProgramTree) (o : ℕ) (x : Object) → statements_redex [] x.term ≡ Evaluated tt → action p o x ≡ A.Finished
action_none p o x h = rw h refl
