-- The focus after statements and after a value.
use Rattle.std.proofs.Common.{◌≡◌, refl, ap, ◌∙◌, ℕ, ◌-◌, List, [], ◌∷◌, ◌++◌, length, slice_get, Option, Some, None, arith}
use Rattle.pool_syntax.specs.TreeOf.{statements_of}
use Rattle.pool_syntax.specs.Terms as T
use Rattle.pool_syntax.specs.Terms.{Expression, Statements}
use Rattle.stepper_terms.specs.declared.contexts.Operand.{Operand}
use Rattle.stepper_terms.specs.declared.contexts.SuspendedCall.{SuspendedCall}
use Rattle.stepper_terms.specs.declared.contexts.Stage.{Stage}
use Rattle.stepper_terms.specs.declared.contexts.Stage.TheVariants as A
use Rattle.stepper_terms.specs.declared.contexts.Activation.{Activation}
use Rattle.stepper_terms.specs.declared.contexts.Focus.{Focus}
use Rattle.stepper_terms.specs.declared.contexts.Focus.TheVariants as N
use Rattle.stepper_terms.specs.Parts.{content, stopped, ahead, operand, Running, Valued, Over, caller_of, inside, around, layers, bottom, value_of_stage, value_of_last, wanted}
use Rattle.stepper_terms.proofs.NextAction.{last_split, none_last}
use Rattle.stepper_terms.proofs.Layers.{layers_more}

bottom_ahead : (ss : Statements) → bottom (ahead None ss) ≡ ss
bottom_ahead T.Done = refl
bottom_ahead (T.Then s ss) = refl

-- where no value is wanted, none is at hand
stopped_ahead : (n : Focus) (ss : Statements) → content n ≡ ahead None ss → bottom (stopped n) ≡ ss
stopped_ahead (N.Value v) T.Done h = absurd (grind arith)
stopped_ahead (N.Value v) (T.Then s ss) h = absurd (grind arith)
stopped_ahead (N.Expression r ks s gs) ss h = ap bottom h ∙ bottom_ahead ss
stopped_ahead (N.Statement k gs) ss h = ap bottom h ∙ bottom_ahead ss
stopped_ahead N.Over ss h = ap bottom h ∙ bottom_ahead ss

pub body_ahead : (n : Focus) (e : Option Expression) (ss : Statements) → e ≡ None → content n ≡ ahead e ss → bottom (stopped n) ≡ ss
body_ahead n e ss z h = stopped_ahead n ss (rw z at h)

pub post_ahead : (ys : List Activation) (a : Activation) (v : Operand) (n : Focus) (e : Option Expression) (qs : Statements) → a.stage ≡ A.Post v → e ≡ None → content n ≡ ahead e qs
    → bottom (layers (ys ++ a ∷ []) (stopped n)) ≡ bottom (layers ys (around a.outer None a.method.0 a.temps.items (T.Done, operand v, qs)))
post_ahead ys a v n e qs g z h =
    rw (layers_more ys a (stopped n), g) (ap (λ ss. bottom (layers ys (around a.outer None a.method.0 a.temps.items (T.Done, operand v, ss)))) (body_ahead n e qs z h))

inside_ahead : (o : SuspendedCall) (st : Stage) (ss : Statements) → inside o st (ahead (value_of_stage st) ss) ≡ inside o st (Running ss)
inside_ahead o (A.Body e qs) T.Done = refl
inside_ahead o (A.Body e qs) (T.Then s ss) = refl
inside_ahead o (A.Post v) T.Done = refl
inside_ahead o (A.Post v) (T.Then s ss) = refl

-- what comes next stands for all that follows
pub all_ahead : (xs : List Activation) (n : Focus) (e : Option Expression) (ss : Statements) → e ≡ wanted xs → content n ≡ ahead e ss
    → bottom (layers xs (content n)) ≡ bottom (layers xs (Running ss))
all_ahead xs n e ss w h = ap (λ c. bottom (layers xs c)) (h ∙ ap (λ d. ahead d ss) w) ∙ by (slice_get xs (length xs - 1)) refl
  where
    by : (o : Option Activation) → slice_get xs (length xs - 1) ≡ o → bottom (layers xs (ahead (value_of_last o) ss)) ≡ bottom (layers xs (Running ss))
    by None g = rw (none_last xs g) (bottom_ahead ss)
    by (Some a) g =
        let s = last_split xs a g in
        rw (s.1, layers_more s.0 a (ahead (value_of_stage a.stage) ss), layers_more s.0 a (Running ss))
        (ap (λ b. bottom (layers s.0 (around a.outer (caller_of a.stage a.outer) a.method.0 a.temps.items b))) (inside_ahead a.outer a.stage ss))

-- behind a value for which a caller waits the post statements are not begun
pub value_for_caller : (ys : List Activation) (a : Activation) (v : Operand) (e : _) (qs : _) (k : ℕ) → a.stage ≡ A.Body e qs → caller_of a.stage a.outer ≡ Some k
    → layers (ys ++ a ∷ []) (stopped (N.Value v)) ≡ layers (ys ++ a ∷ []) (Valued (operand v))
value_for_caller ys a v e qs k h g =
    let c : caller_of (A.Body e qs) a.outer ≡ Some k = rw h at g in
    rw (layers_more ys a (Over v), layers_more ys a (Valued (operand v)), h, c) refl

-- behind any other value they are
pub value_for_no_one : (ys : List Activation) (a : Activation) (v : Operand) (e : _) (qs : _) → a.stage ≡ A.Body e qs → caller_of a.stage a.outer ≡ None
    → bottom (layers ys (around a.outer None a.method.0 a.temps.items (T.Done, operand v, statements_of qs.now))) ≡ bottom (layers (ys ++ a ∷ []) (Valued (operand v)))
value_for_no_one ys a v e qs h g =
    let c : caller_of (A.Body e qs) a.outer ≡ None = rw h at g in
    rw (layers_more ys a (Valued (operand v)), h, c) refl

-- among post statements a value would be dropped
pub value_in_post : (ys : List Activation) (a : Activation) (v w : Operand) (n : Focus) → a.stage ≡ A.Post w → stopped n ≡ Running (T.Then (T.Do (operand v)) T.Done)
    → layers (ys ++ a ∷ []) (stopped n) ≡ layers (ys ++ a ∷ []) (Valued (operand v))
value_in_post ys a v w n h g = rw (g, layers_more ys a (Running (T.Then (T.Do (operand v)) T.Done)), layers_more ys a (Valued (operand v)), h) refl
