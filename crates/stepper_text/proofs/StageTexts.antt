-- The text of a method under way, from the stepper's parts.
use Rattle.std.proofs.Common.{◌≡◌, refl, sym, ap, ◌∙◌, ℕ, List, [], ◌∷◌, ◌++◌, Option, Some, None, false, append-nil, codes}
use Rattle.text_scan.specs.Text.{Text}
use Rattle.pool_syntax.specs.TreeOf.{expression_of, statements_of}
use Rattle.pool_syntax.specs.Terms as T
use Rattle.pool_syntax.specs.Terms.{Store, Expression, Statements}
use Rattle.pool_relation.specs.Reducible.{is_value}
use Rattle.record_writer.specs.RecordText.{value_text}
use Rattle.stepper_terms.specs.declared.contexts.ExpressionContext.{ExpressionContext}
use Rattle.stepper_terms.specs.declared.contexts.Ready.{Ready}
use Rattle.stepper_terms.specs.declared.contexts.Ready.TheVariants as R
use Rattle.stepper_terms.specs.declared.contexts.StatementContext.{StatementContext}
use Rattle.stepper_terms.specs.declared.contexts.StatementContext.TheVariants as L
use Rattle.stepper_terms.specs.declared.contexts.SuspendedCall.{SuspendedCall}
use Rattle.stepper_terms.specs.declared.contexts.SuspendedCall.TheVariants as O
use Rattle.stepper_terms.specs.declared.contexts.Stage.{Stage}
use Rattle.stepper_terms.specs.declared.contexts.Stage.TheVariants as A
use Rattle.stepper_terms.specs.declared.contexts.Focus.{Focus}
use Rattle.stepper_terms.specs.declared.contexts.Focus.TheVariants as N
use Rattle.stepper_terms.specs.declared.contexts.Activation.{Activation}
use Rattle.stepper_terms.specs.Parts.{around, bottom, caller_of, inside, layers, left, nested, ready, slotted, stopped, Content}
use Rattle.term_text.specs.Words.{bare_text, braced, more_statements, word}
use Rattle.term_text.specs.Marked.{marked, marked_level, marked_statements, method_text, boxed}
use Rattle.stepper_text.specs.Contents.{ready_text, running_text}
use Rattle.stepper_text.specs.Inners.{at_first, at_now, at_outer, at_text, done_text, going_text, is_value_slot, later_text, result_line, stage_at}
use Rattle.stepper_text.proofs.Nested.{not_value}
use Rattle.stepper_text.proofs.Slotted.{all_values, ready_is, task_is}
use Rattle.stepper_text.proofs.UnderWay.{running_is}

-- the redex is no value, and needs no parentheses in its brackets
ready_open : (r : Ready) → is_value (ready r) ≡ false
ready_open (R.Me p) = refl
ready_open (R.Variable x p) = refl
ready_open (R.Create c p) = refl
ready_open (R.Prefix op v p) = refl
ready_open (R.Infix op v w p) = refl
ready_open (R.Call m vs p) = refl
ready_open (R.Send to m vs p) = refl
ready_open (R.Wait b m) = refl

ready_low : (r : Ready) → marked_level (ready r) ≡ 8
ready_low (R.Me p) = refl
ready_low (R.Variable x p) = refl
ready_low (R.Create c p) = refl
ready_low (R.Prefix op v p) = refl
ready_low (R.Infix op v w p) = refl
ready_low (R.Call m vs p) = refl
ready_low (R.Send to m vs p) = rw (all_values vs.items) refl
ready_low (R.Wait b m) = refl

-- the redex, and a method under way, in these contexts of a statement
evaluates : (names : List Text) (s : StatementContext) (ks : List ExpressionContext) (r : Ready) (rest : Statements)
    → running_text names s ks (boxed (ready_text names r)) rest ≡ marked_statements names (bottom (slotted s rest (nested ks (ready r))))
evaluates names s ks r rest =
    sym (running_is names s ks (ready r) rest (ready_open r) (ready_low r) ∙ ap (λ t. running_text names s ks t rest) (ready_is names r))

waits : (names : List Text) (s : StatementContext) (ks : List ExpressionContext) (m : ℕ) (t : Store) (b : Statements × Expression × Statements) (rest : Statements)
    → running_text names s ks (braced names m) rest ≡ marked_statements names (bottom (slotted s rest (nested ks (T.Frame m t b.0 b.1 b.2))))
waits names s ks m t b rest = sym (running_is names s ks (T.Frame m t b.0 b.1 b.2) rest refl refl)

-- a part in these contexts of a statement, in a method under way at this stage
abbrev going : List Text → Stage → StatementContext → Text → Text
going names (A.Body e qs) s inner = going_text (is_value_slot s) inner (bare_text names (expression_of e.now)) (later_text names (statements_of qs.now))
going names (A.Post v) s inner = result_line (word (value_text v.value)) (word (codes "post") ++ inner)

abbrev pub staged : List Text → SuspendedCall → Stage → Content → Text
staged names w st c = method_text names (caller_of st w) (inside w st c).0 (inside w st c).1 (inside w st c).2

slot_stage : (names : List Text) (w : SuspendedCall) (st : Stage) (s : StatementContext) (ks : List ExpressionContext) (x : Expression) (rest : Statements) (inner : Text) → is_value x ≡ false
    → inner ≡ marked_statements names (bottom (slotted s rest (nested ks x))) → going names st s inner ≡ staged names w st (slotted s rest (nested ks x))
slot_stage names w (A.Body e qs) (L.Assign n) ks x rest inner h is = ap (λ t. t ++ result_line (bare_text names (expression_of e.now)) (later_text names (statements_of qs.now))) is
slot_stage names w (A.Body e qs) L.Write ks x rest inner h is = ap (λ t. t ++ result_line (bare_text names (expression_of e.now)) (later_text names (statements_of qs.now))) is
slot_stage names w (A.Body e qs) L.Do ks x rest inner h is = ap (λ t. t ++ result_line (bare_text names (expression_of e.now)) (later_text names (statements_of qs.now))) is
slot_stage names w (A.Body e qs) (L.Destination m es) ks x rest inner h is = ap (λ t. t ++ result_line (bare_text names (expression_of e.now)) (later_text names (statements_of qs.now))) is
slot_stage names w (A.Body e qs) (L.Argument to m vs es) ks x rest inner h is = ap (λ t. t ++ result_line (bare_text names (expression_of e.now)) (later_text names (statements_of qs.now))) is
slot_stage names w (A.Body e qs) (L.If these those) ks x rest inner h is = ap (λ t. t ++ result_line (bare_text names (expression_of e.now)) (later_text names (statements_of qs.now))) is
slot_stage names w (A.Body e qs) (L.Loop k body) ks x rest inner h is = ap (λ t. t ++ result_line (bare_text names (expression_of e.now)) (later_text names (statements_of qs.now))) is
slot_stage names w (A.Body e qs) (L.Guard done at more) ks x rest inner h is = ap (λ t. t ++ result_line (bare_text names (expression_of e.now)) (later_text names (statements_of qs.now))) is
slot_stage names w (A.Body e qs) L.Value ks x rest inner h is =
    let y = nested ks x in
    let n : is_value y ≡ false = not_value ks x h in
    let plain : marked_statements names (T.Then (T.Do y) T.Done) ≡ marked names y = rw n (append-nil (marked names y)) in
    rw n (ap (λ t. result_line t (later_text names (statements_of qs.now))) (is ∙ plain))
slot_stage names w (A.Post v) (L.Assign n) ks x rest inner h is = ap (λ t. result_line (word (value_text v.value)) (word (codes "post") ++ t)) is
slot_stage names w (A.Post v) L.Write ks x rest inner h is = ap (λ t. result_line (word (value_text v.value)) (word (codes "post") ++ t)) is
slot_stage names w (A.Post v) L.Do ks x rest inner h is = ap (λ t. result_line (word (value_text v.value)) (word (codes "post") ++ t)) is
slot_stage names w (A.Post v) (L.Destination m es) ks x rest inner h is = ap (λ t. result_line (word (value_text v.value)) (word (codes "post") ++ t)) is
slot_stage names w (A.Post v) (L.Argument to m vs es) ks x rest inner h is = ap (λ t. result_line (word (value_text v.value)) (word (codes "post") ++ t)) is
slot_stage names w (A.Post v) (L.If these those) ks x rest inner h is = ap (λ t. result_line (word (value_text v.value)) (word (codes "post") ++ t)) is
slot_stage names w (A.Post v) (L.Loop k body) ks x rest inner h is = ap (λ t. result_line (word (value_text v.value)) (word (codes "post") ++ t)) is
slot_stage names w (A.Post v) (L.Guard done at more) ks x rest inner h is = ap (λ t. result_line (word (value_text v.value)) (word (codes "post") ++ t)) is
slot_stage names w (A.Post v) L.Value ks x rest inner h is = ap (λ t. result_line (word (value_text v.value)) (word (codes "post") ++ t)) is

-- the redex, in a method under way at this stage
now_stage : (names : List Text) (w : SuspendedCall) (st : Stage) (n : Focus) → stage_at names w st (at_now n) ≡ staged names w st (stopped n)
now_stage names w (A.Body e qs) (N.Expression r ks s gs) = slot_stage names w (A.Body e qs) s ks.items (ready r) (left gs.items) _ (ready_open r) (evaluates names s ks.items r (left gs.items))
now_stage names w (A.Post v) (N.Expression r ks s gs) = slot_stage names w (A.Post v) s ks.items (ready r) (left gs.items) _ (ready_open r) (evaluates names s ks.items r (left gs.items))
now_stage names w (A.Body e qs) (N.Statement k gs) =
    ap (λ t. (t ++ more_statements names (left gs.items)) ++ result_line (bare_text names (expression_of e.now)) (later_text names (statements_of qs.now))) (sym (task_is names k))
now_stage names w (A.Post v) (N.Statement k gs) =
    ap (λ t. result_line (word (value_text v.value)) (word (codes "post") ++ (t ++ more_statements names (left gs.items)))) (sym (task_is names k))
now_stage names (O.Expression ks s gs) (A.Body e qs) (N.Value v) = refl
now_stage names (O.Statement None gs) (A.Body e qs) (N.Value v) = refl
now_stage names (O.Statement (Some k) gs) (A.Body e qs) (N.Value v) = refl
now_stage names w (A.Post u) (N.Value v) = sym (append-nil (done_text u.value))
now_stage names (O.Expression ks s gs) (A.Body e qs) N.Over = refl
now_stage names (O.Statement None gs) (A.Body e qs) N.Over = refl
now_stage names (O.Statement (Some k) gs) (A.Body e qs) N.Over = refl
now_stage names w (A.Post u) N.Over = sym (append-nil (done_text u.value))

-- a method under way in it
outer_stage : (names : List Text) (w : SuspendedCall) (st : Stage) (v : SuspendedCall) (k : Option ℕ) (m : ℕ) (t : Store) (b : Statements × Expression × Statements)
    → stage_at names w st (at_outer m v) ≡ staged names w st (around v k m t b)
outer_stage names w (A.Body e qs) (O.Expression ks s gs) k m t b = slot_stage names w (A.Body e qs) s ks.items (T.Frame m t b.0 b.1 b.2) (left gs.items) _ refl (waits names s ks.items m t b (left gs.items))
outer_stage names w (A.Post v) (O.Expression ks s gs) k m t b = slot_stage names w (A.Post v) s ks.items (T.Frame m t b.0 b.1 b.2) (left gs.items) _ refl (waits names s ks.items m t b (left gs.items))
outer_stage names w (A.Body e qs) (O.Statement j gs) k m t b = refl
outer_stage names w (A.Post v) (O.Statement j gs) k m t b = refl

pub first_stage : (names : List Text) (w : SuspendedCall) (st : Stage) (calls : List Activation) (n : Focus) → stage_at names w st (at_first calls n) ≡ staged names w st (layers calls (stopped n))
first_stage names w st [] n = now_stage names w st n
first_stage names w st (a ∷ more) n =
    outer_stage names w st a.outer (caller_of a.stage a.outer) a.method.0 a.temps.items (inside a.outer a.stage (layers more (stopped n)))

-- the same in the body
now_text : (names : List Text) (n : Focus) → at_text names (at_now n) ≡ marked_statements names (bottom (stopped n))
now_text names (N.Expression r ks s gs) = evaluates names s ks.items r (left gs.items)
now_text names (N.Statement k gs) = ap (λ t. t ++ more_statements names (left gs.items)) (sym (task_is names k))
now_text names (N.Value v) = refl
now_text names N.Over = refl

outer_text : (names : List Text) (v : SuspendedCall) (k : Option ℕ) (m : ℕ) (t : Store) (b : Statements × Expression × Statements) → at_text names (at_outer m v) ≡ marked_statements names (bottom (around v k m t b))
outer_text names (O.Expression ks s gs) k m t b = waits names s ks.items m t b (left gs.items)
outer_text names (O.Statement j gs) k m t b = refl

pub first_text : (names : List Text) (calls : List Activation) (n : Focus) → at_text names (at_first calls n) ≡ marked_statements names (bottom (layers calls (stopped n)))
first_text names [] n = now_text names n
first_text names (a ∷ more) n = outer_text names a.outer (caller_of a.stage a.outer) a.method.0 a.temps.items (inside a.outer a.stage (layers more (stopped n)))
