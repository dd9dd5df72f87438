-- The lines of an object's work are those of its term.
use Rattle.std.proofs.Common.{◌≡◌, refl, sym, ap, ap₂, ◌∙◌, ℕ, List, [], ◌∷◌, ◌++◌, Some, None, codes}
use Rattle.text_scan.specs.Text.{Text}
use Rattle.run_types.specs.Table.{text_at}
use Rattle.pool_syntax.specs.Terms as T
use Rattle.pool_syntax.specs.Terms.{Store}
use Rattle.record_writer.specs.RecordText.{led, object_text}
use Rattle.stepper_terms.specs.declared.contexts.Ready.{Ready}
use Rattle.stepper_terms.specs.declared.contexts.Ready.TheVariants as R
use Rattle.stepper_terms.specs.declared.contexts.Task.{Task}
use Rattle.stepper_terms.specs.declared.contexts.Task.TheVariants as K
use Rattle.stepper_terms.specs.declared.contexts.SuspendedCall.{SuspendedCall}
use Rattle.stepper_terms.specs.declared.contexts.SuspendedCall.TheVariants as O
use Rattle.stepper_terms.specs.declared.contexts.Stage.{Stage}
use Rattle.stepper_terms.specs.declared.contexts.Stage.TheVariants as A
use Rattle.stepper_terms.specs.declared.contexts.Focus.{Focus}
use Rattle.stepper_terms.specs.declared.contexts.Focus.TheVariants as N
use Rattle.stepper_terms.specs.declared.contexts.Activation.{Activation}
use Rattle.stepper_terms.specs.declared.contexts.Continuation.{Continuation}
use Rattle.stepper_terms.specs.Parts.{around, caller_of, inside, layers, left, nested, ready, stopped, task, term_of, Content}
use Rattle.term_text.specs.Levels.{bindings, ended, expression_lines, statement_lines, term_lines}
use Rattle.stepper_text.specs.Inners.{at_first, head_text, level_line, level_lines, stage_at, work_lines, At}
use Rattle.stepper_text.specs.ContentLines.{content_lines}
use Rattle.stepper_text.proofs.MethodLines.{in_bottom, in_guarded, in_inside, in_nested, in_operands, in_slotted}
use Rattle.stepper_text.proofs.StageTexts.{first_stage, first_text, staged}

module _ (names : List Text) (o : ℕ) where
  -- nothing is under way in the redex
  ready_quiet : (r : Ready) → expression_lines names o (ready r) ≡ []
  ready_quiet (R.Me p) = refl
  ready_quiet (R.Variable x p) = refl
  ready_quiet (R.Create c p) = refl
  ready_quiet (R.Prefix op v p) = refl
  ready_quiet (R.Infix op v w p) = refl
  ready_quiet (R.Call m vs p) = in_operands names o vs.items T.NoArgs
  ready_quiet (R.Send to m vs p) = in_operands names o vs.items T.NoArgs
  ready_quiet (R.Wait b m) = refl

  task_quiet : (k : Task) → statement_lines names o (task k) ≡ []
  task_quiet (K.Assign n v) = refl
  task_quiet (K.Write v) = refl
  task_quiet (K.WriteText s) = refl
  task_quiet (K.Do v) = refl
  task_quiet (K.Async to m vs) = in_operands names o vs.items T.NoArgs
  task_quiet (K.If v these those) = refl
  task_quiet (K.Loop v k body) = refl
  task_quiet (K.While k body) = refl
  task_quiet (K.Answer ns) = refl
  task_quiet (K.Select gs) = in_guarded names o gs.items T.NoAlts

  now_quiet : (n : Focus) → content_lines names o (stopped n) ≡ []
  now_quiet (N.Expression r ks s gs) = in_slotted names o s (left gs.items) (nested ks.items (ready r)) ∙ in_nested names o ks.items (ready r) ∙ ready_quiet r
  now_quiet (N.Statement k gs) = task_quiet k
  now_quiet (N.Value v) = refl
  now_quiet N.Over = refl

  -- a method under way: its line, and those of the methods under way in it
  level_is : (w : SuspendedCall) (st : Stage) (m : ℕ) (t : Store) (c : Content) (at : At) → stage_at names w st at ≡ staged names w st c
      → content_lines names o (around w (caller_of st w) m t (inside w st c)) ≡ (head_text names o m st w ++ (bindings names t ++ ended (stage_at names w st at))) ++ content_lines names o c
  level_is (O.Expression ks s gs) (A.Body e qs) m t c at is =
      let w = O.Expression ks s gs in
      let st = A.Body e qs in
      let b = inside w st c in
      in_slotted names o s (left gs.items) (nested ks.items (T.Frame m t b.0 b.1 b.2)) ∙ in_nested names o ks.items (T.Frame m t b.0 b.1 b.2)
      ∙ ap₂ (λ u v. (codes "own" ++ (led (object_text o ∷ text_at names m ∷ []) ++ (bindings names t ++ ended u))) ++ v) (sym is) (in_inside names o w st c)
  level_is (O.Expression ks s gs) (A.Post x) m t c at is =
      let w = O.Expression ks s gs in
      let st = A.Post x in
      let b = inside w st c in
      in_slotted names o s (left gs.items) (nested ks.items (T.Frame m t b.0 b.1 b.2)) ∙ in_nested names o ks.items (T.Frame m t b.0 b.1 b.2)
      ∙ ap₂ (λ u v. (codes "own" ++ (led (object_text o ∷ text_at names m ∷ []) ++ (bindings names t ++ ended u))) ++ v) (sym is) (in_inside names o w st c)
  level_is (O.Statement (Some k) gs) (A.Body e qs) m t c at is =
      ap₂ (λ u v. (codes "serve" ++ (led (object_text o ∷ text_at names m ∷ object_text k ∷ []) ++ (bindings names t ++ ended u))) ++ v) (sym is)
      (in_inside names o (O.Statement (Some k) gs) (A.Body e qs) c)
  level_is (O.Statement None gs) (A.Body e qs) m t c at is =
      ap₂ (λ u v. (codes "take" ++ (led (object_text o ∷ text_at names m ∷ []) ++ (bindings names t ++ ended u))) ++ v) (sym is)
      (in_inside names o (O.Statement None gs) (A.Body e qs) c)
  level_is (O.Statement j gs) (A.Post x) m t c at is =
      ap₂ (λ u v. (codes "take" ++ (led (object_text o ∷ text_at names m ∷ []) ++ (bindings names t ++ ended u))) ++ v) (sym is)
      (in_inside names o (O.Statement j gs) (A.Post x) c)

  levels_are : (calls : List Activation) (n : Focus) → content_lines names o (layers calls (stopped n)) ≡ level_lines names o calls n
  levels_are [] n = now_quiet n
  levels_are (a ∷ more) n =
      level_is a.outer a.stage a.method.0 a.temps.items (layers more (stopped n)) (at_first more n) (first_stage names a.outer a.stage more n)
      ∙ ap (λ t. level_line names o a (at_first more n) ++ t) (levels_are more n)

  pub work_is : (w : Continuation) → work_lines names o w ≡ term_lines names o (term_of w)
  work_is w =
      ap₂ (λ u v. (codes "body" ++ (led (object_text o ∷ []) ++ ended u)) ++ v) (first_text names w.calls.items w.next)
      (sym (in_bottom names o (layers w.calls.items (stopped w.next)) ∙ levels_are w.calls.items w.next))
