-- A state that names other objects alone stays the same under other names of the rest.
use Rattle.std.proofs.Common.{◌≡◌, ◌<◌, refl, ap, ◌∙◌, ℕ, List, [], ◌∷◌, Option, Some, None, true, false, not, ◌&&◌, ◌==◌, nat_lt}
use Rattle.std.proofs.lemmas.Bool.{and_parts, ltb-true, not-true}
use Rattle.std.specs.List.{list_all}
use Rattle.run_types.specs.declared.types.Value.{Value}
use Rattle.run_types.specs.declared.types.Value.TheVariants as V
use Rattle.pool_syntax.specs.declared.tree.Alt.{Alt}
use Rattle.pool_syntax.specs.Terms as T
use Rattle.pool_syntax.specs.Terms.{Store, Expression, Expressions, Statements, Alternatives, append}
use Rattle.pool_syntax.specs.TreeOf.{expression_of, expressions_of, statements_of}
use Rattle.search_laws.specs.Renamed.{renamed_value, renamed_store, renamed_name, renamed_expression, renamed_expressions, renamed_statement, renamed_statements, renamed_alternatives, renamed_object}
use Rattle.stepper_terms.specs.declared.contexts.Operand.{Operand}
use Rattle.stepper_terms.specs.declared.contexts.Guarded.{Guarded}
use Rattle.stepper_terms.specs.declared.contexts.ExpressionContext.{ExpressionContext}
use Rattle.stepper_terms.specs.declared.contexts.ExpressionContext.TheVariants as P
use Rattle.stepper_terms.specs.declared.contexts.StatementContext.{StatementContext}
use Rattle.stepper_terms.specs.declared.contexts.StatementContext.TheVariants as L
use Rattle.stepper_terms.specs.declared.contexts.Ready.{Ready}
use Rattle.stepper_terms.specs.declared.contexts.Ready.TheVariants as R
use Rattle.stepper_terms.specs.declared.contexts.Task.{Task}
use Rattle.stepper_terms.specs.declared.contexts.Task.TheVariants as K
use Rattle.stepper_terms.specs.declared.contexts.Segment.{Segment}
use Rattle.stepper_terms.specs.declared.contexts.Segment.TheVariants as G
use Rattle.stepper_terms.specs.declared.contexts.Focus.{Focus}
use Rattle.stepper_terms.specs.declared.contexts.Focus.TheVariants as N
use Rattle.stepper_terms.specs.declared.contexts.SuspendedCall.{SuspendedCall}
use Rattle.stepper_terms.specs.declared.contexts.SuspendedCall.TheVariants as O
use Rattle.stepper_terms.specs.declared.contexts.Stage.{Stage}
use Rattle.stepper_terms.specs.declared.contexts.Stage.TheVariants as A
use Rattle.stepper_terms.specs.declared.contexts.Activation.{Activation}
use Rattle.stepper_terms.specs.declared.contexts.Continuation.{Continuation}
use Rattle.stepper_terms.specs.Parts.{alternatives, around, behind, bottom, caller_at, caller_of, guarded, inside, layers, left, loop_of, nested, operand, operands, placed, ready, segment, slotted, stopped, task, term_of}
use Rattle.stepper_terms.specs.Parts.{Content, Running, Valued, Over}
use Rattle.stepper_objects.specs.declared.object_state.ObjectState.{ObjectState}
use Rattle.stepper_objects.specs.ObjectStates.{thing_object}
use Rattle.object_acts.specs.Acts.{object_with}
use Rattle.known_names.specs.OtherNames.{are_other, bindings_are_other, call_is_other, caller_is_other, focus_is_other, guards_are_other, name_is_other, object_is_other, operand_is_other, outer_is_other, place_is_other, places_are_other, ready_is_other, slot_is_other, stage_is_other, task_is_other, value_is_other, work_is_other}
use Rattle.search_laws.proofs.Laws.{body_nameless, expression_nameless, list_nameless}

-- the content with each name mapped
abbrev renamed_operand : (ℕ → ℕ) → Operand → Operand
renamed_operand g v = record v { value = renamed_value g v.value }

abbrev renamed_content : (ℕ → ℕ) → Content → Content
renamed_content g (Running ss) = Running (renamed_statements g ss)
renamed_content g (Valued e) = Valued (renamed_expression g e)
renamed_content g (Over v) = Over (renamed_operand g v)

-- the expression of a content that is one, and else e
abbrev value_in : Expression → Content → Expression
value_in e (Running ss) = e
value_in e (Valued x) = x
value_in e (Over v) = operand v

below : (q n : ℕ) → nat_lt q n ≡ true → q < n
below q n h = ltb-true q n h

module _ (g : ℕ → ℕ) where
  append_renamed : (ss rest : Statements) → renamed_statements g (append ss rest) ≡ append (renamed_statements g ss) (renamed_statements g rest)
  append_renamed T.Done rest = refl
  append_renamed (T.Then s ss) rest = ap (T.Then (renamed_statement g s)) (append_renamed ss rest)

  alternatives_same : (alts : List Alt) → renamed_alternatives g (alternatives alts) ≡ alternatives alts
  alternatives_same [] = refl
  alternatives_same (a ∷ more) =
      ap (λ x. T.Alt x a.answer (renamed_statements g (statements_of a.work)) (renamed_alternatives g (alternatives more))) (expression_nameless g a.guard)
      ∙ ap (λ x. T.Alt (expression_of a.guard) a.answer x (renamed_alternatives g (alternatives more))) (body_nameless g a.work)
      ∙ ap (T.Alt (expression_of a.guard) a.answer (statements_of a.work)) (alternatives_same more)

  loop_same : (e : Expression) (body : Statements) → renamed_expression g e ≡ e → renamed_statements g body ≡ body → renamed_statements g (loop_of e body) ≡ loop_of e body
  loop_same e body at under = ap (λ x. T.Then (T.While x (renamed_statements g body)) T.Done) at ∙ ap (λ x. T.Then (T.While e x) T.Done) under

  unfolded_same : (e : Expression) (body : Statements) → renamed_expression g e ≡ e → renamed_statements g body ≡ body
      → renamed_statements g (append body (loop_of e body)) ≡ append body (loop_of e body)
  unfolded_same e body at under =
      append_renamed body (loop_of e body) ∙ ap (λ x. append x (renamed_statements g (loop_of e body))) under ∙ ap (append body) (loop_same e body at under)

  segment_same : (x : Segment) → renamed_statements g (segment x) ≡ segment x
  segment_same (G.Rest ss) = body_nameless g ss.now
  segment_same (G.Again k body) = loop_same (expression_of k.now) (statements_of body.now) (expression_nameless g k.now) (body_nameless g body.now)

  left_same : (gs : List Segment) → renamed_statements g (left gs) ≡ left gs
  left_same [] = refl
  left_same (x ∷ gs) =
      append_renamed (left gs) (segment x) ∙ ap (λ y. append y (renamed_statements g (segment x))) (left_same gs) ∙ ap (append (left gs)) (segment_same x)

  module _ (n b : ℕ) (keeps : (q : ℕ) → q < n → (q == b) ≡ false → g q ≡ q) where
    name_same : (q : ℕ) → name_is_other n b q ≡ true → g q ≡ q
    name_same q h = let both = and_parts (nat_lt q n) (not (q == b)) h in keeps q (below q n both.0) (not-true (q == b) both.1)

    pub value_same : (v : Value) → value_is_other n b v ≡ true → renamed_value g v ≡ v
    value_same (V.Ref q) h = ap V.Ref (name_same q h)
    value_same (V.Int i) h = refl
    value_same (V.Bool x) h = refl
    value_same V.Nil h = refl

    operand_same : (v : Operand) → operand_is_other n b v ≡ true → renamed_expression g (operand v) ≡ operand v
    operand_same v h = ap (λ x. T.Literal x v.pos) (value_same v.value h)

    operands_same : (vs : List Operand) (es : Expressions) → are_other n b vs ≡ true → renamed_expressions g (operands vs es) ≡ operands vs (renamed_expressions g es)
    operands_same [] es h = refl
    operands_same (v ∷ vs) es h =
        let both = and_parts (operand_is_other n b v) (are_other n b vs) h in
        ap (λ x. T.Arg x (renamed_expressions g (operands vs es))) (operand_same v both.0) ∙ ap (T.Arg (operand v)) (operands_same vs es both.1)

    -- evaluated arguments, and no others
    values_same : (vs : List Operand) → are_other n b vs ≡ true → renamed_expressions g (operands vs T.NoArgs) ≡ operands vs T.NoArgs
    values_same vs h = operands_same vs T.NoArgs h

    arguments_same : (vs : List Operand) (e : Expression) (es : Expressions) → renamed_expressions g es ≡ es → are_other n b vs ≡ true
        → renamed_expressions g (operands vs (T.Arg e es)) ≡ operands vs (T.Arg (renamed_expression g e) es)
    arguments_same vs e es text h = operands_same vs (T.Arg e es) h ∙ ap (λ x. operands vs (T.Arg (renamed_expression g e) x)) text

    store_same : (xs : Store) → bindings_are_other n b xs ≡ true → renamed_store g xs ≡ xs
    store_same [] h = refl
    store_same (x ∷ xs) h =
        let both = and_parts (value_is_other n b x.1) (bindings_are_other n b xs) h in
        ap (λ v. (x.0, v) ∷ renamed_store g xs) (value_same x.1 both.0) ∙ ap (λ ys. x ∷ ys) (store_same xs both.1)

    guarded_same : (gs : List Guarded) (alts : Alternatives) → guards_are_other n b gs ≡ true → renamed_alternatives g (guarded gs alts) ≡ guarded gs (renamed_alternatives g alts)
    guarded_same [] alts h = refl
    guarded_same (x ∷ gs) alts h =
        let both = and_parts (operand_is_other n b x.guard) (guards_are_other n b gs) h in
        ap (λ e. T.Alt e x.alt.now.answer (renamed_statements g (statements_of x.alt.now.work)) (renamed_alternatives g (guarded gs alts))) (operand_same x.guard both.0)
        ∙ ap (λ ss. T.Alt (operand x.guard) x.alt.now.answer ss (renamed_alternatives g (guarded gs alts))) (body_nameless g x.alt.now.work)
        ∙ ap (T.Alt (operand x.guard) x.alt.now.answer (statements_of x.alt.now.work)) (guarded_same gs alts both.1)

    placed_same : (k : ExpressionContext) (e : Expression) → place_is_other n b k ≡ true → renamed_expression g (placed k e) ≡ placed k (renamed_expression g e)
    placed_same (P.Prefix op p) e h = refl
    placed_same (P.Left op r p) e h = ap (λ x. T.Infix op (renamed_expression g e) x p) (expression_nameless g r.now)
    placed_same (P.Right op l p) e h = ap (λ x. T.Infix op x (renamed_expression g e) p) (operand_same l h)
    placed_same (P.CallArgument m vs es p) e h = ap (λ x. T.Call m.0 x p) (arguments_same vs.items e (expressions_of es.now) (list_nameless g es.now) h)
    placed_same (P.Destination m es p) e h = ap (λ x. T.Send (renamed_expression g e) m.0 x p) (list_nameless g es.now)
    placed_same (P.SendArgument to m vs es p) e h =
        let both = and_parts (operand_is_other n b to) (are_other n b vs.items) h in
        ap (λ x. T.Send x m.0 (renamed_expressions g (operands vs.items (T.Arg e (expressions_of es.now)))) p) (operand_same to both.0)
        ∙ ap (λ x. T.Send (operand to) m.0 x p) (arguments_same vs.items e (expressions_of es.now) (list_nameless g es.now) both.1)

    nested_same : (ks : List ExpressionContext) (e : Expression) → places_are_other n b ks ≡ true → renamed_expression g (nested ks e) ≡ nested ks (renamed_expression g e)
    nested_same [] e h = refl
    nested_same (k ∷ ks) e h =
        let both = and_parts (place_is_other n b k) (places_are_other n b ks) h in
        placed_same k (nested ks e) both.0 ∙ ap (placed k) (nested_same ks e both.1)

    ready_same : (r : Ready) → ready_is_other n b r ≡ true → renamed_expression g (ready r) ≡ ready r
    ready_same (R.Me p) h = refl
    ready_same (R.Variable x p) h = refl
    ready_same (R.Create c p) h = refl
    ready_same (R.Prefix op v p) h = ap (λ x. T.Prefix op x p) (operand_same v h)
    ready_same (R.Infix op v w p) h =
        let both = and_parts (operand_is_other n b v) (operand_is_other n b w) h in
        ap (λ x. T.Infix op x (renamed_expression g (operand w)) p) (operand_same v both.0) ∙ ap (λ x. T.Infix op (operand v) x p) (operand_same w both.1)
    ready_same (R.Call m vs p) h = ap (λ x. T.Call m.0 x p) (values_same vs.items h)
    ready_same (R.Send to m vs p) h =
        let both = and_parts (operand_is_other n b to) (are_other n b vs.items) h in
        ap (λ x. T.Send x m.0 (renamed_expressions g (operands vs.items T.NoArgs)) p) (operand_same to both.0) ∙ ap (λ x. T.Send (operand to) m.0 x p) (values_same vs.items both.1)
    ready_same (R.Wait q m) h = ap (λ x. T.Wait x m.0) (name_same q h)

    slotted_same : (s : StatementContext) (ss : Statements) (e : Expression) → renamed_statements g ss ≡ ss → slot_is_other n b s ≡ true
        → renamed_content g (slotted s ss e) ≡ slotted s ss (renamed_expression g e)
    slotted_same (L.Assign x) ss e rest h = ap (λ y. Running (T.Then (T.Assign x.name.0 x.pos (renamed_expression g e)) y)) rest
    slotted_same L.Write ss e rest h = ap (λ y. Running (T.Then (T.Write (renamed_expression g e)) y)) rest
    slotted_same L.Do ss e rest h = ap (λ y. Running (T.Then (T.Do (renamed_expression g e)) y)) rest
    slotted_same (L.Destination m es) ss e rest h =
        ap (λ x. Running (T.Then (T.Async (renamed_expression g e) m.name.0 m.pos x) (renamed_statements g ss))) (list_nameless g es.now)
        ∙ ap (λ y. Running (T.Then (T.Async (renamed_expression g e) m.name.0 m.pos (expressions_of es.now)) y)) rest
    slotted_same (L.Argument to m vs es) ss e rest h =
        let both = and_parts (operand_is_other n b to) (are_other n b vs.items) h in
        ap (λ x. Running (T.Then (T.Async x m.name.0 m.pos (renamed_expressions g (operands vs.items (T.Arg e (expressions_of es.now))))) (renamed_statements g ss))) (operand_same to both.0)
        ∙ ap (λ x. Running (T.Then (T.Async (operand to) m.name.0 m.pos x) (renamed_statements g ss))) (arguments_same vs.items e (expressions_of es.now) (list_nameless g es.now) both.1)
        ∙ ap (λ y. Running (T.Then (T.Async (operand to) m.name.0 m.pos (operands vs.items (T.Arg (renamed_expression g e) (expressions_of es.now)))) y)) rest
    slotted_same (L.If these those) ss e rest h =
        ap (λ x. Running (T.Then (T.If (renamed_expression g e) x (renamed_statements g (statements_of those.now))) (renamed_statements g ss))) (body_nameless g these.now)
        ∙ ap (λ x. Running (T.Then (T.If (renamed_expression g e) (statements_of these.now) x) (renamed_statements g ss))) (body_nameless g those.now)
        ∙ ap (λ y. Running (T.Then (T.If (renamed_expression g e) (statements_of these.now) (statements_of those.now)) y)) rest
    slotted_same (L.Loop k body) ss e rest h =
        let again = append (statements_of body.now) (loop_of (expression_of k.now) (statements_of body.now)) in
        ap (λ x. Running (T.Then (T.If (renamed_expression g e) x T.Done) (renamed_statements g ss))) (unfolded_same (expression_of k.now) (statements_of body.now) (expression_nameless g k.now) (body_nameless g body.now))
        ∙ ap (λ y. Running (T.Then (T.If (renamed_expression g e) again T.Done) y)) rest
    slotted_same (L.Guard done at more) ss e rest h =
        let last = T.Alt e at.now.answer (statements_of at.now.work) (alternatives more.now) in
        let same : renamed_alternatives g last ≡ T.Alt (renamed_expression g e) at.now.answer (statements_of at.now.work) (alternatives more.now) =
        ap (λ x. T.Alt (renamed_expression g e) at.now.answer x (renamed_alternatives g (alternatives more.now))) (body_nameless g at.now.work)
        ∙ ap (T.Alt (renamed_expression g e) at.now.answer (statements_of at.now.work)) (alternatives_same more.now) in
        ap (λ x. Running (T.Then (T.Select x) (renamed_statements g ss))) (guarded_same done.items last h ∙ ap (guarded done.items) same)
        ∙ ap (λ y. Running (T.Then (T.Select (guarded done.items (T.Alt (renamed_expression g e) at.now.answer (statements_of at.now.work) (alternatives more.now)))) y)) rest
    slotted_same L.Value ss e rest h = refl

    task_same : (t : Task) → task_is_other n b t ≡ true → renamed_statement g (task t) ≡ task t
    task_same (K.Assign x v) h = ap (T.Assign x.name.0 x.pos) (operand_same v h)
    task_same (K.Write v) h = ap T.Write (operand_same v h)
    task_same (K.WriteText s) h = refl
    task_same (K.Do v) h = ap T.Do (operand_same v h)
    task_same (K.Async to m vs) h =
        let both = and_parts (operand_is_other n b to) (are_other n b vs.items) h in
        ap (λ x. T.Async x m.name.0 m.pos (renamed_expressions g (operands vs.items T.NoArgs))) (operand_same to both.0)
        ∙ ap (T.Async (operand to) m.name.0 m.pos) (values_same vs.items both.1)
    task_same (K.If v these those) h =
        ap (λ x. T.If x (renamed_statements g (statements_of these.now)) (renamed_statements g (statements_of those.now))) (operand_same v h)
        ∙ ap (λ x. T.If (operand v) x (renamed_statements g (statements_of those.now))) (body_nameless g these.now)
        ∙ ap (T.If (operand v) (statements_of these.now)) (body_nameless g those.now)
    task_same (K.Loop v k body) h =
        ap (λ x. T.If x (renamed_statements g (append (statements_of body.now) (loop_of (expression_of k.now) (statements_of body.now)))) T.Done) (operand_same v h)
        ∙ ap (λ x. T.If (operand v) x T.Done) (unfolded_same (expression_of k.now) (statements_of body.now) (expression_nameless g k.now) (body_nameless g body.now))
    task_same (K.While k body) h =
        ap (λ x. T.While x (renamed_statements g (statements_of body.now))) (expression_nameless g k.now) ∙ ap (T.While (expression_of k.now)) (body_nameless g body.now)
    task_same (K.Answer names) h = refl
    task_same (K.Select gs) h = ap T.Select (guarded_same gs.items T.NoAlts h)

    over_same : (v : Operand) → operand_is_other n b v ≡ true → renamed_operand g v ≡ v
    over_same v h = ap (λ x. record v { value = x }) (value_same v.value h)

    stopped_same : (x : Focus) → focus_is_other n b x ≡ true → renamed_content g (stopped x) ≡ stopped x
    stopped_same (N.Expression r ks s gs) h =
        let one = and_parts (ready_is_other n b r && places_are_other n b ks.items) (slot_is_other n b s) h in
        let two = and_parts (ready_is_other n b r) (places_are_other n b ks.items) one.0 in
        slotted_same s (left gs.items) (nested ks.items (ready r)) (left_same gs.items) one.1
        ∙ ap (slotted s (left gs.items)) (nested_same ks.items (ready r) two.1 ∙ ap (nested ks.items) (ready_same r two.0))
    stopped_same (N.Statement t gs) h =
        ap (λ x. Running (T.Then x (renamed_statements g (left gs.items)))) (task_same t h) ∙ ap (λ y. Running (T.Then (task t) y)) (left_same gs.items)
    stopped_same (N.Value v) h = ap Over (over_same v h)
    stopped_same N.Over h = refl

    bottom_same : (c : Content) → renamed_content g c ≡ c → renamed_statements g (bottom c) ≡ bottom c
    bottom_same (Running ss) h = ap bottom h
    bottom_same (Valued e) h = ap bottom h
    bottom_same (Over v) h = refl

    caller_same : (k : Option ℕ) → caller_is_other n b k ≡ true → renamed_name g k ≡ k
    caller_same None h = refl
    caller_same (Some q) h = ap Some (name_same q h)

    -- the parts of a method under way
    abbrev AreSame : Statements × Expression × Statements → Type 0
    AreSame x = (renamed_statements g x.0 ≡ x.0) × (renamed_expression g x.1 ≡ x.1) × (renamed_statements g x.2 ≡ x.2)

    behind_same : (k : Option ℕ) (qs : Statements) → renamed_statements g qs ≡ qs → renamed_statements g (behind k qs) ≡ behind k qs
    behind_same None qs h = refl
    behind_same (Some q) qs h = h

    running_same : (ss : Statements) → renamed_content g (Running ss) ≡ Running ss → renamed_statements g ss ≡ ss
    running_same ss h = ap bottom h

    valued_same : (e : Expression) → renamed_content g (Valued e) ≡ Valued e → renamed_expression g e ≡ e
    valued_same e h = ap (λ (c : Content). value_in e c) h

    literal_same : (v : Operand) → renamed_content g (Over v) ≡ Over v → renamed_expression g (operand v) ≡ operand v
    literal_same v h = ap (λ (c : Content). value_in (operand v) c) h

    inside_same : (o : SuspendedCall) (a : Stage) (c : Content) → stage_is_other n b a ≡ true → renamed_content g c ≡ c → AreSame (inside o a c)
    inside_same o (A.Body e qs) (Running ss) h same = (running_same ss same, expression_nameless g e.now, body_nameless g qs.now)
    inside_same o (A.Body e qs) (Valued x) h same = (refl, valued_same x same, body_nameless g qs.now)
    inside_same o (A.Body e qs) (Over v) h same = (refl, literal_same v same, behind_same (caller_at o) (statements_of qs.now) (body_nameless g qs.now))
    inside_same o (A.Post v) c h same = (refl, operand_same v h, bottom_same c same)

    stage_caller_same : (a : Stage) (o : SuspendedCall) → outer_is_other n b o ≡ true → renamed_name g (caller_of a o) ≡ caller_of a o
    stage_caller_same (A.Body e qs) (O.Expression ks s gs) h = refl
    stage_caller_same (A.Body e qs) (O.Statement k gs) h = caller_same k h
    stage_caller_same (A.Post v) o h = refl

    around_same : (o : SuspendedCall) (k : Option ℕ) (m : ℕ) (t : Store) (x : Statements × Expression × Statements) → outer_is_other n b o ≡ true → renamed_name g k ≡ k → renamed_store g t ≡ t
        → AreSame x → renamed_content g (around o k m t x) ≡ around o k m t x
    around_same (O.Expression ks s gs) k m t x h caller temps parts =
        let both = and_parts (places_are_other n b ks.items) (slot_is_other n b s) h in
        let frame : renamed_expression g (T.Frame m t x.0 x.1 x.2) ≡ T.Frame m t x.0 x.1 x.2 =
        ap (λ y. T.Frame m y (renamed_statements g x.0) (renamed_expression g x.1) (renamed_statements g x.2)) temps
        ∙ ap (λ y. T.Frame m t y (renamed_expression g x.1) (renamed_statements g x.2)) parts.0
        ∙ ap (λ y. T.Frame m t x.0 y (renamed_statements g x.2)) parts.1 ∙ ap (T.Frame m t x.0 x.1) parts.2 in
        slotted_same s (left gs.items) (nested ks.items (T.Frame m t x.0 x.1 x.2)) (left_same gs.items) both.1
        ∙ ap (slotted s (left gs.items)) (nested_same ks.items (T.Frame m t x.0 x.1 x.2) both.0 ∙ ap (nested ks.items) frame)
    around_same (O.Statement j gs) k m t x h caller temps parts =
        ap (λ y. Running (T.Then (T.Serve m y (renamed_store g t) (renamed_statements g x.0) (renamed_expression g x.1) (renamed_statements g x.2)) (renamed_statements g (left gs.items)))) caller
        ∙ ap (λ y. Running (T.Then (T.Serve m k y (renamed_statements g x.0) (renamed_expression g x.1) (renamed_statements g x.2)) (renamed_statements g (left gs.items)))) temps
        ∙ ap (λ y. Running (T.Then (T.Serve m k t y (renamed_expression g x.1) (renamed_statements g x.2)) (renamed_statements g (left gs.items)))) parts.0
        ∙ ap (λ y. Running (T.Then (T.Serve m k t x.0 y (renamed_statements g x.2)) (renamed_statements g (left gs.items)))) parts.1
        ∙ ap (λ y. Running (T.Then (T.Serve m k t x.0 x.1 y) (renamed_statements g (left gs.items)))) parts.2
        ∙ ap (λ y. Running (T.Then (T.Serve m k t x.0 x.1 x.2) y)) (left_same gs.items)

    layers_same : (calls : List Activation) (c : Content) → list_all (call_is_other n b) calls ≡ true → renamed_content g c ≡ c → renamed_content g (layers calls c) ≡ layers calls c
    layers_same [] c h same = same
    layers_same (a ∷ more) c h same =
        let both = and_parts (call_is_other n b a) (list_all (call_is_other n b) more) h in
        let one = and_parts (outer_is_other n b a.outer && bindings_are_other n b a.temps.items) (stage_is_other n b a.stage) both.0 in
        let two = and_parts (outer_is_other n b a.outer) (bindings_are_other n b a.temps.items) one.0 in
        around_same a.outer (caller_of a.stage a.outer) a.method.0 a.temps.items (inside a.outer a.stage (layers more c)) two.0 (stage_caller_same a.stage a.outer two.0) (store_same a.temps.items two.1)
        (inside_same a.outer a.stage (layers more c) one.1 (layers_same more c both.1 same))

    term_same : (w : Continuation) → work_is_other n b w ≡ true → renamed_statements g (term_of w) ≡ term_of w
    term_same w h =
        let both = and_parts (list_all (call_is_other n b) w.calls.items) (focus_is_other n b w.next) h in
        bottom_same (layers w.calls.items (stopped w.next)) (layers_same w.calls.items (stopped w.next) both.0 (stopped_same w.next both.1))

    pub object_same : (t : ObjectState) → object_is_other n b t ≡ true → renamed_object g (thing_object t) ≡ thing_object t
    object_same t h =
        let both = and_parts (bindings_are_other n b t.vars.items) (work_is_other n b t.work) h in
        ap (λ vs. object_with t.class vs (renamed_statements g (term_of t.work)) t.fault) (store_same t.vars.items both.0)
        ∙ ap (λ tm. object_with t.class t.vars.items tm t.fault) (term_same t.work both.1)
