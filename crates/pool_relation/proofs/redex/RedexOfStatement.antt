-- The redex of a typed term, part by part.
use Rattle.std.proofs.Common.{◌≡◌, refl, IsTrue, ℕ, ◌+◌, List, Option, Some, None, is_none, true, false, ◌⊎◌, inl, inr, arith}
use Rattle.run_types.specs.declared.types.Value.{Value}
use Rattle.run_types.specs.declared.types.Item.TheVariants as I
use Rattle.run_types.specs.declared.types.Kind.{Kind}
use Rattle.pool_syntax.specs.Terms.{Store, Expression, Literal, Frame, Expressions, Assign, Write, Do, Async, If, Select, Serve, Statements, Done, Then, Alternatives, MethodTree}
use Rattle.pool_syntax.specs.Typing.{Scope, value_sort, sort_of, inside, behind_value, own_method, params_of, sent_method, size}
use Rattle.pool_relation.specs.Reducible.{Choice, Reducible, Evaluated, At, and_then, Leave, Set, Print, Drop, Post, Branch, Choose, Finish, left_served, is_over, assigned, Contractum, AsExpression, AsStatements, is_value, is_done, fill_expression, fill_statements, expression_redex, expressions_redex}
use Rattle.pool_relation.specs.Reducible.{guards_redex}
use Rattle.pool_relation.specs.Action.{literal}
use Rattle.pool_syntax.specs.SourceParts.{is_nil_value, is_value_for}
use Rattle.pool_relation.specs.Typed.{is_store_of, is_value_of}
use Rattle.pool_relation.proofs.typing.TypedTerm.{Holds, Nothing, Waits, has_methods, past, TypedExpression, TypedArguments, TypedStatement, TypedStatements}
use Rattle.pool_relation.proofs.redex.RedexSearch.{split, split_last, not_value, not_values, not_guards, arguments_are, guards_are, InMethod, InBody, InValue, InPost, AtEnd, in_method}
use Rattle.pool_relation.proofs.typing.Sorts.{Stays, need_kept, sort_kept, destination_kept, arguments_kept, gives_kept}
use Rattle.pool_relation.proofs.typing.Weakening.{nothing_below, expression_weaker, statements_weaker, arguments_weaker, value_weaker}
use Rattle.pool_relation.proofs.typing.DeclaredStores.{Known, temps_known, assigned_fits, gives_known}
use Rattle.pool_relation.proofs.redex.TypedRedex.{Replacement, wider, NewExpression, NewStatement, NewStatements, AtExpression, AtArguments, AtStatement, AtStatements, AtAlternatives}
use Rattle.pool_relation.proofs.redex.RedexOfExpression.{literal_typed, arguments_fit, choices_fit, here, placed_statements}

-- a method whose value is not yet evaluated has a result
value_of_kept : (m : Option MethodTree) (e e' : Expression) → is_value e ≡ false → IsTrue (is_value_of m e) → IsTrue (is_value_of m e')
value_of_kept None e e' v h = absurd (grind (arith, h))
value_of_kept (Some m) e e' v h = by m.outcome h
  where
    not_nil : (e : Expression) → is_value e ≡ false → IsTrue (is_nil_value e) → ⊥
    not_nil (Literal a p) i j = grind (arith, i)
    not_nil _ i j = grind (arith, j)

    by : (k : Option Kind) → IsTrue (is_value_for k e) → IsTrue (is_value_for k e')
    by None i = absurd (not_nil e v i)
    by (Some k) i = refl

-- a spot in a method under way
outer : {j : Holds} {g : Scope} {r : Reducible} {u : Store} {A : Contractum → Type 0} (m : ℕ) → Replacement j (inside g m) r u A → Replacement j g r u A
outer m s = record { spot = s.spot; store = s.store; typed = s.typed; filled = s.filled }

-- one in its post statements
outer_post : {j : Holds} {g : Scope} {r : Reducible} {u : Store} {A : Contractum → Type 0} (m : ℕ) → Replacement j (behind_value (inside g m)) r u A
    → Replacement j g r u A
outer_post m s = record { spot = s.spot; store = s.store; typed = s.typed; filled = s.filled }

module _ (j : Holds) (methods : IsTrue (has_methods j)) where
  pub frame_replacement : (g : Scope) (h : ℕ) (t : Store) (m : ℕ) (w : Store) (ss : Statements) (e : Expression) (qs : Statements)
      → Known g.program g.own → TypedExpression Waits g h (Frame m w ss e qs)
      → AtStatements j (inside g m) w ss → AtExpression j (inside g m) 0 w e → AtStatements j (behind_value (inside g m)) w qs
      → AtExpression j g h t (Frame m w ss e qs)
  frame_replacement g h t m w ss e qs known d body value post r u q = by (in_method None w ss e qs Leave r u q)
    where
      new_body : (x : Contractum) → is_done ss ≡ false → NewStatements j (inside g m) ss x → NewExpression j g h (Frame m w ss e qs) x
      new_body x v n =
          let rest : TypedExpression Nothing (inside g m) 0 e = rw v at d.4 in
          let later : TypedStatements Nothing (behind_value (inside g m)) qs = rw v at d.7 in
          let temps = temps_known g.program (own_method g m) (known.methods m) in
          rw v (
            (
              methods,
              d.1,
              assigned_fits (inside g m) ss w temps d.3 d.2,
              n,
              expression_weaker Nothing (past (is_done (fill_statements ss x)) j) (inside g m) 0 e (nothing_below _) rest,
              d.5,
              d.6,
              statements_weaker Nothing (past (is_done (fill_statements ss x)) (past (is_value e) j)) (behind_value (inside g m)) qs (nothing_below _) later,
            ),
            Stays refl,
          )

      new_value : (x : Contractum) → ss ≡ Done → is_value e ≡ false → NewExpression j (inside g m) 0 e x
          → NewExpression j g h (Frame m w ss e qs) x
      new_value x is v n =
          let later : TypedStatements Nothing (behind_value (inside g m)) qs = rw (is, v) at d.7 in
          rw (is, v) (
            (
              methods,
              d.1,
              d.2,
              tt,
              n.0,
              gives_kept g.program (own_method g m) _ _ n.1 d.5,
              value_of_kept (own_method g m) e (fill_expression e x) v d.6,
              statements_weaker Nothing (past (is_value (fill_expression e x)) j) (behind_value (inside g m)) qs (nothing_below _) later,
            ),
            Stays refl,
          )

      new_post : (x : Contractum) → ss ≡ Done → is_value e ≡ true → is_over None qs ≡ false → NewStatements j (behind_value (inside g m)) qs x
          → NewExpression j g h (Frame m w ss e qs) x
      new_post x is v o n =
          let now : TypedExpression Waits (inside g m) 0 e = rw is at d.4 in
          let later : TypedStatements Waits (behind_value (inside g m)) qs = rw (is, v) at d.7 in
          let temps = temps_known g.program (own_method g m) (known.methods m) in
          let whole : TypedExpression j g h (Frame m (assigned qs w) Done e (fill_statements qs x)) = (
            methods,
            d.1,
            assigned_fits (behind_value (inside g m)) qs w temps later d.2,
            tt,
            value_weaker Waits j (inside g m) 0 e v now,
            d.5,
            d.6,
            rw v n,
          ) in
          rw (is, v, o) (whole, Stays refl)

      left : (x : Contractum) (v : Value) → ss ≡ Done → expression_redex w e ≡ Evaluated v → is_over None qs ≡ true → x ≡ AsExpression (literal v)
          → NewExpression j g h (Frame m w ss e qs) x
      left x v is k o a =
          let l = literal_typed (past (is_done ss) Waits) (inside g m) 0 w e v k d.4 in
          rw (is, l.0, o, a) ((d.1, l.1), gives_known g.program (own_method g m) (value_sort g v) (known.methods m) (rw l.2 at d.5))

      by : InMethod None w ss e qs Leave r u → Replacement j g r u (NewExpression j g h (Frame m w ss e qs))
      by (InBody k f) = outer m (wider (body r u k) (λ x n. new_body x f n))
      by (InValue is k f) = outer m (wider (value r u k) (λ x n. new_value x is f n))
      by (InPost is v k f c p o) = outer_post m (wider (post r u p) (λ x n. new_post x is f o n))
      by (AtEnd is v k f o s z) =
          let l = literal_typed (past (is_done ss) Waits) (inside g m) 0 w e v k d.4 in
          outer m (here (Leave v) w r u s z d.2 l.1 (λ x a. left x v is k o a))

  -- what is left of a served method is typed
  left_typed : (g : Scope) (m : ℕ) (c : Option ℕ) (w : Store) (ss : Statements) (e : Expression) (qs : Statements) → ss ≡ Done → is_value e ≡ true
      → TypedStatement Waits g (Serve m c w ss e qs) → TypedStatements j g (left_served c m w ss e qs)
  left_typed g m None w ss e qs is v d = tt
  left_typed g m (Some k) w ss e Done is v d = tt
  left_typed g m (Some k) w ss e (Then s qs) is v d =
      let now : TypedExpression Waits (inside g m) 0 e = rw is at d.3 in
      let later : TypedStatements Nothing (behind_value (inside g m)) (Then s qs) = rw (is, v) at d.6 in
      let whole : TypedStatement j g (Serve m None w Done e (Then s qs)) =
      (methods, d.1, tt, value_weaker Waits j (inside g m) 0 e v now, d.4, d.5, rw v (statements_weaker Nothing j (behind_value (inside g m)) (Then s qs) (nothing_below j) later)) in
      rw is (whole, tt)

  pub serve_replacement : (g : Scope) (t : Store) (m : ℕ) (c : Option ℕ) (w : Store) (ss : Statements) (e : Expression) (qs : Statements)
      → Known g.program g.own → TypedStatement Waits g (Serve m c w ss e qs)
      → AtStatements j (inside g m) w ss → AtExpression j (inside g m) 0 w e → AtStatements j (behind_value (inside g m)) w qs
      → AtStatement j g t (Serve m c w ss e qs)
  serve_replacement g t m c w ss e qs known d body value post r u q = by (in_method c w ss e qs end r u q)
    where
      end : Value → Reducible
      end v = Finish c v (left_served c m w ss e qs)

      new_body : (x : Contractum) → is_done ss ≡ false → NewStatements j (inside g m) ss x → NewStatement j g (Serve m c w ss e qs) x
      new_body x v n =
          let rest : TypedExpression Nothing (inside g m) 0 e = rw v at d.3 in
          let later : TypedStatements Nothing (behind_value (inside g m)) qs = rw v at d.6 in
          let temps = temps_known g.program (own_method g m) (known.methods m) in
          rw v (
            (
              methods,
              assigned_fits (inside g m) ss w temps d.2 d.1,
              n,
              expression_weaker Nothing (past (is_done (fill_statements ss x)) j) (inside g m) 0 e (nothing_below _) rest,
              d.4,
              d.5,
              statements_weaker Nothing (past (is_done (fill_statements ss x)) (past (is_value e) (past (is_none c) j))) (behind_value (inside g m)) qs (nothing_below _) later,
            ),
            tt,
          )

      new_value : (x : Contractum) → ss ≡ Done → is_value e ≡ false → NewExpression j (inside g m) 0 e x → NewStatement j g (Serve m c w ss e qs) x
      new_value x is v n =
          let later : TypedStatements Nothing (behind_value (inside g m)) qs = rw (is, v) at d.6 in
          rw (is, v) (
            (
              methods,
              d.1,
              tt,
              n.0,
              gives_kept g.program (own_method g m) _ _ n.1 d.4,
              value_of_kept (own_method g m) e (fill_expression e x) v d.5,
              statements_weaker Nothing (past (is_value (fill_expression e x)) (past (is_none c) j)) (behind_value (inside g m)) qs (nothing_below _) later,
            ),
            tt,
          )

      new_post : (x : Contractum) → ss ≡ Done → is_value e ≡ true → c ≡ None → is_over c qs ≡ false → NewStatements j (behind_value (inside g m)) qs x
          → NewStatement j g (Serve m c w ss e qs) x
      new_post x is v i o n =
          let now : TypedExpression Waits (inside g m) 0 e = rw is at d.3 in
          let later : TypedStatements Waits (behind_value (inside g m)) qs = rw (is, v, i) at d.6 in
          let temps = temps_known g.program (own_method g m) (known.methods m) in
          let whole : TypedStatement j g (Serve m c (assigned qs w) Done e (fill_statements qs x)) = (
            methods,
            assigned_fits (behind_value (inside g m)) qs w temps later d.1,
            tt,
            value_weaker Waits j (inside g m) 0 e v now,
            d.4,
            d.5,
            rw (v, i) n,
          ) in
          rw (is, v, o) (whole, tt)

      left : (x : Contractum) → ss ≡ Done → is_value e ≡ true → is_over c qs ≡ true → x ≡ AsStatements (left_served c m w ss e qs)
          → NewStatement j g (Serve m c w ss e qs) x
      left x is v o a =
          let typed : TypedStatements j g (left_served c m w Done e qs) = rw is at (left_typed g m c w ss e qs is v d) in
          rw (is, v, o, a) (rw is typed)

      by : InMethod c w ss e qs end r u → Replacement j g r u (NewStatement j g (Serve m c w ss e qs))
      by (InBody k f) = outer m (wider (body r u k) (λ x n. new_body x f n))
      by (InValue is k f) = outer m (wider (value r u k) (λ x n. new_value x is f n))
      by (InPost is v k f i p o) = outer_post m (wider (post r u p) (λ x n. new_post x is f i o n))
      by (AtEnd is v k f o s z) =
          let l = literal_typed (past (is_done ss) Waits) (inside g m) 0 w e v k d.3 in
          outer m (here (end v) w r u s z d.1 l.1 (λ x a. left x is f o a))

  pub assign_replacement : (g : Scope) (t : Store) (y p : ℕ) (e : Expression) → IsTrue (is_store_of g g.temps t)
      → TypedStatement Waits g (Assign y p e)
      → AtExpression j g g.held t e → AtStatement j g t (Assign y p e)
  assign_replacement g t y p e s d inner r u q = by (split_last (expression_redex t e) (Set y) t r u q)
    where
      by : (expression_redex t e ≡ At r u) ⊎ ((v : Value) × (expression_redex t e ≡ Evaluated v) × (Set y v ≡ r) × (t ≡ u))
          → Replacement j g r u (NewStatement j g (Assign y p e))
      by (inl k) = wider (inner r u k) (λ x n. rw (not_value t e r u k) ((d.0, n.0, need_kept _ _ _ n.1 d.2), tt))
      by (inr k) =
          let l = literal_typed Waits g g.held t e k.0 k.1 d.1 in
          here (Set y k.0) t r u k.2 k.3 s (d.0, l.1, rw l.2 at d.2) (λ x a. rw l.0 (placed_statements j g x (Assign y p e) a))

  pub write_replacement : (g : Scope) (t : Store) (e : Expression) → IsTrue (is_store_of g g.temps t) → TypedStatement Waits g (Write e)
      → AtExpression j g g.held t e → AtStatement j g t (Write e)
  write_replacement g t e s d inner r u q = by (split_last (expression_redex t e) (λ v. Print (I.Value v)) t r u q)
    where
      by : (expression_redex t e ≡ At r u) ⊎ ((v : Value) × (expression_redex t e ≡ Evaluated v) × (Print (I.Value v) ≡ r) × (t ≡ u))
          → Replacement j g r u (NewStatement j g (Write e))
      by (inl k) = wider (inner r u k) (λ x n. rw (not_value t e r u k) ((n.0, sort_kept _ _ n.1 d.1), tt))
      by (inr k) =
          let l = literal_typed Waits g g.held t e k.0 k.1 d.0 in
          here (Print (I.Value k.0)) t r u k.2 k.3 s tt (λ x a. rw l.0 (placed_statements j g x (Write e) a))

  pub do_replacement : (g : Scope) (t : Store) (e : Expression) → IsTrue (is_store_of g g.temps t) → TypedStatement Waits g (Do e)
      → AtExpression j g g.held t e → AtStatement j g t (Do e)
  do_replacement g t e s d inner r u q = by (split_last (expression_redex t e) Drop t r u q)
    where
      by : (expression_redex t e ≡ At r u) ⊎ ((v : Value) × (expression_redex t e ≡ Evaluated v) × (Drop v ≡ r) × (t ≡ u))
          → Replacement j g r u (NewStatement j g (Do e))
      by (inl k) = wider (inner r u k) (λ x n. rw (not_value t e r u k) (n.0, tt))
      by (inr k) =
          let l = literal_typed Waits g g.held t e k.0 k.1 d in
          here (Drop k.0) t r u k.2 k.3 s tt (λ x a. rw l.0 (placed_statements j g x (Do e) a))

  pub if_replacement : (g : Scope) (t : Store) (e : Expression) (these those : Statements) → IsTrue (is_store_of g g.temps t)
      → TypedStatement Waits g (If e these those)
      → AtExpression j g g.held t e → AtStatement j g t (If e these those)
  if_replacement g t e these those s d inner r u q = by (split_last (expression_redex t e) (λ v. Branch v these those) t r u q)
    where
      by : (expression_redex t e ≡ At r u) ⊎ ((v : Value) × (expression_redex t e ≡ Evaluated v) × (Branch v these those ≡ r) × (t ≡ u))
          → Replacement j g r u (NewStatement j g (If e these those))
      by (inl k) = wider (inner r u k) (λ x n. rw (not_value t e r u k) ((n.0, need_kept _ _ _ n.1 d.1, d.2, d.3), tt))
      by (inr k) =
          let l = literal_typed Waits g g.held t e k.0 k.1 d.0 in
          here (Branch k.0 these those) t r u k.2 k.3 s (l.1, rw l.2 at d.1, d.2, d.3) (λ x a. rw l.0 (placed_statements j g x (If e these those) a))

  pub select_replacement : (g : Scope) (t : Store) (alts : Alternatives) → IsTrue (is_store_of g g.temps t)
      → TypedStatement Waits g (Select alts)
      → AtAlternatives j g g.held t alts → AtStatement j g t (Select alts)
  select_replacement g t alts s d inner r u q = by (split_last (guards_redex t alts) Choose t r u q)
    where
      by : (guards_redex t alts ≡ At r u) ⊎ ((cs : List Choice) × (guards_redex t alts ≡ Evaluated cs) × (Choose cs ≡ r) × (t ≡ u))
          → Replacement j g r u (NewStatement j g (Select alts))
      by (inl k) = wider (inner r u k) (λ x n. rw (not_guards t alts r u k) (n, tt))
      by (inr k) = here (Choose k.0) t r u k.2 k.3 s (choices_fit Waits g g.held t alts k.0 d k.1) (λ x a. rw (guards_are t alts k.0 k.1) (placed_statements j g x (Select alts) a))

  async_to : (g : Scope) (e : Expression) (m p : ℕ) (es : Expressions) (x : Contractum) → IsTrue g.under_way → is_value e ≡ false
      → TypedStatement Waits g (Async e m p es)
      → NewExpression j g g.held e x → NewStatement j g (Async e m p es) x
  async_to g e m p es x way v d n =
      let rest : TypedArguments Nothing g (g.held + 1) (params_of (sent_method g (sort_of g e) m)) es = rw v at d.2 in
      let new : TypedArguments Nothing g (g.held + 1) (params_of (sent_method g (sort_of g (fill_expression e x)) m)) es = arguments_kept Nothing g (g.held + 1) _ _ m (size es) es n.1 d.1 rest in
      rw v ((n.0, destination_kept g _ _ m (size es) way n.1 d.1, arguments_weaker Nothing (past (is_value (fill_expression e x)) j) g (g.held + 1) _ es (nothing_below _) new), tt)

  pub async_replacement : (g : Scope) (t : Store) (e : Expression) (m p : ℕ) (es : Expressions) → IsTrue g.under_way
      → IsTrue (is_store_of g g.temps t)
      → TypedStatement Waits g (Async e m p es) → AtExpression j g g.held t e
      → AtArguments j g (g.held + 1) (params_of (sent_method g (sort_of g e) m)) t es
      → AtStatement j g t (Async e m p es)
  async_replacement g t e m p es way s d to rest r u q = by (split (expression_redex t e) _ r u q)
    where
      behind : (v : Value) → expression_redex t e ≡ Evaluated v
          → (expressions_redex t es ≡ At r u) ⊎ ((vs : List Value) × (expressions_redex t es ≡ Evaluated vs) × (Post v m vs ≡ r) × (t ≡ u))
          → Replacement j g r u (NewStatement j g (Async e m p es))
      behind v k (inl i) =
          let a = literal_typed Waits g g.held t e v k d.0 in
          wider (rest r u i) (λ x n. rw (a.0, not_values t es r u i) ((value_weaker Waits j g g.held e a.0 d.0, rw n.1 d.1, rw a.0 n.0), tt))
      behind v k (inr i) =
          let a = literal_typed Waits g g.held t e v k d.0 in
          let f = arguments_fit (past (is_value e) Waits) g (g.held + 1) (params_of (sent_method g (sort_of g e) m)) t es i.0 d.2 i.1 in
          here (Post v m i.0) t r u i.2 i.3 s (a.1, rw (f.1, ← a.2) d.1, rw (← a.2) f.0)
          (λ x n. rw (a.0, arguments_are t es i.0 i.1) (placed_statements j g x (Async e m p es) n))

      by : (expression_redex t e ≡ At r u) ⊎ ((v : Value) × (expression_redex t e ≡ Evaluated v) × (and_then {B = Unit {0}} (expressions_redex t es) (λ vs. At (Post v m vs) t) ≡ At r u))
          → Replacement j g r u (NewStatement j g (Async e m p es))
      by (inl k) = wider (to r u k) (λ x n. async_to g e m p es x way (not_value t e r u k) d n)
      by (inr k) = behind k.0 k.1 (split_last (expressions_redex t es) (λ vs. Post k.0 m vs) t r u k.2)
