-- The redex of a typed expression, part by part.
use Rattle.std.proofs.Common.{◌≡◌, refl, ap, subst, IsTrue, ℕ, suc, ◌+◌, List, [], ◌∷◌, length, Option, true, false, ◌⊎◌, inl, inr}
use Rattle.run_types.specs.declared.types.Value.{Value}
use Rattle.run_types.specs.declared.types.Op.{Op}
use Rattle.pool_syntax.specs.declared.tree.Named.{Named}
use Rattle.pool_syntax.specs.declared.tree.Var.{Var}
use Rattle.pool_syntax.specs.Terms.{Store, Expression, Prefix, Infix, Call, Send, Expressions, NoArgs, Arg, Statement, Statements, Alternatives, NoAlts, Alt}
use Rattle.run_types.specs.Sorts.{Sort, op_sort}
use Rattle.pool_syntax.specs.Typing.{Scope, value_sort, is_dangling, sort_of, own_sort, send_sort, own_method, params_of, sent_method, size}
use Rattle.pool_relation.specs.Reducible.{Choice, Reducible, Evaluated, At, and_then, Unary, Binary, Invoke, SynchronousSend, Contractum, is_value, as_expression, as_statements, fill_expression, expression_redex, expressions_redex}
use Rattle.pool_relation.specs.Reducible.{guards_redex}
use Rattle.pool_relation.specs.Typed.{is_store_of, has_room}
use Rattle.pool_relation.proofs.typing.TypedTerm.{Holds, Nothing, Waits, past, TypedExpression, TypedArguments, TypedStatements, TypedAlternatives}
use Rattle.pool_relation.proofs.redex.RedexSearch.{split, split_last, split_more, passed, literal_is, not_value, not_values, arguments_are}
use Rattle.pool_relation.proofs.typing.Sorts.{MayBecome, Stays, need_kept, sort_kept, operands_left, operands_right, destination_kept, send_kept, arguments_kept}
use Rattle.pool_relation.proofs.typing.Weakening.{nothing_below, expression_weaker, arguments_weaker, alternatives_weaker, value_weaker}
use Rattle.pool_relation.proofs.redex.TypedRedex.{TypedRedex, FitValues, AnExpression, SomeStatements, Suits, Replacement, wider, NewExpression, NewArguments, NewAlternatives, AtExpression, AtArguments, AtAlternatives, TypedChoices}

-- what a literal is and fits
pub literal_typed : (k : Holds) (g : Scope) (h : ℕ) (t : Store) (e : Expression) (v : Value)
    → expression_redex t e ≡ Evaluated v → TypedExpression k g h e
    → (is_value e ≡ true) × (is_dangling g v ≡ false) × (sort_of g e ≡ value_sort g v)
literal_typed k g h t e v q d =
    let l = literal_is t e v q in
    (ap is_value l.1, (subst (TypedExpression k g h) l.1 d).1, ap (sort_of g) l.1)

-- the part in the place of an expression
pub placed : (j : Holds) (g : Scope) (h : ℕ) (s : Sort) (x : Contractum) (old : Expression) → IsTrue (has_room h) → AnExpression j g s x
    → TypedExpression j g h (as_expression x old) × MayBecome s (sort_of g (as_expression x old))
placed j g h s x old room a = rw a.1 (a.2 h room, a.3)

-- a redex in this very place
pub here : {j : Holds} {g : Scope} {After : Contractum → Type 0} (a : Reducible) (t : Store) (r : Reducible) (u : Store) → a ≡ r → t ≡ u
    → IsTrue (is_store_of g g.temps t) → TypedRedex g a → ((x : Contractum) → Suits j g a x → After x) → Replacement j g r u After
here {j} {g} {After} a t r u e i s d f =
    subst (λ (b : Reducible). Replacement j g b u After) e (subst (λ (w : Store). Replacement j g a w After) i (record { spot = record { temps = g.temps; held = g.held }; store = s; typed = d; filled = f }))

-- the part in the place of a statement
pub placed_statements : (j : Holds) (g : Scope) (x : Contractum) (old : Statement) → SomeStatements j g x
    → TypedStatements j g (as_statements x old)
placed_statements j g x old a = rw a.1 a.2

-- the values of typed arguments
pub arguments_fit : (k : Holds) (g : Scope) (h : ℕ) (ps : List Var) (t : Store) (es : Expressions) (vs : List Value)
    → TypedArguments k g h ps es
    → expressions_redex t es ≡ Evaluated vs → FitValues g ps vs × (length vs ≡ size es)
arguments_fit k g h ps t NoArgs vs d q = let e : vs ≡ [] = cc in rw e (tt, refl)
arguments_fit k g h [] t (Arg e es) vs d q =
    let a = passed (expression_redex t e) _ vs q in
    let b = passed (expressions_redex t es) _ vs a.2 in
    let l = literal_typed k g h t e a.0 a.1 d.0 in
    let m = arguments_fit (past (is_value e) k) g (h + 1) [] t es b.0 d.2 b.1 in
    let i : vs ≡ a.0 ∷ b.0 = cc in
    rw i ((l.1, m.0), ap suc m.1)
arguments_fit k g h (y ∷ ps) t (Arg e es) vs d q =
    let a = passed (expression_redex t e) _ vs q in
    let b = passed (expressions_redex t es) _ vs a.2 in
    let l = literal_typed k g h t e a.0 a.1 d.0 in
    let m = arguments_fit (past (is_value e) k) g (h + 1) ps t es b.0 d.2 b.1 in
    let i : vs ≡ a.0 ∷ b.0 = cc in
    rw i ((l.1, rw l.2 at d.1, m.0), ap suc m.1)

-- the choices of typed alternatives
pub choices_fit : (k : Holds) (g : Scope) (i : ℕ) (t : Store) (alts : Alternatives) (cs : List Choice) → TypedAlternatives k g i alts
    → guards_redex t alts ≡ Evaluated cs → TypedChoices g cs
choices_fit k g i t NoAlts cs d q = let e : cs ≡ [] = cc in rw e tt
choices_fit k g i t (Alt e names ss alts) cs d q =
    let a = passed (expression_redex t e) _ cs q in
    let b = passed (guards_redex t alts) _ cs a.2 in
    let l = literal_typed k g i t e a.0 a.1 d.0 in
    let m = choices_fit (past (is_value e) k) g (i + 1) t alts b.0 d.4 b.1 in
    let is : cs ≡ record { guard = a.0; answer = names; work = ss } ∷ b.0 = cc in
    rw is (l.1, rw l.2 at d.1, d.2, d.3, m)

module _ (j : Holds) where
  pub prefix_replacement : (g : Scope) (h : ℕ) (t : Store) (op : Op) (e : Expression) (p : ℕ) → IsTrue (is_store_of g g.temps t)
      → TypedExpression Waits g h (Prefix op e p)
      → AtExpression j g h t e → AtExpression j g h t (Prefix op e p)
  prefix_replacement g h t op e p s d inner r u q = by (split_last (expression_redex t e) (Unary op) t r u q)
    where
      by : (expression_redex t e ≡ At r u) ⊎ ((v : Value) × (expression_redex t e ≡ Evaluated v) × (Unary op v ≡ r) × (t ≡ u))
          → Replacement j g r u (NewExpression j g h (Prefix op e p))
      by (inl k) = wider (inner r u k) (λ x n. rw (not_value t e r u k) ((d.0, d.1, n.0, need_kept _ _ _ n.1 d.3), Stays refl))
      by (inr k) =
          let l = literal_typed Waits g h t e k.0 k.1 d.2 in
          here (Unary op k.0) t r u k.2 k.3 s (d.1, l.1, rw l.2 at d.3) (λ x a. rw l.0 (placed j g h (op_sort op) x (Prefix op e p) d.0 a))

  infix_left : (g : Scope) (h : ℕ) (op : Op) (l m : Expression) (p : ℕ) (x : Contractum) → is_value l ≡ false
      → TypedExpression Waits g h (Infix op l m p)
      → NewExpression j g h l x → NewExpression j g h (Infix op l m p) x
  infix_left g h op l m p x v d n =
      let rest : TypedExpression Nothing g (h + 1) m = rw v at d.3 in
      rw v ((d.0, d.1, n.0, expression_weaker Nothing (past (is_value (fill_expression l x)) j) g (h + 1) m (nothing_below _) rest, operands_left op _ _ _ n.1 d.4), Stays refl)

  pub infix_replacement : (g : Scope) (h : ℕ) (t : Store) (op : Op) (l m : Expression) (p : ℕ) → IsTrue (is_store_of g g.temps t)
      → TypedExpression Waits g h (Infix op l m p)
      → AtExpression j g h t l → AtExpression j g (h + 1) t m → AtExpression j g h t (Infix op l m p)
  infix_replacement g h t op l m p s d left right r u q = by (split (expression_redex t l) _ r u q)
    where
      behind : (v : Value) → expression_redex t l ≡ Evaluated v
          → (expression_redex t m ≡ At r u) ⊎ ((w : Value) × (expression_redex t m ≡ Evaluated w) × (Binary op v w ≡ r) × (t ≡ u))
          → Replacement j g r u (NewExpression j g h (Infix op l m p))
      behind v e (inl k) =
          let a = literal_typed Waits g h t l v e d.2 in
          wider (right r u k) (λ x n. rw (a.0, not_value t m r u k) ((d.0, d.1, value_weaker Waits j g h l a.0 d.2, rw a.0 n.0, operands_right op _ _ _ n.1 d.4), Stays refl))
      behind v e (inr k) =
          let a = literal_typed Waits g h t l v e d.2 in
          let b = literal_typed (past (is_value l) Waits) g (h + 1) t m k.0 k.1 d.3 in
          here (Binary op v k.0) t r u k.2 k.3 s (d.1, a.1, b.1, rw (a.2, b.2) at d.4) (λ x n. rw (a.0, b.0) (placed j g h (op_sort op) x (Infix op l m p) d.0 n))

      by : (expression_redex t l ≡ At r u) ⊎ ((v : Value) × (expression_redex t l ≡ Evaluated v) × (and_then {B = Value} (expression_redex t m) (λ w. At (Binary op v w) t) ≡ At r u))
          → Replacement j g r u (NewExpression j g h (Infix op l m p))
      by (inl k) = wider (left r u k) (λ x n. infix_left g h op l m p x (not_value t l r u k) d n)
      by (inr k) = behind k.0 k.1 (split_last (expression_redex t m) (Binary op k.0) t r u k.2)

  pub call_replacement : (g : Scope) (h : ℕ) (t : Store) (m : ℕ) (es : Expressions) (p : ℕ) → IsTrue (is_store_of g g.temps t)
      → TypedExpression Waits g h (Call m es p)
      → AtArguments j g h (params_of (own_method g m)) t es → AtExpression j g h t (Call m es p)
  call_replacement g h t m es p s d inner r u q = by (split_last (expressions_redex t es) (Invoke m) t r u q)
    where
      by : (expressions_redex t es ≡ At r u) ⊎ ((vs : List Value) × (expressions_redex t es ≡ Evaluated vs) × (Invoke m vs ≡ r) × (t ≡ u))
          → Replacement j g r u (NewExpression j g h (Call m es p))
      by (inl k) = wider (inner r u k) (λ x n. rw (not_values t es r u k) ((d.0, rw n.1 d.1, n.0), Stays refl))
      by (inr k) =
          let f = arguments_fit Waits g h (params_of (own_method g m)) t es k.0 d.2 k.1 in
          here (Invoke m k.0) t r u k.2 k.3 s (rw f.1 d.1, f.0) (λ x a. rw (arguments_are t es k.0 k.1) (placed j g h (own_sort g m) x (Call m es p) d.0 a))

  send_to : (g : Scope) (h : ℕ) (e : Expression) (m : ℕ) (es : Expressions) (p : ℕ) (x : Contractum) → IsTrue g.under_way
      → is_value e ≡ false → TypedExpression Waits g h (Send e m es p)
      → NewExpression j g h e x → NewExpression j g h (Send e m es p) x
  send_to g h e m es p x way v d n =
      let rest : TypedArguments Nothing g (h + 1) (params_of (sent_method g (sort_of g e) m)) es = rw v at d.3 in
      let new : TypedArguments Nothing g (h + 1) (params_of (sent_method g (sort_of g (fill_expression e x)) m)) es = arguments_kept Nothing g (h + 1) _ _ m (size es) es n.1 d.2 rest in
      rw v ((d.0, n.0, destination_kept g _ _ m (size es) way n.1 d.2, arguments_weaker Nothing (past (is_value (fill_expression e x)) j) g (h + 1) _ es (nothing_below _) new), send_kept g _ _ m (size es) n.1 d.2)

  pub send_replacement : (g : Scope) (h : ℕ) (t : Store) (e : Expression) (m : ℕ) (es : Expressions) (p : ℕ) → IsTrue g.under_way
      → IsTrue (is_store_of g g.temps t)
      → TypedExpression Waits g h (Send e m es p) → AtExpression j g h t e
      → AtArguments j g (h + 1) (params_of (sent_method g (sort_of g e) m)) t es
      → AtExpression j g h t (Send e m es p)
  send_replacement g h t e m es p way s d to rest r u q = by (split (expression_redex t e) _ r u q)
    where
      behind : (v : Value) → expression_redex t e ≡ Evaluated v
          → (expressions_redex t es ≡ At r u) ⊎ ((vs : List Value) × (expressions_redex t es ≡ Evaluated vs) × (SynchronousSend v m vs ≡ r) × (t ≡ u))
          → Replacement j g r u (NewExpression j g h (Send e m es p))
      behind v k (inl i) =
          let a = literal_typed Waits g h t e v k d.1 in
          wider (rest r u i) (λ x n. rw (a.0, not_values t es r u i) ((d.0, value_weaker Waits j g h e a.0 d.1, rw n.1 d.2, rw a.0 n.0), Stays refl))
      behind v k (inr i) =
          let a = literal_typed Waits g h t e v k d.1 in
          let f = arguments_fit (past (is_value e) Waits) g (h + 1) (params_of (sent_method g (sort_of g e) m)) t es i.0 d.3 i.1 in
          here (SynchronousSend v m i.0) t r u i.2 i.3 s (a.1, rw (f.1, ← a.2) d.2, rw (← a.2) f.0)
          (λ x n. rw (a.0, arguments_are t es i.0 i.1, a.2) (placed j g h (send_sort g.program (value_sort g v) m) x (Send e m es p) d.0 n))

      by : (expression_redex t e ≡ At r u) ⊎ ((v : Value) × (expression_redex t e ≡ Evaluated v) × (and_then {B = Value} (expressions_redex t es) (λ vs. At (SynchronousSend v m vs) t) ≡ At r u))
          → Replacement j g r u (NewExpression j g h (Send e m es p))
      by (inl k) = wider (to r u k) (λ x n. send_to g h e m es p x way (not_value t e r u k) d n)
      by (inr k) = behind k.0 k.1 (split_last (expressions_redex t es) (λ vs. SynchronousSend k.0 m vs) t r u k.2)

  new_argument : (g : Scope) (h : ℕ) (vs : List Var) (e : Expression) (es : Expressions) (x : Contractum) → is_value e ≡ false
      → TypedArguments Waits g h vs (Arg e es)
      → NewExpression j g h e x → NewArguments j g h vs (Arg e es) x
  new_argument g h [] e es x v d n =
      let rest : TypedArguments Nothing g (h + 1) [] es = rw v at d.2 in
      rw v ((n.0, sort_kept _ _ n.1 d.1, arguments_weaker Nothing (past (is_value (fill_expression e x)) j) g (h + 1) [] es (nothing_below _) rest), refl)
  new_argument g h (y ∷ vs) e es x v d n =
      let rest : TypedArguments Nothing g (h + 1) vs es = rw v at d.2 in
      rw v ((n.0, need_kept _ _ _ n.1 d.1, arguments_weaker Nothing (past (is_value (fill_expression e x)) j) g (h + 1) vs es (nothing_below _) rest), refl)

  -- the parameters behind the first
  abbrev pub later : List Var → List Var
  later [] = []
  later (y ∷ vs) = vs

  new_rest : (g : Scope) (h : ℕ) (vs : List Var) (e : Expression) (es : Expressions) (x : Contractum) → is_value e ≡ true
      → TypedArguments Waits g h vs (Arg e es)
      → NewArguments j g (h + 1) (later vs) es x → NewArguments j g h vs (Arg e es) x
  new_rest g h [] e es x v d n = rw v ((value_weaker Waits j g h e v d.0, d.1, rw v n.0), ap suc n.1)
  new_rest g h (y ∷ vs) e es x v d n = rw v ((value_weaker Waits j g h e v d.0, d.1, rw v n.0), ap suc n.1)

  first_typed : (g : Scope) (h : ℕ) (vs : List Var) (e : Expression) (es : Expressions) → TypedArguments Waits g h vs (Arg e es)
      → TypedExpression Waits g h e
  first_typed g h [] e es d = d.0
  first_typed g h (y ∷ vs) e es d = d.0

  pub arguments_replacement : (g : Scope) (h : ℕ) (vs : List Var) (t : Store) (e : Expression) (es : Expressions)
      → TypedArguments Waits g h vs (Arg e es)
      → AtExpression j g h t e → AtArguments j g (h + 1) (later vs) t es → AtArguments j g h vs t (Arg e es)
  arguments_replacement g h vs t e es d first rest r u q = by (split (expression_redex t e) _ r u q)
    where
      by : (expression_redex t e ≡ At r u) ⊎ ((v : Value) × (expression_redex t e ≡ Evaluated v) × (and_then {B = List Value} (expressions_redex t es) (λ vs. Evaluated (v ∷ vs)) ≡ At r u))
          → Replacement j g r u (NewArguments j g h vs (Arg e es))
      by (inl k) = wider (first r u k) (λ x n. new_argument g h vs e es x (not_value t e r u k) d n)
      by (inr k) = wider (rest r u (split_more (expressions_redex t es) (λ vs. k.0 ∷ vs) r u k.2))
          (λ x n. new_rest g h vs e es x (literal_typed Waits g h t e k.0 k.1 (first_typed g h vs e es d)).0 d n)

  pub alternatives_replacement : (g : Scope) (i : ℕ) (t : Store) (e : Expression) (names : Option (List Named)) (ss : Statements) (alts : Alternatives)
      → TypedAlternatives Waits g i (Alt e names ss alts) → AtExpression j g i t e → AtAlternatives j g (i + 1) t alts
      → AtAlternatives j g i t (Alt e names ss alts)
  alternatives_replacement g i t e names ss alts d first rest r u q = by (split (expression_redex t e) _ r u q)
    where
      new_guard : (x : Contractum) → is_value e ≡ false → NewExpression j g i e x → NewAlternatives j g i (Alt e names ss alts) x
      new_guard x v n =
          let others : TypedAlternatives Nothing g (i + 1) alts = rw v at d.4 in
          rw v (n.0, need_kept _ _ _ n.1 d.1, d.2, d.3, alternatives_weaker Nothing (past (is_value (fill_expression e x)) j) g (i + 1) alts (nothing_below _) others)

      new_others : (x : Contractum) → is_value e ≡ true → NewAlternatives j g (i + 1) alts x → NewAlternatives j g i (Alt e names ss alts) x
      new_others x v n = rw v (value_weaker Waits j g i e v d.0, d.1, d.2, d.3, rw v n)

      by : (expression_redex t e ≡ At r u) ⊎ ((v : Value) × (expression_redex t e ≡ Evaluated v) × (and_then {B = List Choice} (guards_redex t alts) (λ cs. Evaluated (record { guard = v; answer = names; work = ss } ∷ cs)) ≡ At r u))
          → Replacement j g r u (NewAlternatives j g i (Alt e names ss alts))
      by (inl k) = wider (first r u k) (λ x n. new_guard x (not_value t e r u k) n)
      by (inr k) = wider (rest r u (split_more (guards_redex t alts) (λ cs. record { guard = k.0; answer = names; work = ss } ∷ cs) r u k.2))
          (λ x n. new_others x (literal_typed Waits g i t e k.0 k.1 d.0).0 n)
