-- Methods under way in a part, from those of the parts inside it.
use Rattle.std.proofs.Common.{◌≡◌, refl, ap, ◌∙◌, ℕ, ◌+◌, List, [], ◌∷◌, ◌++◌, append-nil, Option, Some, None, is_none, true, false, ◌⊎◌, inl, inr, arith}
use Rattle.run_types.specs.declared.types.Value.{Value}
use Rattle.run_types.specs.declared.types.Op.{Op}
use Rattle.run_types.specs.declared.types.Item.TheVariants as I
use Rattle.pool_syntax.specs.declared.tree.Named.{Named}
use Rattle.pool_syntax.specs.declared.tree.Var.{Var}
use Rattle.pool_syntax.specs.Terms.{Store, Expression, Prefix, Infix, Call, Send, Frame, Expressions, Arg, Assign, Write, Do, Async, If, Select, Serve, Statements, Done, Then, Alternatives, Alt}
use Rattle.pool_syntax.specs.Typing.{Scope, sort_of, value_sort, inside, behind_value, params_of, sent_method}
use Rattle.pool_relation.specs.Reducible.{Choice, Reducible, Evaluated, At, and_then, Unary, Binary, Invoke, SynchronousSend, Leave, Set, Print, Drop, Post, Branch, Choose, Finish, left_served, is_over, Contractum, is_value, is_done, fill_expression, fill_expressions, fill_statement, fill_statements, fill_guards, expression_redex, expressions_redex}
use Rattle.pool_relation.specs.Reducible.{guards_redex}
use Rattle.pool_relation.specs.UnderWay.{Activity, Own, Serving, in_expression, in_expressions, in_statement, in_statements, in_guards, serves}
use Rattle.pool_relation.proofs.typing.TypedTerm.{Waits, past, TypedExpression, TypedArguments, TypedStatement, TypedStatements, TypedAlternatives}
use Rattle.pool_relation.proofs.redex.RedexSearch.{split, split_last, split_more, literal_is, not_value, not_values, not_guards, arguments_are, guards_are, InMethod, InBody, InValue, InPost, AtEnd, in_method}
use Rattle.pool_relation.proofs.redex.Idle.{expression_idle, statements_idle, arguments_idle, alternatives_idle, value_idle, values_idle, guards_idle}
use Rattle.pool_relation.proofs.redex.Activities.{Activities, same, behind_one, at_once, placed_expression, placed_statement, ExpressionActivities, ArgumentsActivities, StatementActivities, StatementsActivities, AlternativesActivities}

pub prefix_activities : (g : Scope) (t : Store) (op : Op) (e : Expression) (p : ℕ) → ExpressionActivities g t e → ExpressionActivities g t (Prefix op e p)
prefix_activities g t op e p inner r u q = by (split_last (expression_redex t e) (Unary op) t r u q)
  where
    by : (expression_redex t e ≡ At r u) ⊎ ((v : Value) × (expression_redex t e ≡ Evaluated v) × (Unary op v ≡ r) × (t ≡ u))
        → Activities g r (in_expression e) (λ x. in_expression (fill_expression (Prefix op e p) x))
    by (inl k) = same (inner r u k) refl (λ x. rw (not_value t e r u k) refl)
    by (inr k) = at_once (Unary op k.0) r k.2 (value_idle t e k.0 k.1) (λ x a. rw (ap is_value (literal_is t e k.0 k.1).1) (placed_expression (Unary op k.0) x (Prefix op e p) refl a))

pub infix_activities : (g : Scope) (h : ℕ) (t : Store) (op : Op) (l n : Expression) (p : ℕ) → TypedExpression Waits g h (Infix op l n p)
    → ExpressionActivities g t l → ExpressionActivities g t n → ExpressionActivities g t (Infix op l n p)
infix_activities g h t op l n p d left right r u q = by (split (expression_redex t l) _ r u q)
  where
    behind : (v : Value) → expression_redex t l ≡ Evaluated v
        → (expression_redex t n ≡ At r u) ⊎ ((a : Value) × (expression_redex t n ≡ Evaluated a) × (Binary op v a ≡ r) × (t ≡ u))
        → Activities g r (in_expression (Infix op l n p)) (λ x. in_expression (fill_expression (Infix op l n p) x))
    behind v e (inl k) =
        let f : is_value l ≡ true = ap is_value (literal_is t l v e).1 in
        let i : in_expression l ≡ [] = value_idle t l v e in
        same (right r u k) (rw i refl) (λ x. rw (f, not_value t n r u k) (rw i refl))
    behind v e (inr k) =
        let f : is_value l ≡ true = ap is_value (literal_is t l v e).1 in
        let i : in_expression l ≡ [] = value_idle t l v e in
        let j : in_expression n ≡ [] = value_idle t n k.0 k.1 in
        at_once (Binary op v k.0) r k.2 (rw (i, j) refl) (λ x a. rw (f, ap is_value (literal_is t n k.0 k.1).1) (placed_expression (Binary op v k.0) x (Infix op l n p) refl a))

    by : (expression_redex t l ≡ At r u) ⊎ ((v : Value) × (expression_redex t l ≡ Evaluated v) × (and_then {B = Value} (expression_redex t n) (λ a. At (Binary op v a) t) ≡ At r u))
        → Activities g r (in_expression (Infix op l n p)) (λ x. in_expression (fill_expression (Infix op l n p) x))
    by (inl k) =
        let f : is_value l ≡ false = not_value t l r u k in
        let i : in_expression n ≡ [] = expression_idle g (h + 1) n (rw f at d.3) in
        same (left r u k) (rw i (append-nil (in_expression l))) (λ x. rw f (rw i (append-nil (in_expression (fill_expression l x)))))
    by (inr k) = behind k.0 k.1 (split_last (expression_redex t n) (Binary op k.0) t r u k.2)

pub call_activities : (g : Scope) (t : Store) (m : ℕ) (es : Expressions) (p : ℕ) → ArgumentsActivities g t es → ExpressionActivities g t (Call m es p)
call_activities g t m es p inner r u q = by (split_last (expressions_redex t es) (Invoke m) t r u q)
  where
    by : (expressions_redex t es ≡ At r u) ⊎ ((vs : List Value) × (expressions_redex t es ≡ Evaluated vs) × (Invoke m vs ≡ r) × (t ≡ u))
        → Activities g r (in_expressions es) (λ x. in_expression (fill_expression (Call m es p) x))
    by (inl k) = same (inner r u k) refl (λ x. rw (not_values t es r u k) refl)
    by (inr k) = at_once (Invoke m k.0) r k.2 (values_idle t es k.0 k.1) (λ x a. rw (arguments_are t es k.0 k.1) (placed_expression (Invoke m k.0) x (Call m es p) refl a))

pub send_activities : (g : Scope) (h : ℕ) (t : Store) (e : Expression) (m : ℕ) (es : Expressions) (p : ℕ)
    → TypedExpression Waits g h (Send e m es p) → ExpressionActivities g t e → ArgumentsActivities g t es
    → ExpressionActivities g t (Send e m es p)
send_activities g h t e m es p d to rest r u q = by (split (expression_redex t e) _ r u q)
  where
    behind : (v : Value) → expression_redex t e ≡ Evaluated v
        → (expressions_redex t es ≡ At r u) ⊎ ((vs : List Value) × (expressions_redex t es ≡ Evaluated vs) × (SynchronousSend v m vs ≡ r) × (t ≡ u))
        → Activities g r (in_expression (Send e m es p)) (λ x. in_expression (fill_expression (Send e m es p) x))
    behind v a (inl k) =
        let f : is_value e ≡ true = ap is_value (literal_is t e v a).1 in
        let i : in_expression e ≡ [] = value_idle t e v a in
        same (rest r u k) (rw i refl) (λ x. rw (f, not_values t es r u k) (rw i refl))
    behind v a (inr k) =
        let f : is_value e ≡ true = ap is_value (literal_is t e v a).1 in
        let i : in_expression e ≡ [] = value_idle t e v a in
        let j : in_expressions es ≡ [] = values_idle t es k.0 k.1 in
        at_once (SynchronousSend v m k.0) r k.2 (rw (i, j) refl) (λ x c. rw (f, arguments_are t es k.0 k.1) (placed_expression (SynchronousSend v m k.0) x (Send e m es p) refl c))

    by : (expression_redex t e ≡ At r u) ⊎ ((v : Value) × (expression_redex t e ≡ Evaluated v) × (and_then {B = Value} (expressions_redex t es) (λ vs. At (SynchronousSend v m vs) t) ≡ At r u))
        → Activities g r (in_expression (Send e m es p)) (λ x. in_expression (fill_expression (Send e m es p) x))
    by (inl k) =
        let f : is_value e ≡ false = not_value t e r u k in
        let i : in_expressions es ≡ [] = arguments_idle g (h + 1) (params_of (sent_method g (sort_of g e) m)) es (rw f at d.3) in
        same (to r u k) (rw i (append-nil (in_expression e))) (λ x. rw f (rw i (append-nil (in_expression (fill_expression e x)))))
    by (inr k) = behind k.0 k.1 (split_last (expressions_redex t es) (λ vs. SynchronousSend k.0 m vs) t r u k.2)

pub outer : {g : Scope} {r : Reducible} {old : List Activity} {new : Contractum → List Activity} (m : ℕ) → Activities (inside g m) r old new
    → Activities g r old new
outer m b = record { before = b.before; now = b.now; old_is = b.old_is; new_is = b.new_is; ends = b.ends }

pub outer_post : {g : Scope} {r : Reducible} {old : List Activity} {new : Contractum → List Activity} (m : ℕ) → Activities (behind_value (inside g m)) r old new
    → Activities g r old new
outer_post m b = record { before = b.before; now = b.now; old_is = b.old_is; new_is = b.new_is; ends = b.ends }

over_is : (qs : Statements) → is_done qs ≡ true → qs ≡ Done
over_is Done h = refl
over_is (Then s qs) h = absurd (grind (arith, h))

pub frame_activities : (g : Scope) (h : ℕ) (t : Store) (m : ℕ) (w : Store) (ss : Statements) (e : Expression) (qs : Statements)
    → TypedExpression Waits g h (Frame m w ss e qs) → StatementsActivities (inside g m) w ss → ExpressionActivities (inside g m) w e
    → StatementsActivities (behind_value (inside g m)) w qs → ExpressionActivities g t (Frame m w ss e qs)
frame_activities g h t m w ss e qs d body value post r u q = by (in_method None w ss e qs Leave r u q)
  where
    by : InMethod None w ss e qs Leave r u
        → Activities g r (in_expression (Frame m w ss e qs)) (λ x. in_expression (fill_expression (Frame m w ss e qs) x))
    by (InBody k f) =
        let i : in_expression e ≡ [] = expression_idle (inside g m) 0 e (rw f at d.4) in
        let j : in_statements qs ≡ [] = statements_idle (behind_value (inside g m)) qs (rw f at d.7) in
        behind_one (Own m) (outer m (body r u k)) (rw (i, j) (ap (λ l. Own m ∷ l) (append-nil (in_statements ss))))
        (λ x. rw f (rw (i, j) (ap (λ l. Own m ∷ l) (append-nil (in_statements (fill_statements ss x))))))
    by (InValue is k f) =
        let j : in_statements qs ≡ [] = statements_idle (behind_value (inside g m)) qs (rw (is, f) at d.7) in
        behind_one (Own m) (outer m (value r u k)) (rw (is, j) (ap (λ l. Own m ∷ l) (append-nil (in_expression e))))
        (λ x. rw (is, f) (rw j (ap (λ l. Own m ∷ l) (append-nil (in_expression (fill_expression e x))))))
    by (InPost is v k f c p o) =
        let i : in_expression e ≡ [] = value_idle w e v k in
        behind_one (Own m) (outer_post m (post r u p)) (rw (is, i) refl) (λ x. rw (is, f, o) (rw i refl))
    by (AtEnd is v k f o s z) =
        let i : in_expression e ≡ [] = value_idle w e v k in
        let j : in_statements qs ≡ [] = ap in_statements (over_is qs o) in
        at_once (Leave v) r s (m, rw (is, i, j) refl) (λ x a. rw (is, f, o) (placed_expression (Leave v) x (Frame m w Done e qs) refl a))

pub later_idle : (g : Scope) (h : ℕ) (vs : List Var) (e : Expression) (es : Expressions) → is_value e ≡ false
    → TypedArguments Waits g h vs (Arg e es) → in_expressions es ≡ []
later_idle g h [] e es f d = arguments_idle g (h + 1) [] es (rw f at d.2)
later_idle g h (y ∷ vs) e es f d = arguments_idle g (h + 1) vs es (rw f at d.2)

pub argument_activities : (g : Scope) (h : ℕ) (vs : List Var) (t : Store) (e : Expression) (es : Expressions)
    → TypedArguments Waits g h vs (Arg e es) → ExpressionActivities g t e → ArgumentsActivities g t es → ArgumentsActivities g t (Arg e es)
argument_activities g h vs t e es d first rest r u q = by (split (expression_redex t e) _ r u q)
  where
    by : (expression_redex t e ≡ At r u) ⊎ ((v : Value) × (expression_redex t e ≡ Evaluated v) × (and_then {B = List Value} (expressions_redex t es) (λ vs. Evaluated (v ∷ vs)) ≡ At r u))
        → Activities g r (in_expressions (Arg e es)) (λ x. in_expressions (fill_expressions (Arg e es) x))
    by (inl k) =
        let f : is_value e ≡ false = not_value t e r u k in
        let i : in_expressions es ≡ [] = later_idle g h vs e es f d in
        same (first r u k) (rw i (append-nil (in_expression e))) (λ x. rw f (rw i (append-nil (in_expression (fill_expression e x)))))
    by (inr k) =
        let f : is_value e ≡ true = ap is_value (literal_is t e k.0 k.1).1 in
        let i : in_expression e ≡ [] = value_idle t e k.0 k.1 in
        same (rest r u (split_more (expressions_redex t es) (λ vs. k.0 ∷ vs) r u k.2)) (rw i refl) (λ x. rw f (rw i refl))

pub guard_activities : (g : Scope) (i : ℕ) (t : Store) (e : Expression) (names : Option (List Named)) (ss : Statements) (alts : Alternatives)
    → TypedAlternatives Waits g i (Alt e names ss alts)
    → ExpressionActivities g t e → AlternativesActivities g t alts → AlternativesActivities g t (Alt e names ss alts)
guard_activities g i t e names ss alts d first rest r u q = by (split (expression_redex t e) _ r u q)
  where
    by : (expression_redex t e ≡ At r u) ⊎ ((v : Value) × (expression_redex t e ≡ Evaluated v) × (and_then {B = List Choice} (guards_redex t alts) (λ cs. Evaluated (record { guard = v; answer = names; work = ss } ∷ cs)) ≡ At r u))
        → Activities g r (in_guards (Alt e names ss alts)) (λ x. in_guards (fill_guards (Alt e names ss alts) x))
    by (inl k) =
        let f : is_value e ≡ false = not_value t e r u k in
        let j : in_guards alts ≡ [] = alternatives_idle g (i + 1) alts (rw f at d.4) in
        same (first r u k) (rw j (append-nil (in_expression e))) (λ x. rw f (rw j (append-nil (in_expression (fill_expression e x)))))
    by (inr k) =
        let f : is_value e ≡ true = ap is_value (literal_is t e k.0 k.1).1 in
        let j : in_expression e ≡ [] = value_idle t e k.0 k.1 in
        same (rest r u (split_more (guards_redex t alts) (λ cs. record { guard = k.0; answer = names; work = ss } ∷ cs) r u k.2)) (rw j refl) (λ x. rw f (rw j refl))

pub assign_activities : (g : Scope) (t : Store) (n p : ℕ) (e : Expression) → ExpressionActivities g t e → StatementActivities g t (Assign n p e)
assign_activities g t n p e inner r u q = by (split_last (expression_redex t e) (Set n) t r u q)
  where
    by : (expression_redex t e ≡ At r u) ⊎ ((v : Value) × (expression_redex t e ≡ Evaluated v) × (Set n v ≡ r) × (t ≡ u))
        → Activities g r (in_statement (Assign n p e)) (λ x. in_statements (fill_statement (Assign n p e) x))
    by (inl k) = same (inner r u k) refl (λ x. rw (not_value t e r u k) (append-nil (in_expression (fill_expression e x))))
    by (inr k) = at_once (Set n k.0) r k.2 (value_idle t e k.0 k.1) (λ x a. rw (ap is_value (literal_is t e k.0 k.1).1) (placed_statement (Set n k.0) x (Assign n p e) refl a))

pub write_activities : (g : Scope) (t : Store) (e : Expression) → ExpressionActivities g t e → StatementActivities g t (Write e)
write_activities g t e inner r u q = by (split_last (expression_redex t e) (λ v. Print (I.Value v)) t r u q)
  where
    by : (expression_redex t e ≡ At r u) ⊎ ((v : Value) × (expression_redex t e ≡ Evaluated v) × (Print (I.Value v) ≡ r) × (t ≡ u))
        → Activities g r (in_statement (Write e)) (λ x. in_statements (fill_statement (Write e) x))
    by (inl k) = same (inner r u k) refl (λ x. rw (not_value t e r u k) (append-nil (in_expression (fill_expression e x))))
    by (inr k) = at_once (Print (I.Value k.0)) r k.2 (value_idle t e k.0 k.1) (λ x a. rw (ap is_value (literal_is t e k.0 k.1).1) (placed_statement (Print (I.Value k.0)) x (Write e) refl a))

pub do_activities : (g : Scope) (t : Store) (e : Expression) → ExpressionActivities g t e → StatementActivities g t (Do e)
do_activities g t e inner r u q = by (split_last (expression_redex t e) Drop t r u q)
  where
    by : (expression_redex t e ≡ At r u) ⊎ ((v : Value) × (expression_redex t e ≡ Evaluated v) × (Drop v ≡ r) × (t ≡ u))
        → Activities g r (in_statement (Do e)) (λ x. in_statements (fill_statement (Do e) x))
    by (inl k) = same (inner r u k) refl (λ x. rw (not_value t e r u k) (append-nil (in_expression (fill_expression e x))))
    by (inr k) = at_once (Drop k.0) r k.2 (value_idle t e k.0 k.1) (λ x a. rw (ap is_value (literal_is t e k.0 k.1).1) (placed_statement (Drop k.0) x (Do e) refl a))

pub if_activities : (g : Scope) (t : Store) (e : Expression) (these those : Statements) → ExpressionActivities g t e
    → StatementActivities g t (If e these those)
if_activities g t e these those inner r u q = by (split_last (expression_redex t e) (λ v. Branch v these those) t r u q)
  where
    by : (expression_redex t e ≡ At r u) ⊎ ((v : Value) × (expression_redex t e ≡ Evaluated v) × (Branch v these those ≡ r) × (t ≡ u))
        → Activities g r (in_statement (If e these those)) (λ x. in_statements (fill_statement (If e these those) x))
    by (inl k) = same (inner r u k) refl (λ x. rw (not_value t e r u k) (append-nil (in_expression (fill_expression e x))))
    by (inr k) = at_once (Branch k.0 these those) r k.2 (value_idle t e k.0 k.1) (λ x a. rw (ap is_value (literal_is t e k.0 k.1).1) (placed_statement (Branch k.0 these those) x (If e these those) refl a))

pub select_activities : (g : Scope) (t : Store) (alts : Alternatives) → AlternativesActivities g t alts → StatementActivities g t (Select alts)
select_activities g t alts inner r u q = by (split_last (guards_redex t alts) Choose t r u q)
  where
    by : (guards_redex t alts ≡ At r u) ⊎ ((v : List Choice) × (guards_redex t alts ≡ Evaluated v) × (Choose v ≡ r) × (t ≡ u))
        → Activities g r (in_statement (Select alts)) (λ x. in_statements (fill_statement (Select alts) x))
    by (inl k) = same (inner r u k) refl (λ x. rw (not_guards t alts r u k) (append-nil (in_guards (fill_guards alts x))))
    by (inr k) = at_once (Choose k.0) r k.2 (guards_idle t alts k.0 k.1) (λ x a. rw (guards_are t alts k.0 k.1) (placed_statement (Choose k.0) x (Select alts) refl a))

pub async_activities : (g : Scope) (t : Store) (e : Expression) (m p : ℕ) (es : Expressions) → TypedStatement Waits g (Async e m p es)
    → ExpressionActivities g t e → ArgumentsActivities g t es → StatementActivities g t (Async e m p es)
async_activities g t e m p es d to rest r u q = by (split (expression_redex t e) _ r u q)
  where
    behind : (v : Value) → expression_redex t e ≡ Evaluated v
        → (expressions_redex t es ≡ At r u) ⊎ ((vs : List Value) × (expressions_redex t es ≡ Evaluated vs) × (Post v m vs ≡ r) × (t ≡ u))
        → Activities g r (in_statement (Async e m p es)) (λ x. in_statements (fill_statement (Async e m p es) x))
    behind v a (inl k) =
        let f : is_value e ≡ true = ap is_value (literal_is t e v a).1 in
        let i : in_expression e ≡ [] = value_idle t e v a in
        same (rest r u k) (rw i refl) (λ x. rw (f, not_values t es r u k) (rw i (append-nil (in_expressions (fill_expressions es x)))))
    behind v a (inr k) =
        let f : is_value e ≡ true = ap is_value (literal_is t e v a).1 in
        let i : in_expression e ≡ [] = value_idle t e v a in
        let j : in_expressions es ≡ [] = values_idle t es k.0 k.1 in
        at_once (Post v m k.0) r k.2 (rw (i, j) refl) (λ x c. rw (f, arguments_are t es k.0 k.1) (placed_statement (Post v m k.0) x (Async e m p es) refl c))

    by : (expression_redex t e ≡ At r u) ⊎ ((v : Value) × (expression_redex t e ≡ Evaluated v) × (and_then {B = Unit {0}} (expressions_redex t es) (λ vs. At (Post v m vs) t) ≡ At r u))
        → Activities g r (in_statement (Async e m p es)) (λ x. in_statements (fill_statement (Async e m p es) x))
    by (inl k) =
        let f : is_value e ≡ false = not_value t e r u k in
        let i : in_expressions es ≡ [] = arguments_idle g (g.held + 1) (params_of (sent_method g (sort_of g e) m)) es (rw f at d.2) in
        same (to r u k) (rw i (append-nil (in_expression e))) (λ x. rw f (rw i (append-nil (in_expression (fill_expression e x) ++ []) ∙ append-nil (in_expression (fill_expression e x)))))
    by (inr k) = behind k.0 k.1 (split_last (expressions_redex t es) (λ vs. Post k.0 m vs) t r u k.2)

-- no post statement that comes next has anything under way
post_idle : (g : Scope) (c : Option ℕ) (ss : Statements) (e : Expression) (qs : Statements) → TypedStatements (past (is_done ss) (past (is_value e) (past (is_none c) Waits))) g qs
    → ss ≡ Done → is_value e ≡ true → is_over c qs ≡ true → in_statements qs ≡ []
post_idle g None ss e qs d is f o = ap in_statements (over_is qs o)
post_idle g (Some k) ss e qs d is f o = statements_idle g qs (rw (is, f) at d)

-- what is left of a served method serves no one
left_silent : (c : Option ℕ) (m : ℕ) (w : Store) (ss : Statements) (e : Expression) (qs : Statements) (o : ℕ) → ss ≡ Done → in_expression e ≡ []
    → in_statements qs ≡ [] → serves o (left_served c m w ss e qs) ≡ []
left_silent None m w ss e qs o is i j = refl
left_silent (Some k) m w ss e Done o is i j = refl
left_silent (Some k) m w ss e (Then s qs) o is i j = rw (is, i, j) refl

pub serve_activities : (g : Scope) (t : Store) (m : ℕ) (c : Option ℕ) (w : Store) (ss : Statements) (e : Expression) (qs : Statements)
    → TypedStatement Waits g (Serve m c w ss e qs) → StatementsActivities (inside g m) w ss → ExpressionActivities (inside g m) w e
    → StatementsActivities (behind_value (inside g m)) w qs → StatementActivities g t (Serve m c w ss e qs)
serve_activities g t m c w ss e qs d body value post r u q = by (in_method c w ss e qs end r u q)
  where
    end : Value → Reducible
    end v = Finish c v (left_served c m w ss e qs)

    by : InMethod c w ss e qs end r u
        → Activities g r (in_statement (Serve m c w ss e qs)) (λ x. in_statements (fill_statement (Serve m c w ss e qs) x))
    by (InBody k f) =
        let i : in_expression e ≡ [] = expression_idle (inside g m) 0 e (rw f at d.3) in
        let j : in_statements qs ≡ [] = statements_idle (behind_value (inside g m)) qs (rw f at d.6) in
        behind_one (Serving m c) (outer m (body r u k)) (rw (i, j) (ap (λ l. Serving m c ∷ l) (append-nil (in_statements ss))))
        (λ x. rw f (rw (i, j) (ap (λ l. Serving m c ∷ l) (append-nil (in_statements (fill_statements ss x) ++ []) ∙ append-nil (in_statements (fill_statements ss x))))))
    by (InValue is k f) =
        let j : in_statements qs ≡ [] = statements_idle (behind_value (inside g m)) qs (rw (is, f) at d.6) in
        behind_one (Serving m c) (outer m (value r u k)) (rw (is, j) (ap (λ l. Serving m c ∷ l) (append-nil (in_expression e))))
        (λ x. rw (is, f) (rw j (ap (λ l. Serving m c ∷ l) (append-nil (in_expression (fill_expression e x) ++ []) ∙ append-nil (in_expression (fill_expression e x))))))
    by (InPost is v k f n p o) =
        let i : in_expression e ≡ [] = value_idle w e v k in
        behind_one (Serving m c) (outer_post m (post r u p)) (rw (is, i) refl)
        (λ x. rw (is, f, o) (rw i (ap (λ l. Serving m c ∷ l) (append-nil (in_statements (fill_statements qs x))))))
    by (AtEnd is v k f o s z) =
        let i : in_expression e ≡ [] = value_idle w e v k in
        let j : in_statements qs ≡ [] = post_idle (behind_value (inside g m)) c ss e qs d.6 is f o in
        let sort : sort_of (inside g m) e ≡ value_sort g v = ap (sort_of (inside g m)) (literal_is w e v k).1 in
        at_once (end v) r s (m, rw (is, i, j) refl, rw sort at d.4, (λ n. left_silent c m w ss e qs n is i j))
        (λ x a. rw (is, f, o) (placed_statement (Finish c v (left_served c m w Done e qs)) x (Serve m c w Done e qs) refl a))
