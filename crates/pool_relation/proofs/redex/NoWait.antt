-- A part that contains no wait does not wait next.
use Rattle.std.proofs.Common.{◌≡◌, refl, sym, ℕ, ◌+◌, List, [], ◌∷◌, Option, Some, None, is_none, Bool, true, false, arith}
use Rattle.run_types.specs.declared.types.Item.TheVariants as I
use Rattle.pool_syntax.specs.declared.tree.Var.{Var}
use Rattle.pool_syntax.specs.Terms.{Store, Expression, Literal, Me, Variable, Create, Prefix, Infix, Call, Send, Frame, Wait, Expressions, NoArgs, Arg, Statement, Assign, Write, WriteText, Do, Async, If, While, Answer, Select, Serve, Statements, Done, Then, Alternatives, NoAlts, Alt}
use Rattle.pool_syntax.specs.Typing.{Scope, sort_of, inside, behind_value, own_method, params_of, sent_method}
use Rattle.pool_relation.specs.Reducible.{Reducible, Found, Evaluated, At, and_then, OwnName, Read, Make, Unary, Binary, Invoke, SynchronousSend, Leave, Waiting, Set, Print, Drop, Post, Branch, Loop, Accept, Choose, Finish, in_post, left_served, is_value, is_done, expression_redex, expressions_redex, statement_redex, statements_redex}
use Rattle.pool_relation.specs.Reducible.{guards_redex}
use Rattle.pool_relation.proofs.typing.TypedTerm.{Holds, has_waits, past, TypedExpression, TypedArguments, TypedStatement, TypedStatements, TypedAlternatives}
use Rattle.pool_relation.proofs.redex.RedexSearch.{at_is_no_value}

-- the search does not end at a wait
abbrev pub NoWait : {A : Type 0} → Found A → Type 0
NoWait {A} f = (b m : ℕ) (u : Store) → ¬ (f ≡ At (Waiting b m) u)

both_no_wait : {A B : Type 0} (f : Found A) (next : A → Found B) → NoWait f → ((a : A) → NoWait (next a)) → NoWait (and_then f next)
both_no_wait (Evaluated a) next p q b m u h = q a b m u h
both_no_wait (At r t) next p q b m u h = p b m u (cc)

value_no_wait : {A : Type 0} (a : A) → NoWait (Evaluated a)
value_no_wait a b m u h = at_is_no_value (Waiting b m) u a (sym h)

-- a redex that is no wait
abbrev is_wait : Reducible → Bool
is_wait (Waiting b m) = true
is_wait _ = false

at_no_wait : {A : Type 0} (r : Reducible) (t : Store) → is_wait r ≡ false → NoWait {A = A} (At r t)
at_no_wait r t w b m u h = let e : r ≡ Waiting b m = cc in absurd (grind (arith, w, e))

last_no_wait : {A B : Type 0} (f : Found A) (k : A → Reducible) (t : Store) → NoWait f → ((a : A) → is_wait (k a) ≡ false)
    → NoWait {A = B} (and_then f (λ a. At (k a) t))
last_no_wait f k t p w = both_no_wait f (λ a. At (k a) t) p (λ a. at_no_wait (k a) t (w a))

post_no_wait : (c : Option ℕ) (f : Found (Unit {0})) → NoWait f → NoWait (in_post c f)
post_no_wait None f p = p
post_no_wait (Some k) f p = value_no_wait tt

past_no_waits : (b : Bool) (k : Holds) → has_waits k ≡ false → has_waits (past b k) ≡ false
past_no_waits true k w = w
past_no_waits false k w = refl

mutual
  expression_no_wait : (k : Holds) (g : Scope) (h : ℕ) (t : Store) (e : Expression) → has_waits k ≡ false
      → TypedExpression k g h e → NoWait (expression_redex t e)
  expression_no_wait k g h t (Literal v p) w d = value_no_wait v
  expression_no_wait k g h t (Me p) w d = at_no_wait OwnName t refl
  expression_no_wait k g h t (Variable x p) w d = at_no_wait (Read x) t refl
  expression_no_wait k g h t (Create c p) w d = at_no_wait (Make c) t refl
  expression_no_wait k g h t (Prefix op e p) w d = last_no_wait (expression_redex t e) (Unary op) t (expression_no_wait k g h t e w d.2) (λ v. refl)
  expression_no_wait k g h t (Infix op l r p) w d =
      both_no_wait (expression_redex t l) _ (expression_no_wait k g h t l w d.2)
      (λ v. last_no_wait (expression_redex t r) (Binary op v) t (expression_no_wait (past (is_value l) k) g (h + 1) t r (past_no_waits (is_value l) k w) d.3) (λ a. refl))
  expression_no_wait k g h t (Call m es p) w d = last_no_wait (expressions_redex t es) (Invoke m) t (arguments_no_wait k g h (params_of (own_method g m)) t es w d.2) (λ v. refl)
  expression_no_wait k g h t (Send e m es p) w d =
      both_no_wait (expression_redex t e) _ (expression_no_wait k g h t e w d.1)
      (λ v. last_no_wait (expressions_redex t es) (λ vs. SynchronousSend v m vs) t (arguments_no_wait (past (is_value e) k) g (h + 1) (params_of (sent_method g (sort_of g e) m)) t es (past_no_waits (is_value e) k w) d.3) (λ a. refl))
  expression_no_wait k g h t (Frame m u ss e qs) w d =
      both_no_wait (statements_redex u ss) _ (statements_no_wait k (inside g m) u ss w d.3)
      (λ done. both_no_wait (expression_redex u e) _ (expression_no_wait (past (is_done ss) k) (inside g m) 0 u e (past_no_waits (is_done ss) k w) d.4)
      (λ v. last_no_wait (in_post None (statements_redex u qs)) (λ over. Leave v) u (statements_no_wait (past (is_done ss) (past (is_value e) k)) (behind_value (inside g m)) u qs
      (past_no_waits (is_done ss) (past (is_value e) k) (past_no_waits (is_value e) k w)) d.7) (λ over. refl)))
  expression_no_wait k g h t (Wait b m) w d = absurd (grind (arith, w, d.0))

  arguments_no_wait : (k : Holds) (g : Scope) (h : ℕ) (vs : List Var) (t : Store) (es : Expressions) → has_waits k ≡ false
      → TypedArguments k g h vs es → NoWait (expressions_redex t es)
  arguments_no_wait k g h vs t NoArgs w d = value_no_wait []
  arguments_no_wait k g h [] t (Arg e es) w d =
      both_no_wait (expression_redex t e) _ (expression_no_wait k g h t e w d.0)
      (λ v. both_no_wait (expressions_redex t es) _ (arguments_no_wait (past (is_value e) k) g (h + 1) [] t es (past_no_waits (is_value e) k w) d.2) (λ vs. value_no_wait (v ∷ vs)))
  arguments_no_wait k g h (y ∷ ys) t (Arg e es) w d =
      both_no_wait (expression_redex t e) _ (expression_no_wait k g h t e w d.0)
      (λ v. both_no_wait (expressions_redex t es) _ (arguments_no_wait (past (is_value e) k) g (h + 1) ys t es (past_no_waits (is_value e) k w) d.2) (λ vs. value_no_wait (v ∷ vs)))

  statement_no_wait : (k : Holds) (g : Scope) (t : Store) (s : Statement) → has_waits k ≡ false → TypedStatement k g s
      → NoWait (statement_redex t s)
  statement_no_wait k g t (Assign x p e) w d = last_no_wait (expression_redex t e) (Set x) t (expression_no_wait k g g.held t e w d.1) (λ v. refl)
  statement_no_wait k g t (Write e) w d = last_no_wait (expression_redex t e) (λ v. Print (I.Value v)) t (expression_no_wait k g g.held t e w d.0) (λ v. refl)
  statement_no_wait k g t (WriteText s) w d = at_no_wait (Print (I.Text (record { 0 = s }))) t refl
  statement_no_wait k g t (Do e) w d = last_no_wait (expression_redex t e) Drop t (expression_no_wait k g g.held t e w d) (λ v. refl)
  statement_no_wait k g t (Async e m p es) w d =
      both_no_wait (expression_redex t e) _ (expression_no_wait k g g.held t e w d.0)
      (λ v. last_no_wait (expressions_redex t es) (λ vs. Post v m vs) t (arguments_no_wait (past (is_value e) k) g (g.held + 1) (params_of (sent_method g (sort_of g e) m)) t es (past_no_waits (is_value e) k w) d.2) (λ a. refl))
  statement_no_wait k g t (If e these those) w d = last_no_wait (expression_redex t e) (λ v. Branch v these those) t (expression_no_wait k g g.held t e w d.0) (λ v. refl)
  statement_no_wait k g t (While e ss) w d = at_no_wait (Loop e ss) t refl
  statement_no_wait k g t (Answer names) w d = at_no_wait (Accept names) t refl
  statement_no_wait k g t (Select alts) w d = last_no_wait (guards_redex t alts) Choose t (alternatives_no_wait k g g.held t alts w d) (λ v. refl)
  statement_no_wait k g t (Serve m c u ss e qs) w d =
      both_no_wait (statements_redex u ss) _ (statements_no_wait k (inside g m) u ss w d.2)
      (λ done. both_no_wait (expression_redex u e) _ (expression_no_wait (past (is_done ss) k) (inside g m) 0 u e (past_no_waits (is_done ss) k w) d.3)
      (λ v. last_no_wait (in_post c (statements_redex u qs)) (λ over. Finish c v (left_served c m u ss e qs)) u
      (post_no_wait c (statements_redex u qs) (statements_no_wait (past (is_done ss) (past (is_value e) (past (is_none c) k))) (behind_value (inside g m)) u qs
      (past_no_waits (is_done ss) (past (is_value e) (past (is_none c) k)) (past_no_waits (is_value e) (past (is_none c) k) (past_no_waits (is_none c) k w))) d.6)) (λ over. refl)))

  pub statements_no_wait : (k : Holds) (g : Scope) (t : Store) (ss : Statements) → has_waits k ≡ false → TypedStatements k g ss
      → NoWait (statements_redex t ss)
  statements_no_wait k g t Done w d = value_no_wait tt
  statements_no_wait k g t (Then s ss) w d = statement_no_wait k g t s w d.0

  alternatives_no_wait : (k : Holds) (g : Scope) (i : ℕ) (t : Store) (alts : Alternatives) → has_waits k ≡ false
      → TypedAlternatives k g i alts → NoWait (guards_redex t alts)
  alternatives_no_wait k g i t NoAlts w d = value_no_wait []
  alternatives_no_wait k g i t (Alt e names ss alts) w d =
      both_no_wait (expression_redex t e) _ (expression_no_wait k g i t e w d.0)
      (λ v. both_no_wait (guards_redex t alts) _ (alternatives_no_wait (past (is_value e) k) g (i + 1) t alts (past_no_waits (is_value e) k w) d.4) (λ cs. value_no_wait (record { guard = v; answer = names; work = ss } ∷ cs)))
