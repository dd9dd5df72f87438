-- A typed term with a redex: facts at the redex, and typing of the term after a suitable part has replaced it.
use Rattle.std.proofs.Common.{◌≡◌, sym, IsTrue, ℕ, ◌+◌, List, [], ◌∷◌, is_none}
use Rattle.run_types.specs.declared.types.Item.TheVariants as I
use Rattle.pool_syntax.specs.declared.tree.Var.{Var}
use Rattle.pool_syntax.specs.Terms.{Store, Expression, Literal, Me, Variable, Create, Prefix, Infix, Call, Send, Frame, Wait, Expressions, NoArgs, Arg, Statement, Assign, Write, WriteText, Do, Async, If, While, Answer, Select, Serve, Statements, Done, Then, Alternatives, NoAlts, Alt}
use Rattle.run_types.specs.Sorts.{ClassSort}
use Rattle.pool_syntax.specs.Typing.{Scope, name_sort, object_sort, send_sort, sort_of, inside, behind_value, own_method, params_of, sent_method}
use Rattle.pool_relation.specs.Reducible.{Reducible, Found, At, OwnName, Read, Make, Waiting, Print, Loop, Accept, is_value, is_done, fill_statement}
use Rattle.pool_relation.specs.Typed.{is_store_of}
use Rattle.pool_relation.proofs.typing.TypedTerm.{Holds, Waits, has_methods, past, TypedExpression, TypedArguments, TypedStatement, TypedStatements, TypedAlternatives}
use Rattle.pool_relation.proofs.redex.RedexSearch.{at_is_no_value}
use Rattle.pool_relation.proofs.typing.Weakening.{past_below_all, below_twice, below_thrice, expression_weaker, statements_weaker, arguments_weaker, alternatives_weaker, append_typed}
use Rattle.pool_relation.proofs.typing.DeclaredStores.{Known}
use Rattle.pool_relation.proofs.redex.TypedRedex.{wider, AtExpression, AtArguments, AtStatement, AtStatements, AtAlternatives}
use Rattle.pool_relation.proofs.redex.RedexOfExpression.{here, placed, placed_statements, prefix_replacement, infix_replacement, call_replacement, send_replacement, arguments_replacement, alternatives_replacement}
use Rattle.pool_relation.proofs.redex.RedexOfStatement.{frame_replacement, serve_replacement, assign_replacement, write_replacement, do_replacement, if_replacement, select_replacement, async_replacement}

same_redex : {A : Type 0} {a r : Reducible} {t u : Store} → ◌≡◌ {A = Found A} (At a t) (At r u) → a ≡ r
same_redex q = cc

same_temps : {A : Type 0} {a r : Reducible} {t u : Store} → ◌≡◌ {A = Found A} (At a t) (At r u) → t ≡ u
same_temps q = cc

mutual
  pub expression_at : (j : Holds) → IsTrue (has_methods j) → (g : Scope) (h : ℕ) (t : Store) (e : Expression)
      → Known g.program g.own → IsTrue g.under_way → IsTrue (is_store_of g g.temps t)
      → TypedExpression Waits g h e → AtExpression j g h t e
  expression_at j ms g h t (Literal v p) known way s d r u q = absurd (at_is_no_value r u v (sym q))
  expression_at j ms g h t (Me p) known way s d r u q =
      here OwnName t r u (same_redex q) (same_temps q) s tt (λ x a. placed j g h (ClassSort g.class) x (Me p) d a)
  expression_at j ms g h t (Variable n p) known way s d r u q =
      here (Read n) t r u (same_redex q) (same_temps q) s d.1 (λ x a. placed j g h (name_sort g n) x (Variable n p) d.0 a)
  expression_at j ms g h t (Create c p) known way s d r u q =
      here (Make c) t r u (same_redex q) (same_temps q) s d.1 (λ x a. rw d.1 (placed j g h (ClassSort c) x (Create c p) d.0 a))
  expression_at j ms g h t (Prefix op e p) known way s d r u q = prefix_replacement j g h t op e p s d (expression_at j ms g h t e known way s d.2) r u q
  expression_at j ms g h t (Infix op l m p) known way s d r u q =
      infix_replacement j g h t op l m p s d (expression_at j ms g h t l known way s d.2)
      (expression_at j ms g (h + 1) t m known way s (expression_weaker (past (is_value l) Waits) Waits g (h + 1) m (past_below_all (is_value l) Waits) d.3)) r u q
  expression_at j ms g h t (Call m es p) known way s d r u q =
      call_replacement j g h t m es p s d (arguments_at j ms g h (params_of (own_method g m)) t es known way s d.2) r u q
  expression_at j ms g h t (Send e m es p) known way s d r u q =
      let ps : List Var = params_of (sent_method g (sort_of g e) m) in
      send_replacement j g h t e m es p way s d (expression_at j ms g h t e known way s d.1)
      (arguments_at j ms g (h + 1) ps t es known way s (arguments_weaker (past (is_value e) Waits) Waits g (h + 1) ps es (past_below_all (is_value e) Waits) d.3)) r u q
  expression_at j ms g h t (Frame m w ss e qs) known way s d r u q =
      frame_replacement j ms g h t m w ss e qs known d (statements_at j ms (inside g m) w ss known way d.2 d.3)
      (expression_at j ms (inside g m) 0 w e known way d.2 (expression_weaker (past (is_done ss) Waits) Waits (inside g m) 0 e (past_below_all (is_done ss) Waits) d.4))
      (statements_at j ms (behind_value (inside g m)) w qs known way d.2 (statements_weaker (past (is_done ss) (past (is_value e) Waits)) Waits (behind_value (inside g m)) qs
      (below_twice (is_done ss) (is_value e) Waits) d.7)) r u q
  expression_at j ms g h t (Wait b m) known way s d r u q =
      here (Waiting b m) t r u (same_redex q) (same_temps q) s d.2 (λ x a. placed j g h (send_sort g.program (object_sort (g.object_class b)) m) x (Wait b m) d.1 a)

  arguments_at : (j : Holds) → IsTrue (has_methods j) → (g : Scope) (h : ℕ) (vs : List Var) (t : Store) (es : Expressions)
      → Known g.program g.own → IsTrue g.under_way → IsTrue (is_store_of g g.temps t)
      → TypedArguments Waits g h vs es → AtArguments j g h vs t es
  arguments_at j ms g h vs t NoArgs known way s d r u q = absurd (at_is_no_value r u [] (sym q))
  arguments_at j ms g h [] t (Arg e es) known way s d r u q =
      arguments_replacement j g h [] t e es d (expression_at j ms g h t e known way s d.0)
      (arguments_at j ms g (h + 1) [] t es known way s (arguments_weaker (past (is_value e) Waits) Waits g (h + 1) [] es (past_below_all (is_value e) Waits) d.2)) r u q
  arguments_at j ms g h (y ∷ vs) t (Arg e es) known way s d r u q =
      arguments_replacement j g h (y ∷ vs) t e es d (expression_at j ms g h t e known way s d.0)
      (arguments_at j ms g (h + 1) vs t es known way s (arguments_weaker (past (is_value e) Waits) Waits g (h + 1) vs es (past_below_all (is_value e) Waits) d.2)) r u q

  statement_at : (j : Holds) → IsTrue (has_methods j) → (g : Scope) (t : Store) (s : Statement) → Known g.program g.own
      → IsTrue g.under_way → IsTrue (is_store_of g g.temps t)
      → TypedStatement Waits g s → AtStatement j g t s
  statement_at j ms g t (Assign y p e) known way s d r u q = assign_replacement j ms g t y p e s d (expression_at j ms g g.held t e known way s d.1) r u q
  statement_at j ms g t (Write e) known way s d r u q = write_replacement j ms g t e s d (expression_at j ms g g.held t e known way s d.0) r u q
  statement_at j ms g t (WriteText n) known way s d r u q =
      here (Print (I.Text (record { 0 = n }))) t r u (same_redex q) (same_temps q) s tt (λ x a. placed_statements j g x (WriteText n) a)
  statement_at j ms g t (Do e) known way s d r u q = do_replacement j ms g t e s d (expression_at j ms g g.held t e known way s d) r u q
  statement_at j ms g t (Async e m p es) known way s d r u q =
      let ps : List Var = params_of (sent_method g (sort_of g e) m) in
      async_replacement j ms g t e m p es way s d (expression_at j ms g g.held t e known way s d.0)
      (arguments_at j ms g (g.held + 1) ps t es known way s (arguments_weaker (past (is_value e) Waits) Waits g (g.held + 1) ps es (past_below_all (is_value e) Waits) d.2)) r u q
  statement_at j ms g t (If e these those) known way s d r u q = if_replacement j ms g t e these those s d (expression_at j ms g g.held t e known way s d.0) r u q
  statement_at j ms g t (While e ss) known way s d r u q =
      here (Loop e ss) t r u (same_redex q) (same_temps q) s d (λ x a. placed_statements j g x (While e ss) a)
  statement_at j ms g t (Answer names) known way s d r u q =
      here (Accept names) t r u (same_redex q) (same_temps q) s d (λ x a. placed_statements j g x (Answer names) a)
  statement_at j ms g t (Select alts) known way s d r u q = select_replacement j ms g t alts s d (alternatives_at j ms g g.held t alts known way s d) r u q
  statement_at j ms g t (Serve m c w ss e qs) known way s d r u q =
      serve_replacement j ms g t m c w ss e qs known d (statements_at j ms (inside g m) w ss known way d.1 d.2)
      (expression_at j ms (inside g m) 0 w e known way d.1 (expression_weaker (past (is_done ss) Waits) Waits (inside g m) 0 e (past_below_all (is_done ss) Waits) d.3))
      (statements_at j ms (behind_value (inside g m)) w qs known way d.1 (statements_weaker (past (is_done ss) (past (is_value e) (past (is_none c) Waits))) Waits (behind_value (inside g m)) qs
      (below_thrice (is_done ss) (is_value e) (is_none c) Waits) d.6)) r u q

  pub statements_at : (j : Holds) → IsTrue (has_methods j) → (g : Scope) (t : Store) (ss : Statements) → Known g.program g.own
      → IsTrue g.under_way → IsTrue (is_store_of g g.temps t)
      → TypedStatements Waits g ss → AtStatements j g t ss
  statements_at j ms g t Done known way s d r u q = absurd (at_is_no_value r u tt (sym q))
  statements_at j ms g t (Then f ss) known way s d r u q =
      wider (statement_at j ms g t f known way s d.0 r u q) (λ x n. append_typed j g (fill_statement f x) ss n d.1)

  alternatives_at : (j : Holds) → IsTrue (has_methods j) → (g : Scope) (i : ℕ) (t : Store) (alts : Alternatives)
      → Known g.program g.own → IsTrue g.under_way → IsTrue (is_store_of g g.temps t)
      → TypedAlternatives Waits g i alts → AtAlternatives j g i t alts
  alternatives_at j ms g i t NoAlts known way s d r u q = absurd (at_is_no_value r u [] (sym q))
  alternatives_at j ms g i t (Alt e names ss alts) known way s d r u q =
      alternatives_replacement j g i t e names ss alts d (expression_at j ms g i t e known way s d.0)
      (alternatives_at j ms g (i + 1) t alts known way s (alternatives_weaker (past (is_value e) Waits) Waits g (i + 1) alts (past_below_all (is_value e) Waits) d.4)) r u q
