-- The list of methods under way in a term ends with the method that its redex ends.
use Rattle.std.proofs.Common.{◌≡◌, refl, sym, ◌∙◌, ℕ, ◌+◌, List, [], ◌∷◌, is_none, append-nil}
use Rattle.run_types.specs.declared.types.Item.TheVariants as I
use Rattle.pool_syntax.specs.declared.tree.Var.{Var}
use Rattle.pool_syntax.specs.Terms.{Store, Expression, Literal, Me, Variable, Create, Prefix, Infix, Call, Send, Frame, Wait, Expressions, NoArgs, Arg, Statement, Assign, Write, WriteText, Do, Async, If, While, Answer, Select, Serve, Statements, Done, Then, Alternatives, NoAlts, Alt}
use Rattle.pool_syntax.specs.Typing.{Scope, sort_of, inside, behind_value, own_method, params_of, sent_method}
use Rattle.pool_relation.specs.Reducible.{Reducible, Found, At, OwnName, Read, Make, Waiting, Print, Loop, Accept, is_value, is_done, fill_statement}
use Rattle.pool_relation.specs.UnderWay.{in_statement, in_statements}
use Rattle.pool_relation.proofs.typing.TypedTerm.{Waits, past, TypedExpression, TypedArguments, TypedStatement, TypedStatements, TypedAlternatives}
use Rattle.pool_relation.proofs.redex.RedexSearch.{at_is_no_value}
use Rattle.pool_relation.proofs.typing.Weakening.{past_below_all, below_twice, below_thrice, expression_weaker, statements_weaker, arguments_weaker, alternatives_weaker}
use Rattle.pool_relation.proofs.redex.Idle.{statements_idle}
use Rattle.pool_relation.proofs.redex.Activities.{same, at_once, placed_expression, placed_statement, append_activities, ExpressionActivities, ArgumentsActivities, StatementActivities, StatementsActivities, AlternativesActivities}
use Rattle.pool_relation.proofs.redex.PartActivities.{prefix_activities, infix_activities, call_activities, send_activities, frame_activities, argument_activities, guard_activities, assign_activities, write_activities, do_activities, if_activities, select_activities, async_activities, serve_activities}

redex_is : {A : Type 0} {a r : Reducible} {t u : Store} → ◌≡◌ {A = Found A} (At a t) (At r u) → a ≡ r
redex_is q = cc

mutual
  expression_activities : (g : Scope) (h : ℕ) (t : Store) (e : Expression) → TypedExpression Waits g h e → ExpressionActivities g t e
  expression_activities g h t (Literal v p) d r u q = absurd (at_is_no_value r u v (sym q))
  expression_activities g h t (Me p) d r u q = at_once OwnName r (redex_is q) refl (λ x a. placed_expression OwnName x (Me p) refl a)
  expression_activities g h t (Variable n p) d r u q = at_once (Read n) r (redex_is q) refl (λ x a. placed_expression (Read n) x (Variable n p) refl a)
  expression_activities g h t (Create c p) d r u q = at_once (Make c) r (redex_is q) refl (λ x a. placed_expression (Make c) x (Create c p) refl a)
  expression_activities g h t (Prefix op e p) d r u q = prefix_activities g t op e p (expression_activities g h t e d.2) r u q
  expression_activities g h t (Infix op l n p) d r u q =
      infix_activities g h t op l n p d (expression_activities g h t l d.2)
      (expression_activities g (h + 1) t n (expression_weaker (past (is_value l) Waits) Waits g (h + 1) n (past_below_all (is_value l) Waits) d.3)) r u q
  expression_activities g h t (Call m es p) d r u q = call_activities g t m es p (arguments_activities g h (params_of (own_method g m)) t es d.2) r u q
  expression_activities g h t (Send e m es p) d r u q =
      let ps = params_of (sent_method g (sort_of g e) m) in
      send_activities g h t e m es p d (expression_activities g h t e d.1)
      (arguments_activities g (h + 1) ps t es (arguments_weaker (past (is_value e) Waits) Waits g (h + 1) ps es (past_below_all (is_value e) Waits) d.3)) r u q
  expression_activities g h t (Frame m w ss e qs) d r u q =
      frame_activities g h t m w ss e qs d (statements_activities (inside g m) w ss d.3)
      (expression_activities (inside g m) 0 w e (expression_weaker (past (is_done ss) Waits) Waits (inside g m) 0 e (past_below_all (is_done ss) Waits) d.4))
      (statements_activities (behind_value (inside g m)) w qs (statements_weaker (past (is_done ss) (past (is_value e) Waits)) Waits (behind_value (inside g m)) qs
      (below_twice (is_done ss) (is_value e) Waits) d.7)) r u q
  expression_activities g h t (Wait b m) d r u q = at_once (Waiting b m) r (redex_is q) refl (λ x a. placed_expression (Waiting b m) x (Wait b m) refl a)

  arguments_activities : (g : Scope) (h : ℕ) (vs : List Var) (t : Store) (es : Expressions) → TypedArguments Waits g h vs es
      → ArgumentsActivities g t es
  arguments_activities g h vs t NoArgs d r u q = absurd (at_is_no_value r u [] (sym q))
  arguments_activities g h [] t (Arg e es) d r u q =
      argument_activities g h [] t e es d (expression_activities g h t e d.0)
      (arguments_activities g (h + 1) [] t es (arguments_weaker (past (is_value e) Waits) Waits g (h + 1) [] es (past_below_all (is_value e) Waits) d.2)) r u q
  arguments_activities g h (y ∷ vs) t (Arg e es) d r u q =
      argument_activities g h (y ∷ vs) t e es d (expression_activities g h t e d.0)
      (arguments_activities g (h + 1) vs t es (arguments_weaker (past (is_value e) Waits) Waits g (h + 1) vs es (past_below_all (is_value e) Waits) d.2)) r u q

  statement_activities : (g : Scope) (t : Store) (s : Statement) → TypedStatement Waits g s → StatementActivities g t s
  statement_activities g t (Assign n p e) d r u q = assign_activities g t n p e (expression_activities g g.held t e d.1) r u q
  statement_activities g t (Write e) d r u q = write_activities g t e (expression_activities g g.held t e d.0) r u q
  statement_activities g t (WriteText n) d r u q =
      at_once (Print (I.Text (record { 0 = n }))) r (redex_is q) refl (λ x a. placed_statement (Print (I.Text (record { 0 = n }))) x (WriteText n) refl a)
  statement_activities g t (Do e) d r u q = do_activities g t e (expression_activities g g.held t e d) r u q
  statement_activities g t (Async e m p es) d r u q =
      let ps = params_of (sent_method g (sort_of g e) m) in
      async_activities g t e m p es d (expression_activities g g.held t e d.0)
      (arguments_activities g (g.held + 1) ps t es (arguments_weaker (past (is_value e) Waits) Waits g (g.held + 1) ps es (past_below_all (is_value e) Waits) d.2)) r u q
  statement_activities g t (If e these those) d r u q = if_activities g t e these those (expression_activities g g.held t e d.0) r u q
  statement_activities g t (While e ss) d r u q = at_once (Loop e ss) r (redex_is q) refl (λ x a. placed_statement (Loop e ss) x (While e ss) refl a)
  statement_activities g t (Answer names) d r u q = at_once (Accept names) r (redex_is q) refl (λ x a. placed_statement (Accept names) x (Answer names) refl a)
  statement_activities g t (Select alts) d r u q = select_activities g t alts (alternatives_activities g g.held t alts d) r u q
  statement_activities g t (Serve m c w ss e qs) d r u q =
      serve_activities g t m c w ss e qs d (statements_activities (inside g m) w ss d.2)
      (expression_activities (inside g m) 0 w e (expression_weaker (past (is_done ss) Waits) Waits (inside g m) 0 e (past_below_all (is_done ss) Waits) d.3))
      (statements_activities (behind_value (inside g m)) w qs (statements_weaker (past (is_done ss) (past (is_value e) (past (is_none c) Waits))) Waits (behind_value (inside g m)) qs
      (below_thrice (is_done ss) (is_value e) (is_none c) Waits) d.6)) r u q

  pub statements_activities : (g : Scope) (t : Store) (ss : Statements) → TypedStatements Waits g ss → StatementsActivities g t ss
  statements_activities g t Done d r u q = absurd (at_is_no_value r u tt (sym q))
  statements_activities g t (Then s ss) d r u q =
      let i : in_statements ss ≡ [] = statements_idle g ss d.1 in
      same (statement_activities g t s d.0 r u q) (rw i (append-nil (in_statement s)))
      (λ x. append_activities (fill_statement s x) ss ∙ (rw i (append-nil (in_statements (fill_statement s x)))))

  alternatives_activities : (g : Scope) (i : ℕ) (t : Store) (alts : Alternatives) → TypedAlternatives Waits g i alts → AlternativesActivities g t alts
  alternatives_activities g i t NoAlts d r u q = absurd (at_is_no_value r u [] (sym q))
  alternatives_activities g i t (Alt e names ss alts) d r u q =
      guard_activities g i t e names ss alts d (expression_activities g i t e d.0)
      (alternatives_activities g (i + 1) t alts (alternatives_weaker (past (is_value e) Waits) Waits g (i + 1) alts (past_below_all (is_value e) Waits) d.4)) r u q
