-- Parts in which nothing is under way: parts that are typed so, and parts without a redex.
use Rattle.std.proofs.Common.{◌≡◌, refl, ap, ℕ, ◌+◌, List, [], ◌∷◌, arith}
use Rattle.run_types.specs.declared.types.Value.{Value}
use Rattle.pool_syntax.specs.declared.tree.Var.{Var}
use Rattle.pool_syntax.specs.Terms.{Store, Expression, Literal, Me, Variable, Create, Prefix, Infix, Call, Send, Frame, Wait, Expressions, NoArgs, Arg, Statement, Assign, Write, WriteText, Do, Async, If, While, Answer, Select, Serve, Statements, Done, Then, Alternatives, NoAlts, Alt}
use Rattle.pool_syntax.specs.Typing.{Scope, sort_of, own_method, params_of, sent_method}
use Rattle.pool_relation.specs.Reducible.{Choice, Evaluated, is_value, expression_redex, expressions_redex, guards_redex}
use Rattle.pool_relation.specs.UnderWay.{in_expression, in_expressions, in_statement, in_statements, in_guards}
use Rattle.pool_relation.proofs.typing.TypedTerm.{Nothing, past, TypedExpression, TypedArguments, TypedStatement, TypedStatements, TypedAlternatives}
use Rattle.pool_relation.proofs.redex.RedexSearch.{passed, literal_is}
use Rattle.pool_relation.proofs.typing.Weakening.{past_below_all, expression_weaker, arguments_weaker, alternatives_weaker}

-- nothing is under way in a part that is typed so
mutual
  pub expression_idle : (g : Scope) (h : ℕ) (e : Expression) → TypedExpression Nothing g h e → in_expression e ≡ []
  expression_idle g h (Literal v p) t = refl
  expression_idle g h (Me p) t = refl
  expression_idle g h (Variable x p) t = refl
  expression_idle g h (Create c p) t = refl
  expression_idle g h (Prefix op e p) t = expression_idle g h e t.2
  expression_idle g h (Infix op l r p) t =
      let a = expression_idle g h l t.2 in
      let b = expression_idle g (h + 1) r (expression_weaker (past (is_value l) Nothing) Nothing g (h + 1) r (past_below_all (is_value l) Nothing) t.3) in
      rw (a, b) refl
  expression_idle g h (Call m es p) t = arguments_idle g h (params_of (own_method g m)) es t.2
  expression_idle g h (Send e m es p) t =
      let ps = params_of (sent_method g (sort_of g e) m) in
      let a = expression_idle g h e t.1 in
      let b = arguments_idle g (h + 1) ps es (arguments_weaker (past (is_value e) Nothing) Nothing g (h + 1) ps es (past_below_all (is_value e) Nothing) t.3) in
      rw (a, b) refl
  expression_idle g h (Frame m u ss e qs) t = absurd (grind (arith, t.0))
  expression_idle g h (Wait b m) t = refl

  pub arguments_idle : (g : Scope) (h : ℕ) (vs : List Var) (es : Expressions) → TypedArguments Nothing g h vs es → in_expressions es ≡ []
  arguments_idle g h vs NoArgs t = refl
  arguments_idle g h [] (Arg e es) t =
      let a = expression_idle g h e t.0 in
      let b = arguments_idle g (h + 1) [] es (arguments_weaker (past (is_value e) Nothing) Nothing g (h + 1) [] es (past_below_all (is_value e) Nothing) t.2) in
      rw (a, b) refl
  arguments_idle g h (v ∷ vs) (Arg e es) t =
      let a = expression_idle g h e t.0 in
      let b = arguments_idle g (h + 1) vs es (arguments_weaker (past (is_value e) Nothing) Nothing g (h + 1) vs es (past_below_all (is_value e) Nothing) t.2) in
      rw (a, b) refl

  pub statement_idle : (g : Scope) (s : Statement) → TypedStatement Nothing g s → in_statement s ≡ []
  statement_idle g (Assign x p e) t = expression_idle g g.held e t.1
  statement_idle g (Write e) t = expression_idle g g.held e t.0
  statement_idle g (WriteText s) t = refl
  statement_idle g (Do e) t = expression_idle g g.held e t
  statement_idle g (Async e m p es) t =
      let ps = params_of (sent_method g (sort_of g e) m) in
      let a = expression_idle g g.held e t.0 in
      let b = arguments_idle g (g.held + 1) ps es (arguments_weaker (past (is_value e) Nothing) Nothing g (g.held + 1) ps es (past_below_all (is_value e) Nothing) t.2) in
      rw (a, b) refl
  statement_idle g (If e these those) t = expression_idle g g.held e t.0
  statement_idle g (While e ss) t = refl
  statement_idle g (Answer names) t = refl
  statement_idle g (Select alts) t = alternatives_idle g g.held alts t
  statement_idle g (Serve m o u ss e qs) t = absurd (grind (arith, t.0))

  pub statements_idle : (g : Scope) (ss : Statements) → TypedStatements Nothing g ss → in_statements ss ≡ []
  statements_idle g Done t = refl
  statements_idle g (Then s ss) t = let a = statement_idle g s t.0 in let b = statements_idle g ss t.1 in rw (a, b) refl

  pub alternatives_idle : (g : Scope) (i : ℕ) (alts : Alternatives) → TypedAlternatives Nothing g i alts → in_guards alts ≡ []
  alternatives_idle g i NoAlts t = refl
  alternatives_idle g i (Alt e names ss alts) t =
      let a = expression_idle g i e t.0 in
      let b = alternatives_idle g (i + 1) alts (alternatives_weaker (past (is_value e) Nothing) Nothing g (i + 1) alts (past_below_all (is_value e) Nothing) t.4) in
      rw (a, b) refl

pub value_idle : (t : Store) (e : Expression) (v : Value) → expression_redex t e ≡ Evaluated v → in_expression e ≡ []
value_idle t e v q = ap in_expression (literal_is t e v q).1

pub values_idle : (t : Store) (es : Expressions) (vs : List Value) → expressions_redex t es ≡ Evaluated vs → in_expressions es ≡ []
values_idle t NoArgs vs q = refl
values_idle t (Arg e es) vs q =
    let a = passed (expression_redex t e) _ vs q in
    let b = passed (expressions_redex t es) _ vs a.2 in
    rw (value_idle t e a.0 a.1, values_idle t es b.0 b.1) refl

pub guards_idle : (t : Store) (alts : Alternatives) (cs : List Choice) → guards_redex t alts ≡ Evaluated cs → in_guards alts ≡ []
guards_idle t NoAlts cs q = refl
guards_idle t (Alt e names ss alts) cs q =
    let a = passed (expression_redex t e) _ cs q in
    let b = passed (guards_redex t alts) _ cs a.2 in
    rw (value_idle t e a.0 a.1, guards_idle t alts b.0 b.1) refl
