-- A local transition replaces the redex by a part of the same form, an expression or statements.
use Rattle.std.proofs.Common.{◌≡◌, ◌≢◌, refl, sym, ap, ◌∙◌, ℕ, List, [], length, Option, Some, None, is_some, Bool, true, false, if◌then◌else◌, arith}
use Rattle.std.specs.List.{list_any}
use Rattle.run_types.specs.declared.types.Value.{Value}
use Rattle.run_types.specs.declared.types.Value.TheVariants as V
use Rattle.run_types.specs.declared.types.Error.TheVariants.{NilOperand, NoOpenGuard}
use Rattle.run_types.specs.Values.{Outcome, Gives, Fails, WrongSort, prefix_value, infix_value, is_nil, not_bool, is_true}
use Rattle.pool_syntax.specs.Classes.{class_of}
use Rattle.pool_syntax.specs.Terms as T
use Rattle.pool_syntax.specs.Terms.{Store, Expression, Statement, Statements, Done, Then, MethodTree, ProgramTree, append}
use Rattle.pool_relation.specs.Reducible.{Choice, Reducible, At, OwnName, Read, Make, Unary, Binary, Invoke, SynchronousSend, Leave, Waiting, Set, Print, Drop, Post, Branch, Loop, Accept, Choose, Finish, AsExpression, AsStatements, set_value, fill_statements}
use Rattle.pool_relation.specs.Reducible.{statements_redex}
use Rattle.pool_relation.specs.Action as A
use Rattle.pool_relation.specs.Action.{Object, Action, Local, action, found_action, redex_action, on_outcome, on_call, on_object, on_branch, on_select, on_finish, on_assignment, literal, value_of, method_of}
use Rattle.pool_relation.proofs.Laws.{is_statement}
use Rattle.adequacy.specs.Contexts.{ExpressionContext, StatementsContext, around_expression, around_statements, temps_at_expression, temps_at_statements, after, expression_as_redex, statement_as_redex, own_temps, own_temps_of}
use Rattle.adequacy.proofs.RedexInHole.{redex_of_expression, redex_of_statement}
use Rattle.adequacy.proofs.HoleReplacement.{expression_replaced, statement_replaced}
use Rattle.adequacy.proofs.UniqueDecomposition.{of_expression, of_statement}

-- an action that, where it is local, puts an expression, or statements, in the redex's place
abbrev PutsExpression : Object → Action → Type 0
PutsExpression x a = (term : Statements) (vars : Store) → a ≡ Local term vars → (d : Expression) × (term ≡ fill_statements x.term (AsExpression d)) × (vars ≡ x.vars)

abbrev IsNoAssignment : Reducible → Type 0
IsNoAssignment r = (n : ℕ) (v : Value) → r ≢ Set n v

abbrev PutsStatements : Object → Reducible → Action → Type 0
PutsStatements x r a =
    (term : Statements) (vars : Store) → a ≡ Local term vars
    → (ss : Statements) × (term ≡ fill_statements x.term (AsStatements ss)) × (IsNoAssignment r → vars ≡ x.vars)

abbrev is_local : Action → Bool
is_local (Local term vars) = true
is_local _ = false

module _ (x : Object) where
  expression : (d : Expression) → PutsExpression x (A.becomes x (AsExpression d))
  expression d term vars h = (d, sym cc, sym cc)

  statements : (r : Reducible) (ss : Statements) → PutsStatements x r (A.becomes x (AsStatements ss))
  statements r ss term us h = (ss, sym cc, λ n. sym cc)

  no_expression : (a : Action) → is_local a ≡ false → PutsExpression x a
  no_expression a n term vars h = absurd (grind (arith, n, ap is_local h))

  no_statements : (r : Reducible) (a : Action) → is_local a ≡ false → PutsStatements x r a
  no_statements r a n term vars h = absurd (grind (arith, n, ap is_local h))

  of_name : (temp own : Option Value) → PutsExpression x (A.read x temp own)
  of_name (Some v) own = expression (literal v)
  of_name None (Some v) = expression (literal v)
  of_name None None = no_expression A.Stuck refl

  of_new : (c : ℕ) (b : Bool) → PutsExpression x (if b then A.New c else A.Stuck)
  of_new c true = no_expression (A.New c) refl
  of_new c false = no_expression A.Stuck refl

  of_operator : (o : Outcome) → PutsExpression x (on_outcome x o)
  of_operator (Gives v) = expression (literal v)
  of_operator (Fails e) = no_expression (A.Fault e) refl
  of_operator WrongSort = no_expression A.Stuck refl

  of_call : (args : List Value) (m : Option MethodTree) → PutsExpression x (on_call x args m)
  of_call args None = no_expression A.Stuck refl
  of_call args (Some m) = expression (T.Frame m.name.name.0 (A.temps_of m args) m.body m.value m.post)

  to_object : (v : Value) (go : ℕ → Action) → ((b : ℕ) → is_local (go b) ≡ false) → is_local (on_object v go) ≡ false
  to_object (V.Ref b) go n = n b
  to_object _ go n = refl

  of_assignment : (m : ℕ) (v : Value) (b c : Bool)
      → PutsStatements x (Set m v) (if b then A.becomes x (AsStatements Done)
      else (if c then Local (fill_statements x.term (AsStatements Done)) (set_value x.vars m v) else A.Stuck))
  of_assignment m v true c = statements (Set m v) Done
  of_assignment m v false true = λ term us h. (Done, sym cc, λ n. absurd (n m v refl))
  of_assignment m v false false = no_statements (Set m v) A.Stuck refl

  of_branch : (r : Reducible) (v : Value) (these those : Statements) → PutsStatements x r (on_branch x v these those)
  of_branch r (V.Bool true) these those = statements r these
  of_branch r (V.Bool false) these those = statements r those
  of_branch r V.Nil these those = no_statements r (A.Fault NilOperand) refl
  of_branch r (V.Int i) these those = no_statements r A.Stuck refl
  of_branch r (V.Ref b) these those = no_statements r A.Stuck refl

  of_select : (a b c : Bool) (cs : List Choice)
      → is_local (if a then A.Fault NilOperand else (if b then A.Stuck else (if c then A.Select cs else A.Fault NoOpenGuard))) ≡ false
  of_select true b c cs = refl
  of_select false true c cs = refl
  of_select false false true cs = refl
  of_select false false false cs = refl

  of_finish : (r : Reducible) (c : Option ℕ) (v : Value) (work : Statements) → PutsStatements x r (on_finish x c v work)
  of_finish r None v work = statements r work
  of_finish r (Some b) v work = no_statements r (A.Return b v) refl

  module _ (p : ProgramTree) (o : ℕ) (t : Store) where
    puts_expression : (r : Reducible) → is_statement r ≡ false → PutsExpression x (redex_action p o x t r)
    puts_expression OwnName n = expression (literal (V.Ref o))
    puts_expression (Read m) n = of_name (value_of t m) (value_of x.vars m)
    puts_expression (Make c) n = of_new c (is_some (class_of p c))
    puts_expression (Unary op v) n = of_operator (prefix_value op v)
    puts_expression (Binary op v w) n = of_operator (infix_value op v w)
    puts_expression (Invoke m args) n = of_call args (method_of p x.class m (length args))
    puts_expression (SynchronousSend v m args) n = no_expression (on_object v (λ b. A.Send b m args)) (to_object v (λ b. A.Send b m args) (λ b. refl))
    puts_expression (Leave v) n = expression (literal v)
    puts_expression (Waiting b m) n = no_expression (A.Waits b m) refl
    puts_expression _ n = absurd (grind (arith, n))

    puts_statements : (r : Reducible) → is_statement r ≡ true → PutsStatements x r (redex_action p o x t r)
    puts_statements (Set m v) n = of_assignment m v (is_some (value_of t m)) (is_some (value_of x.vars m))
    puts_statements (Print item) n = no_statements (Print item) (A.Write item) refl
    puts_statements (Drop v) n = statements (Drop v) Done
    puts_statements (Post v m args) n = no_statements (Post v m args) (on_object v (λ b. A.Async b m args)) (to_object v (λ b. A.Async b m args) (λ b. refl))
    puts_statements (Branch v these those) n = of_branch (Branch v these those) v these those
    puts_statements (Loop e ss) n = statements (Loop e ss) (Then (T.If e (append ss (Then (T.While e ss) Done)) Done) Done)
    puts_statements (Accept names) n = no_statements (Accept names) (A.Answer names) refl
    puts_statements (Choose cs) n =
        no_statements (Choose cs) (on_select cs) (of_select (list_any (λ c. is_nil c.guard) cs) (list_any (λ c. not_bool c.guard) cs) (list_any (λ c. is_true c.guard) cs) cs)
    puts_statements (Finish c v work) n = of_finish (Finish c v work) c v work
    puts_statements _ n = absurd (grind (arith, n))

-- what the object does, and with the context
module _ (p : ProgramTree) (o : ℕ) (x : Object) (r : Reducible) (term : Statements) (vars : Store) where
  pub changes_expression : (k : ExpressionContext) (e : Expression) → x.term ≡ around_expression k e → expression_as_redex e ≡ Some r → action p o x ≡ Local term vars
      → (d : Expression) × (term ≡ around_expression k d) × (vars ≡ x.vars)
  changes_expression k e is h a =
      let t : Store = own_temps (temps_at_expression k) e in
      let found : statements_redex [] x.term ≡ At r t = ap (statements_redex []) is ∙ redex_of_expression k e r h in
      let g = puts_expression x p o t r (of_expression e r h) term vars (ap (found_action p o x) (sym found) ∙ a) in
      (g.0, g.1 ∙ ap (λ ss. fill_statements ss (AsExpression g.0)) is ∙ expression_replaced k e g.0 r h, g.2)

  pub changes_statement : (k : StatementsContext) (s : Statement) → x.term ≡ around_statements k (Then s Done) → statement_as_redex s ≡ Some r → action p o x ≡ Local term vars
      → (ss : Statements) × (term ≡ around_statements (after r k) ss) × (((n : ℕ) (v : Value) → r ≢ Set n v) → vars ≡ x.vars)
  changes_statement k s is h a =
      let t : Store = own_temps_of (temps_at_statements k) s in
      let found : statements_redex [] x.term ≡ At r t = ap (statements_redex []) is ∙ redex_of_statement k s r h in
      let g = puts_statements x p o t r (of_statement s r h) term vars (ap (found_action p o x) (sym found) ∙ a) in
      (g.0, g.1 ∙ ap (λ ss. fill_statements ss (AsStatements g.0)) is ∙ statement_replaced k s g.0 r h, g.2)
