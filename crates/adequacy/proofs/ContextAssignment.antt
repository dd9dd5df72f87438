-- The effect of an assignment, and the value of a name, in their context.
use Rattle.std.proofs.Common.{◌≡◌, refl, ap, ◌∙◌, ℕ, [], Some, None, is_some, true, false}
use Rattle.run_types.specs.declared.types.Value.{Value}
use Rattle.pool_syntax.specs.Terms.{Literal, Variable, Assign, Done, Then, ProgramTree}
use Rattle.pool_relation.specs.Reducible.{Set, Read, AsExpression, AsStatements, set_value, fill_statements, statements_redex}
use Rattle.pool_relation.specs.Action as A
use Rattle.pool_relation.specs.Action.{Object, Action, action, found_action, on_assignment, literal, value_of}
use Rattle.adequacy.specs.Contexts.{ExpressionContext, StatementsContext, around_expression, around_statements, temps_at_expression, temps_at_statements, after}
use Rattle.adequacy.proofs.ContextTemps.{same_after, not_set}
use Rattle.adequacy.proofs.RedexInHole.{redex_of_expression, redex_of_statement}
use Rattle.adequacy.proofs.HoleReplacement.{expression_replaced, statement_replaced}

module _ (p : ProgramTree) (o : ℕ) (x : Object) (k : StatementsContext) (n at place : ℕ) (v : Value) (is : x.term ≡ around_statements k (Then (Assign n at (Literal v place)) Done)) where
  assigns : action p o x ≡ on_assignment x (temps_at_statements k) n v
  assigns = ap (λ ss. found_action p o x (statements_redex [] ss)) is
      ∙ ap (found_action p o x) (redex_of_statement k (Assign n at (Literal v place)) (Set n v) refl)

  filled : fill_statements x.term (AsStatements Done) ≡ around_statements (after (Set n v) k) Done
  filled = ap (λ ss. fill_statements ss (AsStatements Done)) is ∙ statement_replaced k (Assign n at (Literal v place)) Done (Set n v) refl

  pub sets_temp : is_some (value_of (temps_at_statements k) n) ≡ true → action p o x ≡ A.Local (around_statements (after (Set n v) k) Done) x.vars
  sets_temp h = assigns ∙ (rw h (ap (λ ss. A.Local ss x.vars) filled))

  pub sets_variable : is_some (value_of (temps_at_statements k) n) ≡ false → is_some (value_of x.vars n) ≡ true
      → action p o x ≡ A.Local (around_statements k Done) (set_value x.vars n v)
  sets_variable h i =
      let same : after (Set n v) k ≡ k = same_after (Set n v) k (not_set (temps_at_statements k) n v h) in
      assigns ∙ (rw (h, i) (ap (λ ss. A.Local ss (set_value x.vars n v)) (filled ∙ ap (λ j. around_statements j Done) same)))

  pub is_stuck : is_some (value_of (temps_at_statements k) n) ≡ false → is_some (value_of x.vars n) ≡ false → action p o x ≡ A.Stuck
  is_stuck h i = assigns ∙ (rw (h, i) refl)

-- a name is read where an assignment sets it
module _ (p : ProgramTree) (o : ℕ) (x : Object) (k : ExpressionContext) (n at : ℕ) (v : Value) (is : x.term ≡ around_expression k (Variable n at)) where
  reads : action p o x ≡ A.read x (value_of (temps_at_expression k) n) (value_of x.vars n)
  reads = ap (λ ss. found_action p o x (statements_redex [] ss)) is ∙ ap (found_action p o x) (redex_of_expression k (Variable n at) (Read n) refl)

  read_in : fill_statements x.term (AsExpression (literal v)) ≡ around_expression k (literal v)
  read_in = ap (λ ss. fill_statements ss (AsExpression (literal v))) is ∙ expression_replaced k (Variable n at) (literal v) (Read n) refl

  pub reads_temp : value_of (temps_at_expression k) n ≡ Some v → action p o x ≡ A.Local (around_expression k (literal v)) x.vars
  reads_temp h = reads ∙ (rw h (ap (λ ss. A.Local ss x.vars) read_in))

  pub reads_variable : value_of (temps_at_expression k) n ≡ None → value_of x.vars n ≡ Some v → action p o x ≡ A.Local (around_expression k (literal v)) x.vars
  reads_variable h i = reads ∙ (rw (h, i) (ap (λ ss. A.Local ss x.vars) read_in))
