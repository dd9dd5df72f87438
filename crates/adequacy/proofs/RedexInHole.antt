-- The redex in the hole of a context is the redex that is found.
use Rattle.std.proofs.Common.{◌≡◌, refl, sym, ℕ, List, [], ◌∷◌, Option, Some, None}
use Rattle.pool_syntax.specs.Terms.{Store, Expression, Expressions, Arg, Statement, Statements, Done, Then, Alternatives, Alt, Frame, Serve, append}
use Rattle.pool_syntax.specs.declared.tree.Named.{Named}
use Rattle.pool_relation.specs.Reducible.{Choice, Reducible, At, expression_redex, expressions_redex, statement_redex, statements_redex, guards_redex}
use Rattle.pool_relation.proofs.Laws.{at_is_no_value}
use Rattle.adequacy.specs.Contexts.{Operand, operand, arguments, guards, Place, InPrefix, InLeft, InRight, InCall, InReceiver, InSend, placed, Slot, InAssign, InWrite, InDo, InAsyncReceiver, InAsync, InIf, InSelect, slotted, ExpressionContext, InExpression, InStatement, OwnValue, ServedValue, StatementsContext, Whole, Before, OwnBody, ServedBody, OwnPost, ServedPost, around_expression, around_statements, temps_at_expression, temps_at_statements, expression_as_redex, statement_as_redex, own_temps, own_temps_of}
use Rattle.adequacy.proofs.ContextParts as P

module _ (r : Reducible) (u : Store) where
  argument_found : (t : Store) (vs : List Operand) (e : Expression) (es : Expressions) → expression_redex t e ≡ At r u
      → expressions_redex t (arguments vs (Arg e es)) ≡ At r u
  argument_found t [] e es h = rw h refl
  argument_found t (v ∷ vs) e es h = rw (argument_found t vs e es h) refl

  guard_found : (t : Store) (cs : List (Choice × ℕ)) (e : Expression) (names : Option (List Named)) (ss : Statements) (alts : Alternatives) → expression_redex t e ≡ At r u
      → guards_redex t (guards cs (Alt e names ss alts)) ≡ At r u
  guard_found t [] e names ss alts h = rw h refl
  guard_found t (c ∷ cs) e names ss alts h = rw (guard_found t cs e names ss alts h) refl

  placed_found : (place : Place) (t : Store) (e : Expression) → expression_redex t e ≡ At r u → expression_redex t (placed place e) ≡ At r u
  placed_found (InPrefix op p) t e h = rw h refl
  placed_found (InLeft op n p) t e h = rw h refl
  placed_found (InRight op v p) t e h = rw h refl
  placed_found (InCall m vs es p) t e h = rw (argument_found t vs e es h) refl
  placed_found (InReceiver m es p) t e h = rw h refl
  placed_found (InSend v m vs es p) t e h = rw (argument_found t vs e es h) refl

  slotted_found : (slot : Slot) (t : Store) (e : Expression) → expression_redex t e ≡ At r u → statement_redex t (slotted slot e) ≡ At r u
  slotted_found (InAssign x p) t e h = rw h refl
  slotted_found InWrite t e h = rw h refl
  slotted_found InDo t e h = rw h refl
  slotted_found (InAsyncReceiver m p es) t e h = rw h refl
  slotted_found (InAsync v m p vs es) t e h = rw (argument_found t vs e es h) refl
  slotted_found (InIf these those) t e h = rw h refl
  slotted_found (InSelect cs names ss alts) t e h = rw (guard_found t cs e names ss alts h) refl

  first_found : (t : Store) (ss rest : Statements) → statements_redex t ss ≡ At r u → statements_redex t (append ss rest) ≡ At r u
  first_found t Done rest h = absurd (at_is_no_value r u tt (sym h))
  first_found t (Then s ss) rest h = h

  mutual
    pub at_expression : (k : ExpressionContext) (e : Expression) → expression_redex (temps_at_expression k) e ≡ At r u
        → statements_redex [] (around_expression k e) ≡ At r u
    at_expression (InExpression place k) e h = at_expression k (placed place e) (placed_found place (temps_at_expression k) e h)
    at_expression (InStatement slot k) e h = at_statements k (Then (slotted slot e) Done) (slotted_found slot (temps_at_statements k) e h)
    at_expression (OwnValue m t qs k) e h = at_expression k (Frame m t Done e qs) (rw h refl)
    at_expression (ServedValue m c t qs k) e h = at_statements k (Then (Serve m c t Done e qs) Done) (rw h refl)

    pub at_statements : (k : StatementsContext) (ss : Statements) → statements_redex (temps_at_statements k) ss ≡ At r u
        → statements_redex [] (around_statements k ss) ≡ At r u
    at_statements Whole ss h = h
    at_statements (Before rest k) ss h = at_statements k (append ss rest) (first_found (temps_at_statements k) ss rest h)
    at_statements (OwnBody m t e qs k) ss h = at_expression k (Frame m t ss e qs) (rw h refl)
    at_statements (ServedBody m c t e qs k) ss h = at_statements k (Then (Serve m c t ss e qs) Done) (rw h refl)
    at_statements (OwnPost m t v k) qs h = at_expression k (Frame m t Done (operand v) qs) (rw h refl)
    at_statements (ServedPost m t v k) qs h = at_statements k (Then (Serve m None t Done (operand v) qs) Done) (rw h refl)

-- the two together
pub redex_of_expression : (k : ExpressionContext) (e : Expression) (r : Reducible) → expression_as_redex e ≡ Some r
    → statements_redex [] (around_expression k e) ≡ At r (own_temps (temps_at_expression k) e)
redex_of_expression k e r h = at_expression r (own_temps (temps_at_expression k) e) k e (P.expression_found (temps_at_expression k) e r h)

pub redex_of_statement : (k : StatementsContext) (s : Statement) (r : Reducible) → statement_as_redex s ≡ Some r
    → statements_redex [] (around_statements k (Then s Done)) ≡ At r (own_temps_of (temps_at_statements k) s)
redex_of_statement k s r h = at_statements r (own_temps_of (temps_at_statements k) s) k (Then s Done) (P.statement_found (temps_at_statements k) s r h)
