-- Another part in the hole of a context.
use Rattle.std.proofs.Common.{◌≡◌, refl, sym, ap, ◌∙◌, ℕ, List, [], ◌∷◌, Option, Some, None, false, arith}
use Rattle.pool_syntax.specs.declared.tree.Named.{Named}
use Rattle.pool_syntax.specs.Terms.{Store, Expression, Literal, Call, Send, Frame, Expressions, Arg, Statement, Assign, Async, Select, Serve, Statements, Done, Then, Alternatives, Alt, append}
use Rattle.pool_relation.specs.Reducible.{Choice, Reducible, Contractum, AsExpression, AsStatements, is_value, are_values, guards_are_values, assigned, fill_expression, fill_expressions, fill_statement, fill_statements}
use Rattle.pool_relation.specs.Reducible.{fill_guards}
use Rattle.adequacy.specs.Contexts.{Operand, operand, arguments, guards, Place, InPrefix, InLeft, InRight, InCall, InReceiver, InSend, placed, Slot, InAssign, InWrite, InDo, InAsyncReceiver, InAsync, InIf, InSelect, slotted, ExpressionContext, InExpression, InStatement, OwnValue, ServedValue, StatementsContext, Whole, Before, OwnBody, ServedBody, OwnPost, ServedPost, around_expression, around_statements, temps_after, after, expression_as_redex, statement_as_redex}
use Rattle.adequacy.proofs.ContextParts.{expression_filled, statement_filled, redex_is_no_value, assigned_by}

append_done : (ss : Statements) → append ss Done ≡ ss
append_done Done = refl
append_done (Then s ss) = ap (Then s) (append_done ss)

append_again : (ss these rest : Statements) → append (append ss these) rest ≡ append ss (append these rest)
append_again Done these rest = refl
append_again (Then s ss) these rest = ap (Then s) (append_again ss these rest)

-- what is assigned is told by the first statement alone
by_first : (s : Statement) (ss rest : Statements) (t : Store) → assigned (Then s ss) t ≡ assigned (Then s rest) t
by_first (Assign x p (Literal v q)) ss rest t = refl
by_first _ ss rest t = refl

-- the context with the temps of the nearest method as after this statement
abbrev assigned_at : Statement → StatementsContext → StatementsContext
assigned_at s Whole = Whole
assigned_at s (Before rest k) = Before rest (assigned_at s k)
assigned_at s (OwnBody m t e qs k) = OwnBody m (assigned (Then s Done) t) e qs k
assigned_at s (ServedBody m c t e qs k) = ServedBody m c (assigned (Then s Done) t) e qs k
assigned_at s (OwnPost m t v k) = OwnPost m (assigned (Then s Done) t) v k
assigned_at s (ServedPost m t v k) = ServedPost m (assigned (Then s Done) t) v k

abbrev Assigns : Statement → (Store → Store) → Type 0
Assigns s f = (t : Store) → assigned (Then s Done) t ≡ f t

unassigned : (s : Statement) → Assigns s (λ t. t) → (k : StatementsContext) → assigned_at s k ≡ k
unassigned s a Whole = refl
unassigned s a (Before rest k) = ap (Before rest) (unassigned s a k)
unassigned s a (OwnBody m t e qs k) = ap (λ u. OwnBody m u e qs k) (a t)
unassigned s a (ServedBody m c t e qs k) = ap (λ u. ServedBody m c u e qs k) (a t)
unassigned s a (OwnPost m t v k) = ap (λ u. OwnPost m u v k) (a t)
unassigned s a (ServedPost m t v k) = ap (λ u. ServedPost m u v k) (a t)

assigned_after : (s : Statement) (r : Reducible) → Assigns s (temps_after r) → (k : StatementsContext) → assigned_at s k ≡ after r k
assigned_after s r a Whole = refl
assigned_after s r a (Before rest k) = ap (Before rest) (assigned_after s r a k)
assigned_after s r a (OwnBody m t e qs k) = ap (λ u. OwnBody m u e qs k) (a t)
assigned_after s r a (ServedBody m c t e qs k) = ap (λ u. ServedBody m c u e qs k) (a t)
assigned_after s r a (OwnPost m t v k) = ap (λ u. OwnPost m u v k) (a t)
assigned_after s r a (ServedPost m t v k) = ap (λ u. ServedPost m u v k) (a t)

no_values : (vs : List Operand) (e : Expression) (es : Expressions) → is_value e ≡ false → are_values (arguments vs (Arg e es)) ≡ false
no_values [] e es n = rw n refl
no_values (v ∷ vs) e es n = no_values vs e es n

argument_filled : (vs : List Operand) (e : Expression) (es : Expressions) (y : Contractum) → is_value e ≡ false
    → fill_expressions (arguments vs (Arg e es)) y ≡ arguments vs (Arg (fill_expression e y) es)
argument_filled [] e es y n = rw n refl
argument_filled (v ∷ vs) e es y n = ap (Arg (operand v)) (argument_filled vs e es y n)

no_choices : (cs : List (Choice × ℕ)) (e : Expression) (names : Option (List Named)) (ss : Statements) (alts : Alternatives) → is_value e ≡ false
    → guards_are_values (guards cs (Alt e names ss alts)) ≡ false
no_choices [] e names ss alts n = rw n refl
no_choices (c ∷ cs) e names ss alts n = no_choices cs e names ss alts n

guard_filled : (cs : List (Choice × ℕ)) (e : Expression) (names : Option (List Named)) (ss : Statements) (alts : Alternatives) (y : Contractum) → is_value e ≡ false
    → fill_guards (guards cs (Alt e names ss alts)) y ≡ guards cs (Alt (fill_expression e y) names ss alts)
guard_filled [] e names ss alts y n = rw n refl
guard_filled (c ∷ cs) e names ss alts y n = ap (Alt (Literal c.0.guard c.1) c.0.answer c.0.work) (guard_filled cs e names ss alts y n)

module _ (y : Contractum) where
  placed_filled : (place : Place) (e : Expression) → is_value e ≡ false → fill_expression (placed place e) y ≡ placed place (fill_expression e y)
  placed_filled (InPrefix op p) e n = rw n refl
  placed_filled (InLeft op r p) e n = rw n refl
  placed_filled (InRight op v p) e n = rw n refl
  placed_filled (InCall m vs es p) e n = rw (no_values vs e es n) (ap (λ q. Call m q p) (argument_filled vs e es y n))
  placed_filled (InReceiver m es p) e n = rw n refl
  placed_filled (InSend v m vs es p) e n = rw (no_values vs e es n) (ap (λ q. Send (operand v) m q p) (argument_filled vs e es y n))

  slotted_filled : (slot : Slot) (e : Expression) → is_value e ≡ false → fill_statement (slotted slot e) y ≡ Then (slotted slot (fill_expression e y)) Done
  slotted_filled (InAssign x p) e n = rw n refl
  slotted_filled InWrite e n = rw n refl
  slotted_filled InDo e n = rw n refl
  slotted_filled (InAsyncReceiver m p es) e n = rw n refl
  slotted_filled (InAsync v m p vs es) e n = rw (no_values vs e es n) (ap (λ q. Then (Async (operand v) m p q) Done) (argument_filled vs e es y n))
  slotted_filled (InIf these those) e n = rw n refl
  slotted_filled (InSelect cs names ss alts) e n = rw (no_choices cs e names ss alts n) (ap (λ q. Then (Select q) Done) (guard_filled cs e names ss alts y n))

  placed_is_no_value : (place : Place) (e : Expression) → is_value (placed place e) ≡ false
  placed_is_no_value (InPrefix op p) e = refl
  placed_is_no_value (InLeft op r p) e = refl
  placed_is_no_value (InRight op v p) e = refl
  placed_is_no_value (InCall m vs es p) e = refl
  placed_is_no_value (InReceiver m es p) e = refl
  placed_is_no_value (InSend v m vs es p) e = refl

  -- a statement that holds what is no value assigns nothing
  not_yet : (x p : ℕ) (e : Expression) → is_value e ≡ false → Assigns (Assign x p e) (λ t. t)
  not_yet x p (Literal v q) n t = absurd (grind (arith, n))
  not_yet x p _ n t = refl

  slotted_keeps : (slot : Slot) (e : Expression) → is_value e ≡ false → Assigns (slotted slot e) (λ t. t)
  slotted_keeps (InAssign x p) e n = not_yet x p e n
  slotted_keeps InWrite e n = λ t. refl
  slotted_keeps InDo e n = λ t. refl
  slotted_keeps (InAsyncReceiver m p es) e n = λ t. refl
  slotted_keeps (InAsync v m p vs es) e n = λ t. refl
  slotted_keeps (InIf these those) e n = λ t. refl
  slotted_keeps (InSelect cs names ss alts) e n = λ t. refl

  -- a first statement that keeps the temps, and becomes one statement
  kept : (k : StatementsContext) (s q : Statement) → Assigns s (λ t. t) → fill_statement s y ≡ Then q Done
      → fill_statements (around_statements k (Then s Done)) y ≡ around_statements (assigned_at s k) (append (fill_statement s y) Done)
      → fill_statements (around_statements k (Then s Done)) y ≡ around_statements k (Then q Done)
  kept k s q a f h = h ∙ ap (λ j. around_statements j (append (fill_statement s y) Done)) (unassigned s a k) ∙ ap (λ ss. around_statements k (append ss Done)) f

  mutual
    pub in_expression : (k : ExpressionContext) (e : Expression) → is_value e ≡ false
        → fill_statements (around_expression k e) y ≡ around_expression k (fill_expression e y)
    in_expression (InExpression place k) e n =
        in_expression k (placed place e) (placed_is_no_value place e) ∙ ap (around_expression k) (placed_filled place e n)
    in_expression (InStatement slot k) e n =
        kept k (slotted slot e) (slotted slot (fill_expression e y)) (slotted_keeps slot e n) (slotted_filled slot e n) (in_statements k (slotted slot e) Done)
    in_expression (OwnValue m t qs k) e n = in_expression k (Frame m t Done e qs) refl ∙ rw n refl
    in_expression (ServedValue m c t qs k) e n =
        kept k (Serve m c t Done e qs) (Serve m c t Done (fill_expression e y) qs) (λ u. refl) (rw n refl) (in_statements k (Serve m c t Done e qs) Done)

    pub in_statements : (k : StatementsContext) (s : Statement) (ss : Statements)
        → fill_statements (around_statements k (Then s ss)) y ≡ around_statements (assigned_at s k) (append (fill_statement s y) ss)
    in_statements Whole s ss = refl
    in_statements (Before rest k) s ss =
        in_statements k s (append ss rest) ∙ ap (around_statements (assigned_at s k)) (sym (append_again (fill_statement s y) ss rest))
    in_statements (OwnBody m t e qs k) s ss =
        in_expression k (Frame m t (Then s ss) e qs) refl
        ∙ ap (λ u. around_expression k (Frame m u (append (fill_statement s y) ss) e qs)) (by_first s ss Done t)
    in_statements (ServedBody m c t e qs k) s ss =
        kept k (Serve m c t (Then s ss) e qs) (Serve m c (assigned (Then s ss) t) (append (fill_statement s y) ss) e qs) (λ u. refl) refl
        (in_statements k (Serve m c t (Then s ss) e qs) Done)
        ∙ ap (λ u. around_statements k (Then (Serve m c u (append (fill_statement s y) ss) e qs) Done)) (by_first s ss Done t)
    in_statements (OwnPost m t v k) s ss =
        in_expression k (Frame m t Done (operand v) (Then s ss)) refl
        ∙ ap (λ u. around_expression k (Frame m u Done (operand v) (append (fill_statement s y) ss))) (by_first s ss Done t)
    in_statements (ServedPost m t v k) s ss =
        kept k (Serve m None t Done (operand v) (Then s ss)) (Serve m None (assigned (Then s ss) t) Done (operand v) (append (fill_statement s y) ss)) (λ u. refl) refl
        (in_statements k (Serve m None t Done (operand v) (Then s ss)) Done)
        ∙ ap (λ u. around_statements k (Then (Serve m None u Done (operand v) (append (fill_statement s y) ss)) Done)) (by_first s ss Done t)

-- the two together
pub expression_replaced : (k : ExpressionContext) (e d : Expression) (r : Reducible) → expression_as_redex e ≡ Some r
    → fill_statements (around_expression k e) (AsExpression d) ≡ around_expression k d
expression_replaced k e d r h = in_expression (AsExpression d) k e (redex_is_no_value e r h) ∙ ap (around_expression k) (expression_filled e d r h)

pub statement_replaced : (k : StatementsContext) (s : Statement) (ss : Statements) (r : Reducible) → statement_as_redex s ≡ Some r
    → fill_statements (around_statements k (Then s Done)) (AsStatements ss) ≡ around_statements (after r k) ss
statement_replaced k s ss r h =
    in_statements (AsStatements ss) k s Done
    ∙ ap (λ j. around_statements j (append (fill_statement s (AsStatements ss)) Done)) (assigned_after s r (λ t. assigned_by s Done r t h) k)
    ∙ ap (around_statements (after r k)) (append_done (fill_statement s (AsStatements ss)) ∙ statement_filled s ss r h)
