-- A term has at most one split: two contexts around a redex in it have the same redex, and give the same term around any part.
use Rattle.std.proofs.Common.{◌≡◌, refl, sym, ap, ◌∙◌, ℕ, List, [], ◌∷◌, Option, Some, None, is_some, true, false, arith}
use Rattle.run_types.specs.declared.types.Value.{Value}
use Rattle.pool_syntax.specs.declared.tree.Named.{Named}
use Rattle.pool_syntax.specs.Terms.{Store, Expression, Literal, Me, Variable, Create, Prefix, Infix, Call, Send, Frame, Wait, Expressions, Arg, Statement, Assign, Write, WriteText, Do, Async, If, While, Answer, Select, Serve, Statements, Done, Then, Alternatives, Alt, append}
use Rattle.pool_relation.specs.Reducible.{Choice, Reducible, Found, At, Invoke, SynchronousSend, Set, Post, Choose, AsExpression, AsStatements, fill_statements, statements_redex}
use Rattle.pool_relation.specs.Action.{value_of}
use Rattle.pool_relation.proofs.Laws.{is_statement}
use Rattle.run_types.proofs.Laws.{same_some}
use Rattle.adequacy.specs.Contexts.{Operand, operand, arguments, guards, Place, InPrefix, InLeft, InRight, InCall, InReceiver, InSend, placed, Slot, InAssign, InWrite, InDo, InAsyncReceiver, InAsync, InIf, InSelect, slotted, ExpressionContext, InExpression, InStatement, OwnValue, ServedValue, StatementsContext, Whole, Before, OwnBody, ServedBody, OwnPost, ServedPost, around_expression, around_statements, temps_at_statements, after, values_of, choices_of, expression_as_redex, statement_as_redex, own_temps_of}
use Rattle.adequacy.proofs.ContextParts.{none_some, mapped}
use Rattle.adequacy.proofs.ContextTemps.{same_after, undone, not_set, set_back}
use Rattle.adequacy.proofs.RedexInHole.{redex_of_expression, redex_of_statement}
use Rattle.adequacy.proofs.HoleReplacement.{expression_replaced, statement_replaced}

-- the part in a hole is told by the whole
same_argument : (vs : List Operand) (d e : Expression) (es : Expressions) → arguments vs (Arg d es) ≡ arguments vs (Arg e es) → d ≡ e
same_argument [] d e es h = cc
same_argument (v ∷ vs) d e es h = same_argument vs d e es cc

same_guard : (cs : List (Choice × ℕ)) (d e : Expression) (names : Option (List Named)) (ss : Statements) (alts : Alternatives)
    → guards cs (Alt d names ss alts) ≡ guards cs (Alt e names ss alts) → d ≡ e
same_guard [] d e names ss alts h = cc
same_guard (c ∷ cs) d e names ss alts h = same_guard cs d e names ss alts cc

same_placed : (place : Place) (d e : Expression) → placed place d ≡ placed place e → d ≡ e
same_placed (InPrefix op p) d e h = cc
same_placed (InLeft op r p) d e h = cc
same_placed (InRight op v p) d e h = cc
same_placed (InCall m vs es p) d e h = same_argument vs d e es cc
same_placed (InReceiver m es p) d e h = cc
same_placed (InSend v m vs es p) d e h = same_argument vs d e es cc

same_slotted : (slot : Slot) (d e : Expression) → slotted slot d ≡ slotted slot e → d ≡ e
same_slotted (InAssign x p) d e h = cc
same_slotted InWrite d e h = cc
same_slotted InDo d e h = cc
same_slotted (InAsyncReceiver m p es) d e h = cc
same_slotted (InAsync v m p vs es) d e h = same_argument vs d e es cc
same_slotted (InIf these those) d e h = cc
same_slotted (InSelect cs names ss alts) d e h = same_guard cs d e names ss alts cc

mutual
  same_expression : (k : ExpressionContext) (d e : Expression) → around_expression k d ≡ around_expression k e → d ≡ e
  same_expression (InExpression place k) d e h = same_placed place d e (same_expression k (placed place d) (placed place e) h)
  same_expression (InStatement slot k) d e h = same_slotted slot d e (same_first k (slotted slot d) (slotted slot e) Done Done h)
  same_expression (OwnValue m t qs k) d e h = let i = same_expression k (Frame m t Done d qs) (Frame m t Done e qs) h in cc
  same_expression (ServedValue m c t qs k) d e h = let i = same_first k (Serve m c t Done d qs) (Serve m c t Done e qs) Done Done h in cc

  same_first : (k : StatementsContext) (s q : Statement) (ss qs : Statements) → around_statements k (Then s ss) ≡ around_statements k (Then q qs) → s ≡ q
  same_first Whole s q ss qs h = cc
  same_first (Before rest k) s q ss qs h = same_first k s q (append ss rest) (append qs rest) h
  same_first (OwnBody m t e ps k) s q ss qs h =
      let i = same_expression k (Frame m t (Then s ss) e ps) (Frame m t (Then q qs) e ps) h in
      let j : Then s ss ≡ Then q qs = cc in
      cc
  same_first (ServedBody m c t e ps k) s q ss qs h =
      let i = same_first k (Serve m c t (Then s ss) e ps) (Serve m c t (Then q qs) e ps) Done Done h in
      let j : Then s ss ≡ Then q qs = cc in
      cc
  same_first (OwnPost m t v k) s q ss qs h =
      let i = same_expression k (Frame m t Done (operand v) (Then s ss)) (Frame m t Done (operand v) (Then q qs)) h in
      let j : Then s ss ≡ Then q qs = cc in
      cc
  same_first (ServedPost m t v k) s q ss qs h =
      let i = same_first k (Serve m None t Done (operand v) (Then s ss)) (Serve m None t Done (operand v) (Then q qs)) Done Done h in
      let j : Then s ss ≡ Then q qs = cc in
      cc

same_redex : {q r : Reducible} {t u : Store} → ◌≡◌ {A = Found (Unit {0})} (At q t) (At r u) → (q ≡ r) × (t ≡ u)
same_redex h = (cc, cc)

pub expressions_same : (k l : ExpressionContext) (d e : Expression) (q r : Reducible) → expression_as_redex d ≡ Some q → expression_as_redex e ≡ Some r
    → around_expression k d ≡ around_expression l e → (d ≡ e) × ((x : Expression) → around_expression k x ≡ around_expression l x)
expressions_same k l d e q r i j h = (same_expression k d e (h ∙ sym (alike e)), alike)
  where
    alike : (x : Expression) → around_expression k x ≡ around_expression l x
    alike x = sym (expression_replaced k d x q i) ∙ ap (λ ss. fill_statements ss (AsExpression x)) h ∙ expression_replaced l e x r j

-- an assignment of a value tells the temps at hand
at_hand : (s : Statement) (n : ℕ) (v : Value) (t : Store) → statement_as_redex s ≡ Some (Set n v) → own_temps_of t s ≡ t
at_hand (Serve m None u Done (Literal w p) Done) n v t h = absurd (grind (arith, same_some h))
at_hand (Serve m (Some c) u Done (Literal w p) Done) n v t h = absurd (grind (arith, same_some h))
at_hand (Serve m (Some c) u Done (Literal w p) (Then s qs)) n v t h = absurd (grind (arith, same_some h))
at_hand (Serve m c u ss e qs) n v t h = absurd (none_some h)
at_hand _ n v t h = refl

-- contexts that are alike after an assignment were alike before
alike_before : (k l : StatementsContext) (n : ℕ) (v : Value) → temps_at_statements k ≡ temps_at_statements l
    → ((ss : Statements) → around_statements (after (Set n v) k) ss ≡ around_statements (after (Set n v) l) ss)
    → (ss : Statements) → around_statements k ss ≡ around_statements l ss
alike_before k l n v u f ss = by (value_of (temps_at_statements k) n) refl
  where
    back : (j : StatementsContext) (w : Value) → value_of (temps_at_statements j) n ≡ Some w
        → around_statements j ss ≡ fill_statements (around_statements (after (Set n v) j) (Then (Assign n 0 (Literal w 0)) Done)) (AsStatements ss)
    back j w e =
        ap (λ i. around_statements i ss) (sym (undone (Set n v) (Set n w) j (set_back (temps_at_statements j) n v w e)))
        ∙ sym (statement_replaced (after (Set n v) j) (Assign n 0 (Literal w 0)) ss (Set n w) refl)

    there : (j : StatementsContext) → value_of (temps_at_statements j) n ≡ None → around_statements (after (Set n v) j) ss ≡ around_statements j ss
    there j e = ap (λ i. around_statements i ss) (same_after (Set n v) j (not_set (temps_at_statements j) n v (ap is_some e)))

    by : (o : Option Value) → value_of (temps_at_statements k) n ≡ o → around_statements k ss ≡ around_statements l ss
    by None e = sym (there k e) ∙ f ss ∙ there l (ap (λ t. value_of t n) (sym u) ∙ e)
    by (Some w) e =
        back k w e ∙ ap (λ ts. fill_statements ts (AsStatements ss)) (f (Then (Assign n 0 (Literal w 0)) Done)) ∙ sym (back l w (ap (λ t. value_of t n) (sym u) ∙ e))

pub statements_same : (k l : StatementsContext) (s z : Statement) (q r : Reducible) → statement_as_redex s ≡ Some q → statement_as_redex z ≡ Some r
    → around_statements k (Then s Done) ≡ around_statements l (Then z Done) → (s ≡ z) × ((ss : Statements) → around_statements k ss ≡ around_statements l ss)
statements_same k l s z q r i j h = (same_first k s z Done Done (h ∙ sym (alike q i refl (Then z Done))), alike q i refl)
  where
    same : (q ≡ r) × (own_temps_of (temps_at_statements k) s ≡ own_temps_of (temps_at_statements l) z)
    same = same_redex (sym (redex_of_statement k s q i) ∙ ap (statements_redex []) h ∙ redex_of_statement l z r j)

    filled : (ss : Statements) → around_statements (after q k) ss ≡ around_statements (after q l) ss
    filled ss =
        sym (statement_replaced k s ss q i) ∙ ap (λ ts. fill_statements ts (AsStatements ss)) h ∙ statement_replaced l z ss r j ∙ ap (λ p. around_statements (after p l) ss) (sym same.0)

    alike : (p : Reducible) → statement_as_redex s ≡ Some p → p ≡ q → (ss : Statements) → around_statements k ss ≡ around_statements l ss
    alike (Set n v) a e =
        alike_before k l n v
        (sym (at_hand s n v (temps_at_statements k) a) ∙ same.1 ∙ at_hand z n v (temps_at_statements l) (j ∙ ap Some (sym same.0 ∙ sym e)))
        (λ ss. ap (λ p. around_statements (after p k) ss) e ∙ filled ss ∙ ap (λ p. around_statements (after p l) ss) (sym e))
    alike p a e = λ ss.
        ap (λ i. around_statements i ss) (sym (same_after p k refl)) ∙ ap (λ p. around_statements (after p k) ss) e ∙ filled ss ∙ ap (λ p. around_statements (after p l) ss) (sym e)
        ∙ ap (λ i. around_statements i ss) (same_after p l refl)

-- no part is an expression for one context and a statement for another
pub of_expression : (e : Expression) (r : Reducible) → expression_as_redex e ≡ Some r → is_statement r ≡ false
of_expression (Me p) r h = ap is_statement (sym (same_some h))
of_expression (Variable x p) r h = ap is_statement (sym (same_some h))
of_expression (Create c p) r h = ap is_statement (sym (same_some h))
of_expression (Prefix op (Literal v p) q) r h = ap is_statement (sym (same_some h))
of_expression (Infix op (Literal v p) (Literal w q) o) r h = ap is_statement (sym (same_some h))
of_expression (Call m es p) r h = let i = mapped (Invoke m) (values_of es) r h in ap is_statement (sym i.2)
of_expression (Send (Literal v p) m es q) r h = let i = mapped (SynchronousSend v m) (values_of es) r h in ap is_statement (sym i.2)
of_expression (Frame m t Done (Literal v p) Done) r h = ap is_statement (sym (same_some h))
of_expression (Wait b m) r h = ap is_statement (sym (same_some h))
of_expression _ r h = absurd (none_some h)

pub of_statement : (s : Statement) (r : Reducible) → statement_as_redex s ≡ Some r → is_statement r ≡ true
of_statement (Assign x p (Literal v q)) r h = ap is_statement (sym (same_some h))
of_statement (Write (Literal v p)) r h = ap is_statement (sym (same_some h))
of_statement (WriteText s) r h = ap is_statement (sym (same_some h))
of_statement (Do (Literal v p)) r h = ap is_statement (sym (same_some h))
of_statement (Async (Literal v p) m q es) r h = let i = mapped (Post v m) (values_of es) r h in ap is_statement (sym i.2)
of_statement (If (Literal v p) these those) r h = ap is_statement (sym (same_some h))
of_statement (While e ss) r h = ap is_statement (sym (same_some h))
of_statement (Answer names) r h = ap is_statement (sym (same_some h))
of_statement (Select alts) r h = let i = mapped Choose (choices_of alts) r h in ap is_statement (sym i.2)
of_statement (Serve m None t Done (Literal v p) Done) r h = ap is_statement (sym (same_some h))
of_statement (Serve m (Some c) t Done (Literal v p) Done) r h = ap is_statement (sym (same_some h))
of_statement (Serve m (Some c) t Done (Literal v p) (Then s qs)) r h = ap is_statement (sym (same_some h))
of_statement _ r h = absurd (none_some h)

pub never_both : (k : ExpressionContext) (l : StatementsContext) (e : Expression) (s : Statement) (q r : Reducible) → expression_as_redex e ≡ Some q → statement_as_redex s ≡ Some r
    → ¬ (around_expression k e ≡ around_statements l (Then s Done))
never_both k l e s q r i j h =
    let same = same_redex (sym (redex_of_expression k e q i) ∙ ap (statements_redex []) h ∙ redex_of_statement l s r j) in
    grind (arith, of_expression e q i, of_statement s r j, ap is_statement same.0)
