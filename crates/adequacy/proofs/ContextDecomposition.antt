-- A term is done, or it is a context around a redex.
use Rattle.std.proofs.Common.{◌≡◌, refl, sym, ap, ◌∙◌, subst, ℕ, List, [], ◌∷◌, Option, Some, None, option_map}
use Rattle.run_types.specs.declared.types.Value.{Value}
use Rattle.run_types.specs.declared.types.Op.{Op}
use Rattle.run_types.specs.declared.types.Item.TheVariants as I
use Rattle.pool_syntax.specs.declared.tree.Named.{Named}
use Rattle.pool_syntax.specs.Terms.{Store, Expression, Literal, Me, Variable, Create, Prefix, Infix, Call, Send, Frame, Wait, Expressions, NoArgs, Arg, Statement, Assign, Write, WriteText, Do, Async, If, While, Answer, Select, Serve, Statements, Done, Then, Alternatives, NoAlts, Alt}
use Rattle.pool_relation.specs.Reducible.{Choice, Reducible, Found, At, OwnName, Read, Make, Unary, Binary, Invoke, SynchronousSend, Leave, Waiting, Set, Print, Drop, Post, Branch, Loop, Accept, Choose, Finish}
use Rattle.pool_relation.specs.Reducible.{statements_redex}
use Rattle.pool_relation.proofs.Laws.{at_is_no_value}
use Rattle.adequacy.specs.Contexts.{Operand, operand, arguments, guards, InPrefix, InLeft, InRight, InCall, InReceiver, InSend, Slot, InAssign, InWrite, InDo, InAsyncReceiver, InAsync, InIf, InSelect, slotted, ExpressionContext, InExpression, InStatement, OwnValue, ServedValue, StatementsContext, Whole, Before, OwnBody, ServedBody, OwnPost, ServedPost, around_expression, around_statements, temps_at_expression, temps_at_statements, values_of, choices_of, expression_as_redex, statement_as_redex, own_temps, own_temps_of, Split, AtExpression, AtStatement}
use Rattle.adequacy.proofs.RedexInHole.{redex_of_expression, redex_of_statement}

-- a split of this term
record Parted (term : Statements) : Type 0 where
  redex : Reducible
  temps : Store
  split : Split term redex temps

here : (k : ExpressionContext) (e : Expression) (r : Reducible) → expression_as_redex e ≡ Some r → Parted (around_expression k e)
here k e r h = record { redex = r; temps = own_temps (temps_at_expression k) e; split = AtExpression k e refl h refl }

there : (k : StatementsContext) (s : Statement) (rest : Statements) (r : Reducible) → statement_as_redex s ≡ Some r → Parted (around_statements k (Then s rest))
there k s rest r h = record { redex = r; temps = own_temps_of (temps_at_statements k) s; split = AtStatement (Before rest k) s refl h refl }

-- an expression in whatever context, and the parts of terms that are no expressions: a value, or with a redex inside
data Valued (e : Expression) : Type 0 where
  IsValue : (v : Operand) → e ≡ operand v → Valued e
  HasRedex : ((k : ExpressionContext) → Parted (around_expression k e)) → Valued e

data AllValued (es : Expressions) : Type 0 where
  AreValues : (vs : List Value) → values_of es ≡ Some vs → AllValued es
  HasArgument : (before : List Operand) (e : Expression) (after : Expressions) → es ≡ arguments before (Arg e after)
      → ((k : ExpressionContext) → Parted (around_expression k e)) → AllValued es

data Finished (ss : Statements) : Type 0 where
  IsDone : ss ≡ Done → Finished ss
  GoesOn : ((k : StatementsContext) → Parted (around_statements k ss)) → Finished ss

data AllGuarded (alts : Alternatives) : Type 0 where
  AreChoices : (cs : List Choice) → choices_of alts ≡ Some cs → AllGuarded alts
  HasGuard : (before : List (Choice × ℕ)) (e : Expression) (names : Option (List Named)) (ss : Statements) (after : Alternatives)
      → alts ≡ guards before (Alt e names ss after) → ((k : ExpressionContext) → Parted (around_expression k e)) → AllGuarded alts

-- a term with an equal part in place of this one
again : {A : Type 0} (f : A → Statements) {d e : A} → e ≡ d → Parted (f d) → Parted (f e)
again {A} f is = subst (λ (x : A). Parted (f x)) (sym is)

in_prefix : (op : Op) (e : Expression) (p : ℕ) → Valued e → Valued (Prefix op e p)
in_prefix op e p (IsValue v is) = HasRedex (λ k. here k (Prefix op e p) (Unary op v.0) (ap (λ x. expression_as_redex (Prefix op x p)) is))
in_prefix op e p (HasRedex f) = HasRedex (λ k. f (InExpression (InPrefix op p) k))

in_infix : (op : Op) (l r : Expression) (p : ℕ) → Valued l → Valued r → Valued (Infix op l r p)
in_infix op l r p (HasRedex f) b = HasRedex (λ k. f (InExpression (InLeft op r p) k))
in_infix op l r p (IsValue v is) (HasRedex f) =
    HasRedex (λ k. again (λ x. around_expression k (Infix op x r p)) is (f (InExpression (InRight op v p) k)))
in_infix op l r p (IsValue v is) (IsValue w so) =
    HasRedex (λ k. here k (Infix op l r p) (Binary op v.0 w.0) (ap (λ x. expression_as_redex (Infix op x r p)) is ∙ ap (λ x. expression_as_redex (Infix op (operand v) x p)) so))

in_call : (m : ℕ) (es : Expressions) (p : ℕ) → AllValued es → Valued (Call m es p)
in_call m es p (AreValues vs are) = HasRedex (λ k. here k (Call m es p) (Invoke m vs) (ap (option_map (Invoke m)) are))
in_call m es p (HasArgument before e after is f) =
    HasRedex (λ k. again (λ x. around_expression k (Call m x p)) is (f (InExpression (InCall m before after p) k)))

in_send : (e : Expression) (m : ℕ) (es : Expressions) (p : ℕ) → Valued e → AllValued es → Valued (Send e m es p)
in_send e m es p (HasRedex f) b = HasRedex (λ k. f (InExpression (InReceiver m es p) k))
in_send e m es p (IsValue v is) (HasArgument before d after so f) =
    HasRedex (λ k. again (λ x. around_expression k (Send x m es p)) is
    (again (λ x. around_expression k (Send (operand v) m x p)) so (f (InExpression (InSend v m before after p) k))))
in_send e m es p (IsValue v is) (AreValues vs are) =
    HasRedex (λ k. here k (Send e m es p) (SynchronousSend v.0 m vs) (ap (λ x. expression_as_redex (Send x m es p)) is ∙ ap (option_map (SynchronousSend v.0 m)) are))

in_frame : (m : ℕ) (t : Store) (ss : Statements) (e : Expression) (qs : Statements) → Finished ss → Valued e → Finished qs → Valued (Frame m t ss e qs)
in_frame m t ss e qs (GoesOn f) b c = HasRedex (λ k. f (OwnBody m t e qs k))
in_frame m t ss e qs (IsDone is) (HasRedex f) c =
    HasRedex (λ k. again (λ x. around_expression k (Frame m t x e qs)) is (f (OwnValue m t qs k)))
in_frame m t ss e qs (IsDone is) (IsValue v so) (GoesOn f) =
    HasRedex (λ k. again (λ x. around_expression k (Frame m t x e qs)) is (again (λ x. around_expression k (Frame m t Done x qs)) so (f (OwnPost m t v k))))
in_frame m t ss e qs (IsDone is) (IsValue v so) (IsDone over) =
    HasRedex (λ k. here k (Frame m t ss e qs) (Leave v.0)
    (ap (λ x. expression_as_redex (Frame m t x e qs)) is ∙ ap (λ x. expression_as_redex (Frame m t Done x qs)) so ∙ ap (λ x. expression_as_redex (Frame m t Done (operand v) x)) over))

in_arguments : (e : Expression) (es : Expressions) → Valued e → AllValued es → AllValued (Arg e es)
in_arguments e es (HasRedex f) b = HasArgument [] e es refl f
in_arguments e es (IsValue v is) (HasArgument before d after so f) =
    HasArgument (v ∷ before) d after (ap (λ x. Arg x es) is ∙ ap (Arg (operand v)) so) f
in_arguments e es (IsValue v is) (AreValues vs are) =
    AreValues (v.0 ∷ vs) (ap (λ x. values_of (Arg x es)) is ∙ ap (option_map (λ ws. v.0 ∷ ws)) are)

in_guards : (e : Expression) (names : Option (List Named)) (ss : Statements) (alts : Alternatives) → Valued e → AllGuarded alts → AllGuarded (Alt e names ss alts)
in_guards e names ss alts (HasRedex f) b = HasGuard [] e names ss alts refl f
in_guards e names ss alts (IsValue v is) (HasGuard before d ns ts after so f) =
    HasGuard ((record { guard = v.0; answer = names; work = ss }, v.1) ∷ before) d ns ts after (ap (λ x. Alt x names ss alts) is ∙ ap (Alt (operand v) names ss) so) f
in_guards e names ss alts (IsValue v is) (AreChoices cs are) =
    AreChoices (record { guard = v.0; answer = names; work = ss } ∷ cs)
    (ap (λ x. choices_of (Alt x names ss alts)) is ∙ ap (option_map (λ ds. record { guard = v.0; answer = names; work = ss } ∷ ds)) are)

-- a first statement
abbrev Leads : Statement → Type 0
Leads s = (rest : Statements) (k : StatementsContext) → Parted (around_statements k (Then s rest))

in_slot : (slot : Slot) (e : Expression) (r : Operand → Reducible) → ((v : Operand) → statement_as_redex (slotted slot (operand v)) ≡ Some (r v)) → Valued e → Leads (slotted slot e)
in_slot slot e r h (HasRedex f) rest k = f (InStatement slot (Before rest k))
in_slot slot e r h (IsValue v is) rest k = there k (slotted slot e) rest (r v) (ap (λ x. statement_as_redex (slotted slot x)) is ∙ h v)

in_async : (e : Expression) (m p : ℕ) (es : Expressions) → Valued e → AllValued es → Leads (Async e m p es)
in_async e m p es (HasRedex f) b rest k = f (InStatement (InAsyncReceiver m p es) (Before rest k))
in_async e m p es (IsValue v is) (HasArgument before d after so f) rest k =
    again (λ x. around_statements k (Then (Async x m p es) rest)) is
    (again (λ x. around_statements k (Then (Async (operand v) m p x) rest)) so (f (InStatement (InAsync v m p before after) (Before rest k))))
in_async e m p es (IsValue v is) (AreValues vs are) rest k =
    there k (Async e m p es) rest (Post v.0 m vs) (ap (λ x. statement_as_redex (Async x m p es)) is ∙ ap (option_map (Post v.0 m)) are)

in_select : (alts : Alternatives) → AllGuarded alts → Leads (Select alts)
in_select alts (AreChoices cs are) rest k = there k (Select alts) rest (Choose cs) (ap (option_map Choose) are)
in_select alts (HasGuard before e names ss after is f) rest k =
    again (λ x. around_statements k (Then (Select x) rest)) is (f (InStatement (InSelect before names ss after) (Before rest k)))

at_end : (m : ℕ) (c : Option ℕ) (t : Store) (v : Operand) (qs : Statements) → Finished qs → Leads (Serve m c t Done (operand v) qs)
at_end m None t v qs (GoesOn f) rest k = f (ServedPost m t v (Before rest k))
at_end m None t v qs (IsDone over) rest k =
    there k (Serve m None t Done (operand v) qs) rest (Finish None v.0 Done) (ap (λ x. statement_as_redex (Serve m None t Done (operand v) x)) over)
at_end m (Some c) t v Done f rest k = there k (Serve m (Some c) t Done (operand v) Done) rest (Finish (Some c) v.0 Done) refl
at_end m (Some c) t v (Then s qs) f rest k =
    there k (Serve m (Some c) t Done (operand v) (Then s qs)) rest (Finish (Some c) v.0 (Then (Serve m None t Done (operand v) (Then s qs)) Done)) refl

in_serve : (m : ℕ) (c : Option ℕ) (t : Store) (ss : Statements) (e : Expression) (qs : Statements) → Finished ss → Valued e → Finished qs → Leads (Serve m c t ss e qs)
in_serve m c t ss e qs (GoesOn f) b o rest k = f (ServedBody m c t e qs (Before rest k))
in_serve m c t ss e qs (IsDone is) (HasRedex f) o rest k =
    again (λ x. around_statements k (Then (Serve m c t x e qs) rest)) is (f (ServedValue m c t qs (Before rest k)))
in_serve m c t ss e qs (IsDone is) (IsValue v so) o rest k =
    again (λ x. around_statements k (Then (Serve m c t x e qs) rest)) is
    (again (λ x. around_statements k (Then (Serve m c t Done x qs) rest)) so (at_end m c t v qs o rest k))

mutual
  expression_parted : (e : Expression) → Valued e
  expression_parted (Literal v p) = IsValue (v, p) refl
  expression_parted (Me p) = HasRedex (λ k. here k (Me p) OwnName refl)
  expression_parted (Variable x p) = HasRedex (λ k. here k (Variable x p) (Read x) refl)
  expression_parted (Create c p) = HasRedex (λ k. here k (Create c p) (Make c) refl)
  expression_parted (Prefix op e p) = in_prefix op e p (expression_parted e)
  expression_parted (Infix op l r p) = in_infix op l r p (expression_parted l) (expression_parted r)
  expression_parted (Call m es p) = in_call m es p (arguments_parted es)
  expression_parted (Send e m es p) = in_send e m es p (expression_parted e) (arguments_parted es)
  expression_parted (Frame m t ss e qs) = in_frame m t ss e qs (statements_parted ss) (expression_parted e) (statements_parted qs)
  expression_parted (Wait b m) = HasRedex (λ k. here k (Wait b m) (Waiting b m) refl)

  arguments_parted : (es : Expressions) → AllValued es
  arguments_parted NoArgs = AreValues [] refl
  arguments_parted (Arg e es) = in_arguments e es (expression_parted e) (arguments_parted es)

  statement_parted : (s : Statement) → Leads s
  statement_parted (Assign x p e) = in_slot (InAssign x p) e (λ v. Set x v.0) (λ v. refl) (expression_parted e)
  statement_parted (Write e) = in_slot InWrite e (λ v. Print (I.Value v.0)) (λ v. refl) (expression_parted e)
  statement_parted (WriteText s) = λ rest k. there k (WriteText s) rest (Print (I.Text (record { 0 = s }))) refl
  statement_parted (Do e) = in_slot InDo e (λ v. Drop v.0) (λ v. refl) (expression_parted e)
  statement_parted (Async e m p es) = in_async e m p es (expression_parted e) (arguments_parted es)
  statement_parted (If e these those) = in_slot (InIf these those) e (λ v. Branch v.0 these those) (λ v. refl) (expression_parted e)
  statement_parted (While e ss) = λ rest k. there k (While e ss) rest (Loop e ss) refl
  statement_parted (Answer names) = λ rest k. there k (Answer names) rest (Accept names) refl
  statement_parted (Select alts) = in_select alts (guards_parted alts)
  statement_parted (Serve m c t ss e qs) = in_serve m c t ss e qs (statements_parted ss) (expression_parted e) (statements_parted qs)

  statements_parted : (ss : Statements) → Finished ss
  statements_parted Done = IsDone refl
  statements_parted (Then s ss) = GoesOn (λ k. statement_parted s ss k)

  guards_parted : (alts : Alternatives) → AllGuarded alts
  guards_parted NoAlts = AreChoices [] refl
  guards_parted (Alt e names ss alts) = in_guards e names ss alts (expression_parted e) (guards_parted alts)

-- the redex and the temps of a split are those that are found
split_found : (ss : Statements) (r : Reducible) (t : Store) → Split ss r t → statements_redex [] ss ≡ At r t
split_found ss r t (AtExpression k e is h u) = ap (statements_redex []) is ∙ redex_of_expression k e r h ∙ ap (At r) (sym u)
split_found ss r t (AtStatement k s is h u) = ap (statements_redex []) is ∙ redex_of_statement k s r h ∙ ap (At r) (sym u)

same_redex : {q r : Reducible} {t u : Store} → ◌≡◌ {A = Found (Unit {0})} (At q t) (At r u) → (q ≡ r) × (t ≡ u)
same_redex h = (cc, cc)

pub split_of : (ss : Statements) (r : Reducible) (t : Store) → statements_redex [] ss ≡ At r t → Split ss r t
split_of ss r t h = by (statements_parted ss)
  where
    by : Finished ss → Split ss r t
    by (IsDone is) = absurd (at_is_no_value r t tt (sym h ∙ ap (statements_redex []) is))
    by (GoesOn f) =
        let p : Parted ss = f Whole in
        let e = same_redex (sym (split_found ss p.redex p.temps p.split) ∙ h) in
        subst (Split ss r) e.1 (subst (λ (q : Reducible). Split ss q p.temps) e.0 p.split)
