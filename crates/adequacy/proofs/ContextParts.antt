-- An expression or a statement that is a redex by itself is found at once, and another part replaces it.
use Rattle.std.proofs.Common.{◌≡◌, refl, ap, List, ◌∷◌, Option, Some, None, option_map, true, false, arith}
use Rattle.run_types.specs.declared.types.Value.{Value}
use Rattle.run_types.proofs.Laws.{same_some}
use Rattle.pool_syntax.specs.Terms.{Store, Expression, Literal, Me, Variable, Create, Prefix, Infix, Call, Send, Frame, Wait, Expressions, NoArgs, Arg, Statement, Assign, Write, WriteText, Do, Async, If, While, Answer, Select, Serve, Statements, Done, Then, Alternatives, NoAlts, Alt}
use Rattle.pool_relation.specs.Reducible.{Choice, Reducible, Found, Evaluated, At, Invoke, SynchronousSend, Post, Choose, AsExpression, AsStatements, is_value, are_values, guards_are_values, assigned, fill_expression, fill_statement, expression_redex, expressions_redex, statement_redex}
use Rattle.pool_relation.specs.Reducible.{guards_redex}
use Rattle.adequacy.specs.Contexts.{values_of, choices_of, expression_as_redex, statement_as_redex, own_temps, own_temps_of, temps_after}

pub none_some : {A : Type 0} {a : A} → ¬ (◌≡◌ {A = Option A} None (Some a))
none_some h = grind arith

-- what is there behind a function
pub mapped : {A B : Type 0} (f : A → B) (o : Option A) (b : B) → option_map f o ≡ Some b → (a : A) × (o ≡ Some a) × (f a ≡ b)
mapped f None b h = absurd (none_some h)
mapped f (Some a) b h = (a, refl, same_some h)

-- arguments that are values
pub values_found : (t : Store) (es : Expressions) (vs : List Value) → values_of es ≡ Some vs → expressions_redex t es ≡ Evaluated vs
values_found t NoArgs vs h = ap Evaluated (same_some h)
values_found t (Arg (Literal v p) es) vs h =
    let m = mapped (λ ws. v ∷ ws) (values_of es) vs h in
    rw (values_found t es m.0 m.1) (ap Evaluated m.2)
values_found t _ vs h = absurd (none_some h)

pub values_are : (es : Expressions) (vs : List Value) → values_of es ≡ Some vs → are_values es ≡ true
values_are NoArgs vs h = refl
values_are (Arg (Literal v p) es) vs h =
    let m = mapped (λ ws. v ∷ ws) (values_of es) vs h in
    values_are es m.0 m.1
values_are _ vs h = absurd (none_some h)

-- guards that are values
pub choices_found : (t : Store) (alts : Alternatives) (cs : List Choice) → choices_of alts ≡ Some cs → guards_redex t alts ≡ Evaluated cs
choices_found t NoAlts cs h = ap Evaluated (same_some h)
choices_found t (Alt (Literal v p) names ss alts) cs h =
    let m = mapped (λ ds. record { guard = v; answer = names; work = ss } ∷ ds) (choices_of alts) cs h in
    rw (choices_found t alts m.0 m.1) (ap Evaluated m.2)
choices_found t _ cs h = absurd (none_some h)

pub choices_are : (alts : Alternatives) (cs : List Choice) → choices_of alts ≡ Some cs → guards_are_values alts ≡ true
choices_are NoAlts cs h = refl
choices_are (Alt (Literal v p) names ss alts) cs h =
    let m = mapped (λ ds. record { guard = v; answer = names; work = ss } ∷ ds) (choices_of alts) cs h in
    choices_are alts m.0 m.1
choices_are _ cs h = absurd (none_some h)

at : {A : Type 0} {q r : Reducible} (t : Store) → q ≡ r → ◌≡◌ {A = Found A} (At q t) (At r t)
at t e = ap (λ q. At q t) e

-- a redex is found at once
pub expression_found : (t : Store) (e : Expression) (r : Reducible) → expression_as_redex e ≡ Some r → expression_redex t e ≡ At r (own_temps t e)
expression_found t (Me p) r h = at t (same_some h)
expression_found t (Variable x p) r h = at t (same_some h)
expression_found t (Create c p) r h = at t (same_some h)
expression_found t (Prefix op (Literal v p) q) r h = at t (same_some h)
expression_found t (Infix op (Literal v p) (Literal w q) o) r h = at t (same_some h)
expression_found t (Call m es p) r h =
    let i = mapped (Invoke m) (values_of es) r h in
    rw (values_found t es i.0 i.1) (at t i.2)
expression_found t (Send (Literal v p) m es q) r h =
    let i = mapped (SynchronousSend v m) (values_of es) r h in
    rw (values_found t es i.0 i.1) (at t i.2)
expression_found t (Frame m u Done (Literal v p) Done) r h = at u (same_some h)
expression_found t (Wait b m) r h = at t (same_some h)
expression_found t _ r h = absurd (none_some h)

pub statement_found : (t : Store) (s : Statement) (r : Reducible) → statement_as_redex s ≡ Some r → statement_redex t s ≡ At r (own_temps_of t s)
statement_found t (Assign x p (Literal v q)) r h = at t (same_some h)
statement_found t (Write (Literal v p)) r h = at t (same_some h)
statement_found t (WriteText s) r h = at t (same_some h)
statement_found t (Do (Literal v p)) r h = at t (same_some h)
statement_found t (Async (Literal v p) m q es) r h =
    let i = mapped (Post v m) (values_of es) r h in
    rw (values_found t es i.0 i.1) (at t i.2)
statement_found t (If (Literal v p) these those) r h = at t (same_some h)
statement_found t (While e ss) r h = at t (same_some h)
statement_found t (Answer names) r h = at t (same_some h)
statement_found t (Select alts) r h =
    let i = mapped Choose (choices_of alts) r h in
    rw (choices_found t alts i.0 i.1) (at t i.2)
statement_found t (Serve m None u Done (Literal v p) Done) r h = at u (same_some h)
statement_found t (Serve m (Some c) u Done (Literal v p) Done) r h = at u (same_some h)
statement_found t (Serve m (Some c) u Done (Literal v p) (Then s qs)) r h = at u (same_some h)
statement_found t _ r h = absurd (none_some h)

-- another part takes its place
pub expression_filled : (e d : Expression) (r : Reducible) → expression_as_redex e ≡ Some r → fill_expression e (AsExpression d) ≡ d
expression_filled (Me p) d r h = refl
expression_filled (Variable x p) d r h = refl
expression_filled (Create c p) d r h = refl
expression_filled (Prefix op (Literal v p) q) d r h = refl
expression_filled (Infix op (Literal v p) (Literal w q) o) d r h = refl
expression_filled (Call m es p) d r h = let i = mapped (Invoke m) (values_of es) r h in rw (values_are es i.0 i.1) refl
expression_filled (Send (Literal v p) m es q) d r h = let i = mapped (SynchronousSend v m) (values_of es) r h in rw (values_are es i.0 i.1) refl
expression_filled (Frame m u Done (Literal v p) Done) d r h = refl
expression_filled (Wait b m) d r h = refl
expression_filled _ d r h = absurd (none_some h)

pub statement_filled : (s : Statement) (ss : Statements) (r : Reducible) → statement_as_redex s ≡ Some r → fill_statement s (AsStatements ss) ≡ ss
statement_filled (Assign x p (Literal v q)) ss r h = refl
statement_filled (Write (Literal v p)) ss r h = refl
statement_filled (WriteText s) ss r h = refl
statement_filled (Do (Literal v p)) ss r h = refl
statement_filled (Async (Literal v p) m q es) ss r h = let i = mapped (Post v m) (values_of es) r h in rw (values_are es i.0 i.1) refl
statement_filled (If (Literal v p) these those) ss r h = refl
statement_filled (While e body) ss r h = refl
statement_filled (Answer names) ss r h = refl
statement_filled (Select alts) ss r h = let i = mapped Choose (choices_of alts) r h in rw (choices_are alts i.0 i.1) refl
statement_filled (Serve m None u Done (Literal v p) Done) ss r h = refl
statement_filled (Serve m (Some c) u Done (Literal v p) qs) ss r h = refl
statement_filled _ ss r h = absurd (none_some h)

pub redex_is_no_value : (e : Expression) (r : Reducible) → expression_as_redex e ≡ Some r → is_value e ≡ false
redex_is_no_value (Literal v p) r h = absurd (none_some h)
redex_is_no_value _ r h = refl

-- the temps after it
pub assigned_by : (s : Statement) (ss : Statements) (r : Reducible) (t : Store) → statement_as_redex s ≡ Some r → assigned (Then s ss) t ≡ temps_after r t
assigned_by (Assign x p (Literal v q)) ss r t h = ap (λ q. temps_after q t) (same_some h)
assigned_by (Write (Literal v p)) ss r t h = ap (λ q. temps_after q t) (same_some h)
assigned_by (WriteText s) ss r t h = ap (λ q. temps_after q t) (same_some h)
assigned_by (Do (Literal v p)) ss r t h = ap (λ q. temps_after q t) (same_some h)
assigned_by (Async (Literal v p) m q es) ss r t h = let i = mapped (Post v m) (values_of es) r h in ap (λ q. temps_after q t) i.2
assigned_by (If (Literal v p) these those) ss r t h = ap (λ q. temps_after q t) (same_some h)
assigned_by (While e body) ss r t h = ap (λ q. temps_after q t) (same_some h)
assigned_by (Answer names) ss r t h = ap (λ q. temps_after q t) (same_some h)
assigned_by (Select alts) ss r t h = let i = mapped Choose (choices_of alts) r h in ap (λ q. temps_after q t) i.2
assigned_by (Serve m None u Done (Literal v p) Done) ss r t h = ap (λ q. temps_after q t) (same_some h)
assigned_by (Serve m (Some c) u Done (Literal v p) Done) ss r t h = ap (λ q. temps_after q t) (same_some h)
assigned_by (Serve m (Some c) u Done (Literal v p) (Then s qs)) ss r t h = ap (λ q. temps_after q t) (same_some h)
assigned_by _ ss r t h = absurd (none_some h)
