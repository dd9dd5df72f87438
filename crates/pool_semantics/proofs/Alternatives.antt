-- A typed select has at most 64 alternatives, since its evaluated guards are held as operands.
use Rattle.std.proofs.Common.{◌≡◌, refl, sym, ap, ◌∙◌, subst, ℕ, ◌+◌, ◌-◌, ◌≤◌, ◌<◌, List, [], ◌∷◌, length, Option, Some, None, false, arith}
use Rattle.std.specs.Prelude.{nat_le}
use Rattle.std.proofs.lemmas.Bool.{leb-false}
use Rattle.run_types.specs.declared.types.Value.{Value}
use Rattle.pool_syntax.specs.declared.tree.Var.{Var}
use Rattle.pool_syntax.specs.Terms.{Store, Expression, Literal, Me, Variable, Create, Prefix, Infix, Call, Send, Frame, Wait, Expressions, NoArgs, Arg, Statement, Assign, Write, WriteText, Do, Async, If, While, Answer, Select, Serve, Statements, Done, Then, Alternatives, NoAlts, Alt, ProgramTree}
use Rattle.pool_syntax.specs.FaultNumbers as N
use Rattle.run_types.specs.Sorts.{BoolSort}
use Rattle.pool_syntax.specs.Typing.{Scope, limit_faults, fault_if, needs, needs_any, method_faults, destination_faults, value_needs, answer_faults, is_broken_name, inside, behind_value, own_method, params_of, sent_method, sort_of, size, position, kind_sort, expression_faults, arguments_faults, statement_faults, statements_faults}
use Rattle.pool_syntax.specs.Typing.{alternatives_faults}
use Rattle.pool_relation.specs.Reducible as R
use Rattle.pool_relation.specs.Reducible.{Choice, Reducible, Choose, Found, Evaluated, At, and_then, in_post, left_served, expression_redex, expressions_redex, statement_redex, statements_redex, guards_redex}
use Rattle.pool_relation.specs.Configuration.{Configuration, object_of}
use Rattle.pool_relation.specs.Typed.{scope}
use Rattle.pool_relation.proofs.Laws.{none2, no_fault_if, passed, literal_is}
use Rattle.stepper_objects.specs.declared.object_state.ObjectState.{ObjectState}
use Rattle.stepper_objects.specs.ObjectStates.{thing_object}
use Rattle.stepper_terms.specs.declared.contexts.Focus.{Focus}
use Rattle.stepper_terms.specs.declared.contexts.Focus.TheVariants as W
use Rattle.stepper_terms.specs.declared.contexts.Task.{Task}
use Rattle.stepper_terms.specs.declared.contexts.Task.TheVariants as K
use Rattle.stepper_terms.specs.declared.contexts.Activation.{Activation}
use Rattle.stepper_terms.specs.Arguments.{now_choices, task_choices}
use Rattle.stepper_terms.specs.Parts.{stopped, layers, bottom, left}
use Rattle.stepper_terms.specs.Reduced.{task_redex}
use Rattle.stepper_terms.proofs.Laws.{statement_next}
use Rattle.pool_semantics.specs.Sound.{Sound}

-- a redex that is a choice has few alternatives
abbrev HasFew : Reducible → Type 0
HasFew (Choose cs) = length cs ≤ 64
HasFew _ = Unit {0}

abbrev FindsFew : (X : Type 0) → Found X → Type 0
FindsFew X (Evaluated a) = Unit {0}
FindsFew X (At r t) = HasFew r

then_few : (X Y : Type 0) (f : Found X) (k : X → Found Y) → FindsFew X f → ((a : X) → f ≡ Evaluated a → FindsFew Y (k a)) → FindsFew Y (and_then f k)
then_few X Y (Evaluated a) k h g = g a refl
then_few X Y (At r t) k h g = h

post_few : (c : Option ℕ) (f : Found (Unit {0})) → FindsFew (Unit {0}) f → FindsFew (Unit {0}) (in_post c f)
post_few None f h = h
post_few (Some k) f h = tt

-- as many as there is room for behind this number
guards_count : (g : Scope) (i : ℕ) (t : Store) (alts : Alternatives) (cs : List Choice) → alternatives_faults g i alts ≡ [] → guards_redex t alts ≡ Evaluated cs → length cs ≤ 64 - i
guards_count g i t NoAlts cs n h = let s : [] ≡ cs = cc in subst (λ (l : List Choice). length l ≤ 64 - i) s (omega arith)
guards_count g i t (Alt e names ss alts) cs n h =
    let a = none2 {xs = expression_faults g i e} n in
    let b = none2 {xs = needs g BoolSort e} a.1 in
    let c = none2 {xs = answer_faults g names} b.1 in
    let d = none2 {xs = statements_faults g ss} c.1 in
    let v = passed (expression_redex t e) _ cs h in
    let w = passed (guards_redex t alts) _ cs v.2 in
    let lit = literal_is t e v.0 v.1 in
    let f = none2 {xs = limit_faults i lit.0} (sym (ap (expression_faults g i) lit.1) ∙ a.0) in
    let room : nat_le 64 i ≡ false = no_fault_if _ _ _ f.0 in
    let under : i < 64 = leb-false 64 i room in
    let more : length w.0 ≤ 64 - (i + 1) = guards_count g (i + 1) t alts w.0 d.1 w.1 in
    let one : Choice = record { guard = v.0; answer = names; work = ss } in
    let same : one ∷ w.0 ≡ cs = cc in
    subst (λ (l : List Choice). length l ≤ 64 - i) same (omega (arith, under, more))

mutual
  expression_few : (g : Scope) (h : ℕ) (t : Store) (e : Expression) → expression_faults g h e ≡ [] → FindsFew Value (expression_redex t e)
  expression_few g h t (Literal v p) n = tt
  expression_few g h t (Me p) n = tt
  expression_few g h t (Variable x p) n = tt
  expression_few g h t (Create c p) n = tt
  expression_few g h t (Prefix op e p) n =
      let a = none2 {xs = limit_faults h p} n in
      let b = none2 {xs = expression_faults g h e} a.1 in
      then_few Value Value (expression_redex t e) (λ v. At (R.Unary op v) t) (expression_few g h t e b.0) (λ v i. tt)
  expression_few g h t (Infix op l r p) n =
      let a = none2 {xs = limit_faults h p} n in
      let b = none2 {xs = expression_faults g h l} a.1 in
      let d = none2 {xs = expression_faults g (h + 1) r} b.1 in
      then_few Value Value (expression_redex t l) (λ v. and_then (expression_redex t r) (λ w. At (R.Binary op v w) t)) (expression_few g h t l b.0)
      (λ v i. then_few Value Value (expression_redex t r) (λ w. At (R.Binary op v w) t) (expression_few g (h + 1) t r d.0) (λ w j. tt))
  expression_few g h t (Call m es p) n =
      let a = none2 {xs = limit_faults h p} n in
      let b = none2 {xs = method_faults (own_method g m) (size es) p} a.1 in
      then_few (List Value) Value (expressions_redex t es) (λ vs. At (R.Invoke m vs) t) (arguments_few g h (params_of (own_method g m)) t es b.1) (λ vs i. tt)
  expression_few g h t (Send e m es p) n =
      let a = none2 {xs = limit_faults h p} n in
      let b = none2 {xs = expression_faults g h e} a.1 in
      let d = none2 {xs = destination_faults g (sort_of g e) m (size es) p (position e)} b.1 in
      then_few Value Value (expression_redex t e) (λ v. and_then (expressions_redex t es) (λ vs. At (R.SynchronousSend v m vs) t)) (expression_few g h t e b.0)
      (λ v i. then_few (List Value) Value (expressions_redex t es) (λ vs. At (R.SynchronousSend v m vs) t) (arguments_few g (h + 1) (params_of (sent_method g (sort_of g e) m)) t es d.1) (λ vs j. tt))
  expression_few g h t (Frame m u ss e qs) n =
      let a = none2 {xs = statements_faults (inside g m) ss} n in
      let b = none2 {xs = expression_faults (inside g m) 0 e} a.1 in
      let d = none2 {xs = value_needs (inside g m) (own_method g m) e} b.1 in
      then_few (Unit {0}) Value (statements_redex u ss) (λ done. and_then (expression_redex u e) (λ v. and_then (in_post None (statements_redex u qs)) (λ over. At (R.Leave v) u))) (statements_few (inside g m) u ss a.0)
      (λ done i. then_few Value Value (expression_redex u e) (λ v. and_then (in_post None (statements_redex u qs)) (λ over. At (R.Leave v) u)) (expression_few (inside g m) 0 u e b.0)
      (λ v j. then_few (Unit {0}) Value (in_post None (statements_redex u qs)) (λ over. At (R.Leave v) u) (post_few None (statements_redex u qs) (statements_few (behind_value (inside g m)) u qs d.1)) (λ over k. tt)))
  expression_few g h t (Wait b m) n = tt

  arguments_few : (g : Scope) (h : ℕ) (vs : List Var) (t : Store) (es : Expressions) → arguments_faults g h vs es ≡ [] → FindsFew (List Value) (expressions_redex t es)
  arguments_few g h vs t NoArgs n = tt
  arguments_few g h [] t (Arg e es) n =
      let a = none2 {xs = expression_faults g h e} n in
      let b = none2 {xs = needs_any g e} a.1 in
      then_few Value (List Value) (expression_redex t e) (λ v. and_then (expressions_redex t es) (λ ws. Evaluated (v ∷ ws))) (expression_few g h t e a.0)
      (λ v i. then_few (List Value) (List Value) (expressions_redex t es) (λ ws. Evaluated (v ∷ ws)) (arguments_few g (h + 1) [] t es b.1) (λ ws j. tt))
  arguments_few g h (x ∷ vs) t (Arg e es) n =
      let a = none2 {xs = expression_faults g h e} n in
      let b = none2 {xs = needs g (kind_sort g.program x.kind) e} a.1 in
      then_few Value (List Value) (expression_redex t e) (λ v. and_then (expressions_redex t es) (λ ws. Evaluated (v ∷ ws))) (expression_few g h t e a.0)
      (λ v i. then_few (List Value) (List Value) (expressions_redex t es) (λ ws. Evaluated (v ∷ ws)) (arguments_few g (h + 1) vs t es b.1) (λ ws j. tt))

  statement_few : (g : Scope) (t : Store) (s : Statement) → statement_faults g s ≡ [] → FindsFew (Unit {0}) (statement_redex t s)
  statement_few g t (Assign x p e) n =
      let a = none2 {xs = fault_if (is_broken_name g x) p N.unknown_variable} n in
      let b = none2 {xs = expression_faults g g.held e} a.1 in
      then_few Value (Unit {0}) (expression_redex t e) (λ v. At (R.Set x v) t) (expression_few g g.held t e b.0) (λ v i. tt)
  statement_few g t (Write e) n =
      let a = none2 {xs = expression_faults g g.held e} n in
      then_few Value (Unit {0}) (expression_redex t e) _ (expression_few g g.held t e a.0) (λ v i. tt)
  statement_few g t (WriteText s) n = tt
  statement_few g t (Do e) n = then_few Value (Unit {0}) (expression_redex t e) (λ v. At (R.Drop v) t) (expression_few g g.held t e n) (λ v i. tt)
  statement_few g t (Async e m p es) n =
      let a = none2 {xs = expression_faults g g.held e} n in
      let b = none2 {xs = destination_faults g (sort_of g e) m (size es) p (position e)} a.1 in
      then_few Value (Unit {0}) (expression_redex t e) (λ v. and_then (expressions_redex t es) (λ vs. At (R.Post v m vs) t)) (expression_few g g.held t e a.0)
      (λ v i. then_few (List Value) (Unit {0}) (expressions_redex t es) (λ vs. At (R.Post v m vs) t) (arguments_few g (g.held + 1) (params_of (sent_method g (sort_of g e) m)) t es b.1) (λ vs j. tt))
  statement_few g t (If e these those) n =
      let a = none2 {xs = expression_faults g g.held e} n in
      then_few Value (Unit {0}) (expression_redex t e) (λ v. At (R.Branch v these those) t) (expression_few g g.held t e a.0) (λ v i. tt)
  statement_few g t (While e ss) n = tt
  statement_few g t (Answer names) n = tt
  statement_few g t (Select alts) n =
      then_few (List Choice) (Unit {0}) (guards_redex t alts) (λ cs. At (Choose cs) t) (guards_few g g.held t alts n)
      (λ cs i. let c : length cs ≤ 64 - g.held = guards_count g g.held t alts cs n i in omega (arith, c))
  statement_few g t (Serve m k u ss e qs) n =
      let a = none2 {xs = statements_faults (inside g m) ss} n in
      let b = none2 {xs = expression_faults (inside g m) 0 e} a.1 in
      let d = none2 {xs = value_needs (inside g m) (own_method g m) e} b.1 in
      then_few (Unit {0}) (Unit {0}) (statements_redex u ss) (λ done. and_then (expression_redex u e) (λ v. and_then (in_post k (statements_redex u qs)) (λ over. At (R.Finish k v (left_served k m u ss e qs)) u))) (statements_few (inside g m) u ss a.0)
      (λ done i. then_few Value (Unit {0}) (expression_redex u e) (λ v. and_then (in_post k (statements_redex u qs)) (λ over. At (R.Finish k v (left_served k m u ss e qs)) u)) (expression_few (inside g m) 0 u e b.0)
      (λ v j. then_few (Unit {0}) (Unit {0}) (in_post k (statements_redex u qs)) (λ over. At (R.Finish k v (left_served k m u ss e qs)) u) (post_few k (statements_redex u qs) (statements_few (behind_value (inside g m)) u qs d.1)) (λ over l. tt)))

  statements_few : (g : Scope) (t : Store) (ss : Statements) → statements_faults g ss ≡ [] → FindsFew (Unit {0}) (statements_redex t ss)
  statements_few g t Done n = tt
  statements_few g t (Then s ss) n = let a = none2 {xs = statement_faults g s} n in statement_few g t s a.0

  guards_few : (g : Scope) (i : ℕ) (t : Store) (alts : Alternatives) → alternatives_faults g i alts ≡ [] → FindsFew (List Choice) (guards_redex t alts)
  guards_few g i t NoAlts n = tt
  guards_few g i t (Alt e names ss alts) n =
      let a = none2 {xs = expression_faults g i e} n in
      let b = none2 {xs = needs g BoolSort e} a.1 in
      let c = none2 {xs = answer_faults g names} b.1 in
      let d = none2 {xs = statements_faults g ss} c.1 in
      then_few Value (List Choice) (expression_redex t e) (λ v. and_then (guards_redex t alts) (λ cs. Evaluated (record { guard = v; answer = names; work = ss } ∷ cs))) (expression_few g i t e a.0)
      (λ v j. then_few (List Choice) (List Choice) (guards_redex t alts) (λ cs. Evaluated (record { guard = v; answer = names; work = ss } ∷ cs)) (guards_few g (i + 1) t alts d.1) (λ cs k. tt))

-- of the code's parts
task_few : (k : Task) → HasFew (task_redex k) → length (task_choices k) ≤ 64
task_few (K.Select gs) h = h
task_few _ h = omega arith

next_few : (g : Scope) (xs : List Activation) (n : Focus) → statements_faults g (bottom (layers xs (stopped n))) ≡ [] → length (now_choices n) ≤ 64
next_few g xs (W.Statement k gs) h =
    task_few k (subst (FindsFew (Unit {0})) (statement_next xs k (left gs.items)) (statements_few g [] (bottom (layers xs (stopped (W.Statement k gs)))) h))
next_few g xs _ h = omega arith

pub few_alternatives : (p : ProgramTree) (c : Configuration) (o : ℕ) (t : ObjectState) → Sound p c → object_of c o ≡ Some (thing_object t) → length (now_choices t.work.next) ≤ 64
few_alternatives p c o t s e = next_few (scope p c t.class) t.work.calls.items t.work.next (s.typed.term o (thing_object t) e)
