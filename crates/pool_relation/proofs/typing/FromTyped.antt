-- The terms of a typed configuration pass the single test of typed parts.
use Rattle.std.proofs.Common.{◌≡◌, refl, IsTrue, ℕ, ◌+◌, List, [], ◌∷◌, Option, Some, None, is_some, is_none, Bool, true, false, not, ◌&&◌, if◌then◌else◌, arith}
use Rattle.run_types.specs.declared.types.Value.{Value}
use Rattle.pool_syntax.specs.declared.tree.Var.{Var}
use Rattle.pool_syntax.specs.Terms.{Store, Expression, Literal, Me, Variable, Create, Prefix, Infix, Call, Send, Frame, Wait, Expressions, NoArgs, Arg, Statement, Assign, Write, WriteText, Do, Async, If, While, Answer, Select, Serve, Statements, Done, Then, Alternatives, NoAlts, Alt}
use Rattle.pool_syntax.specs.Typing.{Scope, sort_of, position, inside, behind_value, own_method, params_of, sent_method, temps_of_method, size, kind_sort, name_sort, expression_faults, arguments_faults, statement_faults, statements_faults, alternatives_faults}
use Rattle.run_types.specs.Sorts.{BoolSort, operand_sort}
use Rattle.pool_relation.specs.Reducible.{Found, Evaluated, At, Waiting, is_value, is_done, expression_redex, expressions_redex, statement_redex, statements_redex, guards_redex}
use Rattle.pool_syntax.specs.SourceParts.{is_source, are_source, are_source_statements, are_source_alternatives, is_prefix}
use Rattle.pool_relation.specs.Typed.{is_store_of, is_sound, are_sound, is_sound_statement, are_sound_statements, are_sound_alternatives, has_room, is_value_of}
use Rattle.run_types.proofs.Laws.{first, second, not_true, true_not}
use Rattle.pool_relation.proofs.typing.TypedTerm.{Holds, Nothing, Waits, past, TypedExpression, TypedArguments, TypedStatement, TypedStatements, TypedAlternatives}
use Rattle.pool_relation.proofs.redex.RedexSearch.{value_found}
use Rattle.pool_relation.proofs.typing.Faults.{none2, none3, none4, none5, no_fault_if, room_of, sort_of_none, fits_of_none, operands_of_none, takes_of_none, destination_of_none, gives_of_none}
use Rattle.pool_relation.proofs.typing.Weakening.{nothing_below, statements_weaker}
use Rattle.pool_relation.proofs.typing.ToTyped.{are_sound_behind}
use Rattle.pool_relation.proofs.typing.SourceIsTyped.{expression_written, arguments_written, statements_written, alternatives_written}

-- an object that a part waits for is there
abbrev pub WaitKnown : {A : Type 0} → Scope → Found A → Type 0
WaitKnown {A} g f = (b m : ℕ) (u : Store) → f ≡ At (Waiting b m) u → IsTrue (is_some (g.object_class b))

value_from : (k : Holds) (g : Scope) (h : ℕ) (e : Expression) → is_value e ≡ true → expression_faults g h e ≡ [] → TypedExpression k g h e
value_from k g h (Literal v p) i f = let n = none2 f in (room_of h p n.0, no_fault_if _ _ _ n.1)
value_from k g h _ i f = absurd (grind (arith, i))

-- an expression and what stands behind it: the one or the other holds the redex
in_turn : (g : Scope) (h : ℕ) (t : Store) (e : Expression) (Rest : Holds → Type 0) (x y z : Bool) → expression_faults g h e ≡ []
    → (IsTrue y → TypedExpression Waits g h e) → (IsTrue x → (v : Value) → expression_redex t e ≡ Evaluated v → Rest Waits)
    → (IsTrue z → Rest Nothing)
    → IsTrue (if is_value e then x else (y && z)) → TypedExpression Waits g h e × Rest (past (is_value e) Waits)
in_turn g h t e Rest x y z f to behind plain s = by (is_value e) refl
  where
    by : (b : Bool) → is_value e ≡ b → TypedExpression Waits g h e × Rest (past (is_value e) Waits)
    by true i = let v = value_found t e i in let s' : IsTrue x = rw i at s in (value_from Waits g h e i f, rw i (behind s' v.0 v.1))
    by false i = let s' : IsTrue (y && z) = rw i at s in (to (first y z s'), rw i (plain (second y z s')))

-- the statements of a method under way for the caller, or for no one, its value and its post statements
in_method : (g : Scope) (c : Option ℕ) (t : Store) (ss : Statements) (e : Expression) (qs : Statements) → expression_faults g 0 e ≡ []
    → statements_faults (behind_value g) qs ≡ []
    → (IsTrue (are_sound_statements g ss) → TypedStatements Waits g ss)
    → (IsTrue (is_sound g 0 e) → ss ≡ Done → TypedExpression Waits g 0 e)
    → (IsTrue (are_sound_statements (behind_value g) qs) → ss ≡ Done → (v : Value) → expression_redex t e ≡ Evaluated v → c ≡ None → TypedStatements Waits (behind_value g) qs)
    → IsTrue (if is_done ss then are_sound_behind g c e qs else (are_sound_statements g ss && is_source e && are_source_statements qs))
    → TypedStatements Waits g ss × TypedExpression (past (is_done ss) Waits) g 0 e
    × TypedStatements (past (is_done ss) (past (is_value e) (past (is_none c) Waits))) (behind_value g) qs
in_method g c t (Then f ss) e qs fe fq body value post s =
    let x = first _ (are_source_statements qs) s in (
      body (first (are_sound_statements g (Then f ss)) (is_source e) x),
      expression_written g 0 e fe (second (are_sound_statements g (Then f ss)) (is_source e) x),
      statements_written (behind_value g) qs fq (second _ (are_source_statements qs) s),
    )
in_method g (Some k) t Done e qs fe fq body value post s = (
  tt,
  value (first (is_sound g 0 e) (are_source_statements qs) s) refl,
  statements_weaker Nothing (past (is_value e) Nothing) (behind_value g) qs (nothing_below _) (statements_written (behind_value g) qs fq (second (is_sound g 0 e) (are_source_statements qs) s)),
)
in_method g None t Done e qs fe fq body value post s = by (is_value e) refl
  where
    by : (b : Bool) → is_value e ≡ b
        → TypedStatements Waits g Done × TypedExpression Waits g 0 e × TypedStatements (past (is_value e) Waits) (behind_value g) qs
    by true i =
        let v = value_found t e i in
        let s' : IsTrue (are_sound_statements (behind_value g) qs) = rw i at s in
        (tt, value_from Waits g 0 e i fe, rw i (post s' refl v.0 v.1 refl))
    by false i =
        let s' : IsTrue (is_sound g 0 e && are_source_statements qs) = rw i at s in
        (tt, value (first (is_sound g 0 e) _ s') refl, rw i (statements_written (behind_value g) qs fq (second (is_sound g 0 e) _ s')))

mutual
  pub expression_from : (g : Scope) (h : ℕ) (t : Store) (e : Expression) → expression_faults g h e ≡ []
      → IsTrue (is_sound g h e) → WaitKnown g (expression_redex t e) → TypedExpression Waits g h e
  expression_from g h t (Literal v p) f s k = let n = none2 f in (room_of h p n.0, no_fault_if _ _ _ n.1)
  expression_from g h t (Me p) f s k = room_of h p f
  expression_from g h t (Variable x p) f s k = let n = none2 f in (room_of h p n.0, no_fault_if _ _ _ n.1)
  expression_from g h t (Create c p) f s k = let n = none2 f in (room_of h p n.0, true_not _ (no_fault_if _ _ _ n.1))
  expression_from g h t (Prefix op e p) f s k =
      let n = none3 f in (
        room_of h p n.0,
        first (is_prefix op) (is_sound g h e) s,
        expression_from g h t e n.1 (second (is_prefix op) (is_sound g h e) s) (λ b m u q. k b m u (rw q refl)),
        fits_of_none (sort_of g e) (operand_sort op) (position e) n.2,
      )
  expression_from g h t (Infix op l r p) f s k =
      let n = none4 f in
      let y = in_turn g h t l (λ j. TypedExpression j g (h + 1) r) (is_sound g (h + 1) r) (is_sound g h l) (is_source r) n.1
      (λ i. expression_from g h t l n.1 i (λ b m u q. k b m u (rw q refl)))
      (λ i v e. expression_from g (h + 1) t r n.2 i (λ b m u q. k b m u (rw (e, q) refl)))
      (λ i. expression_written g (h + 1) r n.2 i) (second (not (is_prefix op)) _ s) in
      (room_of h p n.0, not_true _ (first (not (is_prefix op)) _ s), y.0, y.1, operands_of_none g op l r n.3)
  expression_from g h t (Call m es p) f s k =
      let n = none3 f in
      (room_of h p n.0, takes_of_none (own_method g m) (size es) p n.1, arguments_from g h (params_of (own_method g m)) t es n.2 s (λ b m u q. k b m u (rw q refl)))
  expression_from g h t (Send e m es p) f s k =
      let n = none4 f in
      let ps = params_of (sent_method g (sort_of g e) m) in
      let y = in_turn g h t e (λ j. TypedArguments j g (h + 1) ps es) (are_sound g (h + 1) es) (is_sound g h e) (are_source es) n.1
      (λ i. expression_from g h t e n.1 i (λ b m u q. k b m u (rw q refl)))
      (λ i v a. arguments_from g (h + 1) ps t es n.3 i (λ b m u q. k b m u (rw (a, q) refl)))
      (λ i. arguments_written g (h + 1) ps es n.3 i) s in
      (room_of h p n.0, y.0, destination_of_none g (sort_of g e) m (size es) p (position e) n.2, y.1)
  expression_from g h t (Frame m a ss e qs) f s k =
      let n = none4 f in
      let i = inside g m in
      let x = first _ (if is_done ss then are_sound_behind i None e qs else (are_sound_statements i ss && is_source e && are_source_statements qs)) s in
      let z = first _ (is_value_of (own_method g m) e) x in
      let y = in_method i None a ss e qs n.1 n.3
      (λ q. statements_from i a ss n.0 q (λ b m u q. k b m u (rw q refl)))
      (λ q d. expression_from i 0 a e n.1 q (λ b m u q. k b m u (rw (d, q) refl)))
      (λ q d v w o. statements_from (behind_value i) a qs n.3 q (λ b m u q. k b m u (rw (d, w, q) refl)))
      (second (has_room h && is_store_of g (temps_of_method (own_method g m)) a && is_value_of (own_method g m) e) _ s) in (
        refl,
        first (has_room h) (is_store_of g (temps_of_method (own_method g m)) a) z,
        second (has_room h) (is_store_of g (temps_of_method (own_method g m)) a) z,
        y.0,
        y.1,
        gives_of_none i (own_method g m) e n.2,
        second (has_room h && is_store_of g (temps_of_method (own_method g m)) a) (is_value_of (own_method g m) e) x,
        y.2,
      )
  expression_from g h t (Wait b m) f s k = (refl, s, k b m t refl)

  arguments_from : (g : Scope) (h : ℕ) (vs : List Var) (t : Store) (es : Expressions)
      → arguments_faults g h vs es ≡ [] → IsTrue (are_sound g h es)
      → WaitKnown g (expressions_redex t es) → TypedArguments Waits g h vs es
  arguments_from g h vs t NoArgs f s k = tt
  arguments_from g h [] t (Arg e es) f s k =
      let n = none3 f in
      let y = in_turn g h t e (λ j. TypedArguments j g (h + 1) [] es) (are_sound g (h + 1) es) (is_sound g h e) (are_source es) n.0
      (λ i. expression_from g h t e n.0 i (λ b m u q. k b m u (rw q refl)))
      (λ i v a. arguments_from g (h + 1) [] t es n.2 i (λ b m u q. k b m u (rw (a, q) refl)))
      (λ i. arguments_written g (h + 1) [] es n.2 i) s in
      (y.0, sort_of_none (sort_of g e) (position e) n.1, y.1)
  arguments_from g h (v ∷ vs) t (Arg e es) f s k =
      let n = none3 f in
      let y = in_turn g h t e (λ j. TypedArguments j g (h + 1) vs es) (are_sound g (h + 1) es) (is_sound g h e) (are_source es) n.0
      (λ i. expression_from g h t e n.0 i (λ b m u q. k b m u (rw q refl)))
      (λ i v a. arguments_from g (h + 1) vs t es n.2 i (λ b m u q. k b m u (rw (a, q) refl)))
      (λ i. arguments_written g (h + 1) vs es n.2 i) s in
      (y.0, fits_of_none (sort_of g e) (kind_sort g.program v.kind) (position e) n.1, y.1)

  statement_from : (g : Scope) (t : Store) (s : Statement) → statement_faults g s ≡ []
      → IsTrue (is_sound_statement g s) → WaitKnown g (statement_redex t s) → TypedStatement Waits g s
  statement_from g t (Assign x p e) f s k =
      let n = none3 f in
      (no_fault_if _ _ _ n.0, expression_from g g.held t e n.1 s (λ b m u q. k b m u (rw q refl)), fits_of_none (sort_of g e) (name_sort g x) (position e) n.2)
  statement_from g t (Write e) f s k =
      let n = none2 f in (expression_from g g.held t e n.0 s (λ b m u q. k b m u (rw q refl)), sort_of_none (sort_of g e) (position e) n.1)
  statement_from g t (WriteText n) f s k = tt
  statement_from g t (Do e) f s k = expression_from g g.held t e f s (λ b m u q. k b m u (rw q refl))
  statement_from g t (Async e m p es) f s k =
      let n = none3 f in
      let ps = params_of (sent_method g (sort_of g e) m) in
      let y = in_turn g g.held t e (λ j. TypedArguments j g (g.held + 1) ps es) (are_sound g (g.held + 1) es) (is_sound g g.held e) (are_source es) n.0
      (λ i. expression_from g g.held t e n.0 i (λ b m u q. k b m u (rw q refl)))
      (λ i v a. arguments_from g (g.held + 1) ps t es n.2 i (λ b m u q. k b m u (rw (a, q) refl)))
      (λ i. arguments_written g (g.held + 1) ps es n.2 i) s in
      (y.0, destination_of_none g (sort_of g e) m (size es) p (position e) n.1, y.1)
  statement_from g t (If e these those) f s k =
      let n = none4 f in
      let x = first _ (are_source_statements those) s in (
        expression_from g g.held t e n.0 (first (is_sound g g.held e) (are_source_statements these) x) (λ b m u q. k b m u (rw q refl)),
        fits_of_none (sort_of g e) BoolSort (position e) n.1,
        statements_written g these n.2 (second (is_sound g g.held e) (are_source_statements these) x),
        statements_written g those n.3 (second _ (are_source_statements those) s),
      )
  statement_from g t (While e ss) f s k =
      let n = none3 f in (
        expression_written g g.held e n.0 (first (is_source e) (are_source_statements ss) s),
        fits_of_none (sort_of g e) BoolSort (position e) n.1,
        statements_written g ss n.2 (second (is_source e) (are_source_statements ss) s),
      )
  statement_from g t (Answer names) f s k = f
  statement_from g t (Select alts) f s k = alternatives_from g g.held t alts f s (λ b m u q. k b m u (rw q refl))
  statement_from g t (Serve m c a ss e qs) f s k =
      let n = none4 f in
      let i = inside g m in
      let x = first _ (if is_done ss then are_sound_behind i c e qs else (are_sound_statements i ss && is_source e && are_source_statements qs)) s in
      let y = in_method i c a ss e qs n.1 n.3
      (λ q. statements_from i a ss n.0 q (λ b m u q. k b m u (rw q refl)))
      (λ q d. expression_from i 0 a e n.1 q (λ b m u q. k b m u (rw (d, q) refl)))
      (λ q d v w o. statements_from (behind_value i) a qs n.3 q (λ b m u q. k b m u (rw (d, w, o, q) refl)))
      (second (is_store_of g (temps_of_method (own_method g m)) a && is_value_of (own_method g m) e) _ s) in (
        refl,
        first (is_store_of g (temps_of_method (own_method g m)) a) (is_value_of (own_method g m) e) x,
        y.0,
        y.1,
        gives_of_none i (own_method g m) e n.2,
        second (is_store_of g (temps_of_method (own_method g m)) a) (is_value_of (own_method g m) e) x,
        y.2,
      )

  pub statements_from : (g : Scope) (t : Store) (ss : Statements) → statements_faults g ss ≡ []
      → IsTrue (are_sound_statements g ss) → WaitKnown g (statements_redex t ss) → TypedStatements Waits g ss
  statements_from g t Done f s k = tt
  statements_from g t (Then a ss) f s k =
      let n = none2 f in (
        statement_from g t a n.0 (first (is_sound_statement g a) (are_source_statements ss) s) k,
        statements_written g ss n.1 (second (is_sound_statement g a) (are_source_statements ss) s),
      )

  alternatives_from : (g : Scope) (i : ℕ) (t : Store) (alts : Alternatives) → alternatives_faults g i alts ≡ []
      → IsTrue (are_sound_alternatives g i alts) → WaitKnown g (guards_redex t alts) → TypedAlternatives Waits g i alts
  alternatives_from g i t NoAlts f s k = tt
  alternatives_from g i t (Alt e names ss alts) f s k =
      let n = none5 f in
      let y = in_turn g i t e (λ j. TypedAlternatives j g (i + 1) alts) (are_sound_alternatives g (i + 1) alts) (is_sound g i e) (are_source_alternatives alts) n.0
      (λ a. expression_from g i t e n.0 a (λ b m u q. k b m u (rw q refl)))
      (λ a v c. alternatives_from g (i + 1) t alts n.4 a (λ b m u q. k b m u (rw (c, q) refl)))
      (λ a. alternatives_written g (i + 1) alts n.4 a) (second (are_source_statements ss) _ s) in (
        y.0,
        fits_of_none (sort_of g e) BoolSort (position e) n.1,
        n.2,
        statements_written g ss n.3 (first (are_source_statements ss) _ s),
        y.1,
      )
