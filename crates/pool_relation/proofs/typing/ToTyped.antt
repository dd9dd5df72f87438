-- The single test of typed parts implies the absence of class faults, and soundness.
use Rattle.std.proofs.Common.{◌≡◌, refl, IsTrue, ℕ, ◌+◌, List, [], ◌∷◌, Option, Some, None, is_none, Bool, true, false, ◌&&◌, if◌then◌else◌}
use Rattle.pool_syntax.specs.declared.tree.Var.{Var}
use Rattle.pool_syntax.specs.Terms.{Expression, Literal, Me, Variable, Create, Prefix, Infix, Call, Send, Frame, Wait, Expressions, NoArgs, Arg, Statement, Assign, Write, WriteText, Do, Async, If, While, Answer, Select, Serve, Statements, Done, Then, Alternatives, NoAlts, Alt}
use Rattle.pool_syntax.specs.Typing.{Scope, sort_of, position, inside, behind_value, own_method, params_of, sent_method, size, kind_sort, name_sort, expression_faults, arguments_faults, statement_faults, statements_faults, alternatives_faults}
use Rattle.run_types.specs.Sorts.{BoolSort, operand_sort}
use Rattle.pool_relation.specs.Reducible.{is_value, is_done}
use Rattle.pool_syntax.specs.SourceParts.{is_source, are_source, is_source_statement, are_source_statements, are_source_alternatives}
use Rattle.pool_relation.specs.Typed.{is_sound, are_sound, is_sound_statement, are_sound_statements, are_sound_alternatives}
use Rattle.run_types.proofs.Laws.{both}
use Rattle.pool_relation.proofs.typing.TypedTerm.{Holds, Nothing, past, TypedExpression, TypedArguments, TypedStatement, TypedStatements, TypedAlternatives}
use Rattle.pool_relation.proofs.typing.Weakening.{past_below_all, expression_weaker, statements_weaker, arguments_weaker, alternatives_weaker}
use Rattle.pool_relation.proofs.typing.Faults.{empty2, empty3, empty4, empty5, fault_if_none, limit_of, none_of_sort, none_of_fits, none_of_operands, none_of_takes, none_of_destination, none_of_gives}

-- where nothing is under way, the part is source
mutual
  pub expression_plain : (g : Scope) (h : ℕ) (e : Expression) → TypedExpression Nothing g h e → IsTrue (is_source e)
  expression_plain g h (Literal v p) t = refl
  expression_plain g h (Me p) t = refl
  expression_plain g h (Variable x p) t = refl
  expression_plain g h (Create c p) t = refl
  expression_plain g h (Prefix op e p) t = both _ _ t.1 (expression_plain g h e t.2)
  expression_plain g h (Infix op l r p) t =
      both _ _ (both _ _ (rw t.1 refl) (expression_plain g h l t.2)) (expression_plain g (h + 1) r (expression_weaker (past (is_value l) Nothing) Nothing g (h + 1) r (past_below_all (is_value l) Nothing) t.3))
  expression_plain g h (Call m es p) t = arguments_plain g h (params_of (own_method g m)) es t.2
  expression_plain g h (Send e m es p) t =
      let ps = params_of (sent_method g (sort_of g e) m) in
      both _ _ (expression_plain g h e t.1) (arguments_plain g (h + 1) ps es (arguments_weaker (past (is_value e) Nothing) Nothing g (h + 1) ps es (past_below_all (is_value e) Nothing) t.3))
  expression_plain g h (Frame m u ss e qs) t = t.0
  expression_plain g h (Wait b m) t = t.0

  pub arguments_plain : (g : Scope) (h : ℕ) (vs : List Var) (es : Expressions) → TypedArguments Nothing g h vs es → IsTrue (are_source es)
  arguments_plain g h vs NoArgs t = refl
  arguments_plain g h [] (Arg e es) t =
      both _ _ (expression_plain g h e t.0) (arguments_plain g (h + 1) [] es (arguments_weaker (past (is_value e) Nothing) Nothing g (h + 1) [] es (past_below_all (is_value e) Nothing) t.2))
  arguments_plain g h (v ∷ vs) (Arg e es) t =
      both _ _ (expression_plain g h e t.0) (arguments_plain g (h + 1) vs es (arguments_weaker (past (is_value e) Nothing) Nothing g (h + 1) vs es (past_below_all (is_value e) Nothing) t.2))

  statement_plain : (g : Scope) (s : Statement) → TypedStatement Nothing g s → IsTrue (is_source_statement s)
  statement_plain g (Assign x p e) t = expression_plain g g.held e t.1
  statement_plain g (Write e) t = expression_plain g g.held e t.0
  statement_plain g (WriteText s) t = refl
  statement_plain g (Do e) t = expression_plain g g.held e t
  statement_plain g (Async e m p es) t =
      let ps = params_of (sent_method g (sort_of g e) m) in
      both _ _ (expression_plain g g.held e t.0) (arguments_plain g (g.held + 1) ps es (arguments_weaker (past (is_value e) Nothing) Nothing g (g.held + 1) ps es (past_below_all (is_value e) Nothing) t.2))
  statement_plain g (If e these those) t =
      both _ _ (both _ _ (expression_plain g g.held e t.0) (statements_plain g these t.2)) (statements_plain g those t.3)
  statement_plain g (While e ss) t = both _ _ (expression_plain g g.held e t.0) (statements_plain g ss t.2)
  statement_plain g (Answer names) t = refl
  statement_plain g (Select alts) t = alternatives_plain g g.held alts t
  statement_plain g (Serve m o u ss e qs) t = t.0

  pub statements_plain : (g : Scope) (ss : Statements) → TypedStatements Nothing g ss → IsTrue (are_source_statements ss)
  statements_plain g Done t = refl
  statements_plain g (Then s ss) t = both _ _ (statement_plain g s t.0) (statements_plain g ss t.1)

  pub alternatives_plain : (g : Scope) (i : ℕ) (alts : Alternatives) → TypedAlternatives Nothing g i alts
      → IsTrue (are_source_alternatives alts)
  alternatives_plain g i NoAlts t = refl
  alternatives_plain g i (Alt e names ss alts) t =
      both _ _ (both _ _ (expression_plain g i e t.0) (statements_plain g ss t.3)) (alternatives_plain g (i + 1) alts (alternatives_weaker (past (is_value e) Nothing) Nothing g (i + 1) alts (past_below_all (is_value e) Nothing) t.4))

-- a part behind another
choose : (b x y z : Bool) → IsTrue x → IsTrue y → (b ≡ false → IsTrue z) → IsTrue (if b then x else (y && z))
choose true x y z p q r = p
choose false x y z p q r = both y z q (r refl)

-- the value of a method for the caller, or for no one, and its post statements
abbrev pub are_sound_behind : Scope → Option ℕ → Expression → Statements → Bool
are_sound_behind g c e qs =
    if is_none c && is_value e then are_sound_statements (behind_value g) qs else is_sound g 0 e && are_source_statements qs

behind_sound : (k : Holds) (g : Scope) (c : Option ℕ) (e : Expression) (qs : Statements) → IsTrue (is_sound g 0 e) → IsTrue (are_sound_statements (behind_value g) qs)
    → TypedStatements (past (is_value e) (past (is_none c) k)) (behind_value g) qs → IsTrue (are_sound_behind g c e qs)
behind_sound k g None e qs a b t = choose (is_value e) _ _ _ b a (λ i. statements_plain (behind_value g) qs (rw i at t))
behind_sound k g (Some o) e qs a b t =
    both _ _ a (statements_plain (behind_value g) qs (statements_weaker (past (is_value e) Nothing) Nothing (behind_value g) qs (past_below_all (is_value e) Nothing) t))

method_sound : (k : Holds) (g : Scope) (c : Option ℕ) (ss : Statements) (e : Expression) (qs : Statements) → IsTrue (are_sound_statements g ss) → IsTrue (is_sound g 0 e)
    → IsTrue (are_sound_statements (behind_value g) qs) → TypedExpression (past (is_done ss) k) g 0 e
    → TypedStatements (past (is_done ss) (past (is_value e) (past (is_none c) k))) (behind_value g) qs
    → IsTrue (if is_done ss then are_sound_behind g c e qs else (are_sound_statements g ss && is_source e && are_source_statements qs))
method_sound k g c Done e qs a b q t u = behind_sound k g c e qs b q u
method_sound k g c (Then f ss) e qs a b q t u = both _ _ (both _ _ a (expression_plain g 0 e t)) (statements_plain (behind_value g) qs u)

mutual
  pub expression_to : (k : Holds) (g : Scope) (h : ℕ) (e : Expression) → TypedExpression k g h e
      → (expression_faults g h e ≡ []) × IsTrue (is_sound g h e)
  expression_to k g h (Literal v p) t = (empty2 (limit_of h p t.0) (fault_if_none _ p 2 t.1), refl)
  expression_to k g h (Me p) t = (limit_of h p t, refl)
  expression_to k g h (Variable x p) t = (empty2 (limit_of h p t.0) (fault_if_none _ p 6 t.1), refl)
  expression_to k g h (Create c p) t = (empty2 (limit_of h p t.0) (fault_if_none _ p 2 (rw t.1 refl)), refl)
  expression_to k g h (Prefix op e p) t =
      let a = expression_to k g h e t.2 in
      (empty3 (limit_of h p t.0) a.0 (none_of_fits (sort_of g e) (operand_sort op) (position e) t.3), both _ _ t.1 a.1)
  expression_to k g h (Infix op l r p) t =
      let a = expression_to k g h l t.2 in
      let b = expression_to (past (is_value l) k) g (h + 1) r t.3 in
      let s : IsTrue (if is_value l then is_sound g (h + 1) r else (is_sound g h l && is_source r)) =
      choose (is_value l) _ _ _ b.1 a.1 (λ i. expression_plain g (h + 1) r (rw i at t.3)) in
      (empty4 (limit_of h p t.0) a.0 b.0 (none_of_operands g op l r t.4), both _ _ (rw t.1 refl) s)
  expression_to k g h (Call m es p) t =
      let a = arguments_to k g h (params_of (own_method g m)) es t.2 in
      (empty3 (limit_of h p t.0) (none_of_takes (own_method g m) (size es) p t.1) a.0, a.1)
  expression_to k g h (Send e m es p) t =
      let ps = params_of (sent_method g (sort_of g e) m) in
      let a = expression_to k g h e t.1 in
      let b = arguments_to (past (is_value e) k) g (h + 1) ps es t.3 in
      let s : IsTrue (if is_value e then are_sound g (h + 1) es else (is_sound g h e && are_source es)) =
      choose (is_value e) _ _ _ b.1 a.1 (λ i. arguments_plain g (h + 1) ps es (rw i at t.3)) in
      (empty4 (limit_of h p t.0) a.0 (none_of_destination g (sort_of g e) m (size es) p (position e) t.2) b.0, s)
  expression_to k g h (Frame m u ss e qs) t =
      let i = inside g m in
      let a = statements_to k i ss t.3 in
      let b = expression_to (past (is_done ss) k) i 0 e t.4 in
      let c = statements_to (past (is_done ss) (past (is_value e) k)) (behind_value i) qs t.7 in
      (empty4 a.0 b.0 (none_of_gives i (own_method g m) e t.5) c.0, both _ _ (both _ _ (both _ _ t.1 t.2) t.6) (method_sound k i None ss e qs a.1 b.1 c.1 t.4 t.7))
  expression_to k g h (Wait b m) t = (refl, t.1)

  arguments_to : (k : Holds) (g : Scope) (h : ℕ) (vs : List Var) (es : Expressions) → TypedArguments k g h vs es
      → (arguments_faults g h vs es ≡ []) × IsTrue (are_sound g h es)
  arguments_to k g h vs NoArgs t = (refl, refl)
  arguments_to k g h [] (Arg e es) t =
      let a = expression_to k g h e t.0 in
      let b = arguments_to (past (is_value e) k) g (h + 1) [] es t.2 in
      let s : IsTrue (if is_value e then are_sound g (h + 1) es else (is_sound g h e && are_source es)) =
      choose (is_value e) _ _ _ b.1 a.1 (λ i. arguments_plain g (h + 1) [] es (rw i at t.2)) in
      (empty3 a.0 (none_of_sort (sort_of g e) (position e) t.1) b.0, s)
  arguments_to k g h (v ∷ vs) (Arg e es) t =
      let a = expression_to k g h e t.0 in
      let b = arguments_to (past (is_value e) k) g (h + 1) vs es t.2 in
      let s : IsTrue (if is_value e then are_sound g (h + 1) es else (is_sound g h e && are_source es)) =
      choose (is_value e) _ _ _ b.1 a.1 (λ i. arguments_plain g (h + 1) vs es (rw i at t.2)) in
      (empty3 a.0 (none_of_fits (sort_of g e) (kind_sort g.program v.kind) (position e) t.1) b.0, s)

  statement_to : (k : Holds) (g : Scope) (s : Statement) → TypedStatement k g s
      → (statement_faults g s ≡ []) × IsTrue (is_sound_statement g s)
  statement_to k g (Assign x p e) t =
      let a = expression_to k g g.held e t.1 in (empty3 (fault_if_none _ p 6 t.0) a.0 (none_of_fits (sort_of g e) (name_sort g x) (position e) t.2), a.1)
  statement_to k g (Write e) t = let a = expression_to k g g.held e t.0 in (empty2 a.0 (none_of_sort (sort_of g e) (position e) t.1), a.1)
  statement_to k g (WriteText s) t = (refl, refl)
  statement_to k g (Do e) t = expression_to k g g.held e t
  statement_to k g (Async e m p es) t =
      let ps = params_of (sent_method g (sort_of g e) m) in
      let a = expression_to k g g.held e t.0 in
      let b = arguments_to (past (is_value e) k) g (g.held + 1) ps es t.2 in
      let s : IsTrue (if is_value e then are_sound g (g.held + 1) es else (is_sound g g.held e && are_source es)) =
      choose (is_value e) _ _ _ b.1 a.1 (λ i. arguments_plain g (g.held + 1) ps es (rw i at t.2)) in
      (empty3 a.0 (none_of_destination g (sort_of g e) m (size es) p (position e) t.1) b.0, s)
  statement_to k g (If e these those) t =
      let a = expression_to k g g.held e t.0 in
      let b = statements_to Nothing g these t.2 in
      let c = statements_to Nothing g those t.3 in (
        empty4 a.0 (none_of_fits (sort_of g e) BoolSort (position e) t.1) b.0 c.0,
        both _ _ (both _ _ a.1 (statements_plain g these t.2)) (statements_plain g those t.3),
      )
  statement_to k g (While e ss) t =
      let a = expression_to Nothing g g.held e t.0 in
      let b = statements_to Nothing g ss t.2 in
      (empty3 a.0 (none_of_fits (sort_of g e) BoolSort (position e) t.1) b.0, both _ _ (expression_plain g g.held e t.0) (statements_plain g ss t.2))
  statement_to k g (Answer names) t = (t, refl)
  statement_to k g (Select alts) t = alternatives_to k g g.held alts t
  statement_to k g (Serve m o u ss e qs) t =
      let i = inside g m in
      let a = statements_to k i ss t.2 in
      let b = expression_to (past (is_done ss) k) i 0 e t.3 in
      let c = statements_to (past (is_done ss) (past (is_value e) (past (is_none o) k))) (behind_value i) qs t.6 in
      (empty4 a.0 b.0 (none_of_gives i (own_method g m) e t.4) c.0, both _ _ (both _ _ t.1 t.5) (method_sound k i o ss e qs a.1 b.1 c.1 t.3 t.6))

  pub statements_to : (k : Holds) (g : Scope) (ss : Statements) → TypedStatements k g ss
      → (statements_faults g ss ≡ []) × IsTrue (are_sound_statements g ss)
  statements_to k g Done t = (refl, refl)
  statements_to k g (Then s ss) t =
      let a = statement_to k g s t.0 in
      let b = statements_to Nothing g ss t.1 in
      (empty2 a.0 b.0, both _ _ a.1 (statements_plain g ss t.1))

  alternatives_to : (k : Holds) (g : Scope) (i : ℕ) (alts : Alternatives) → TypedAlternatives k g i alts
      → (alternatives_faults g i alts ≡ []) × IsTrue (are_sound_alternatives g i alts)
  alternatives_to k g i NoAlts t = (refl, refl)
  alternatives_to k g i (Alt e names ss alts) t =
      let a = expression_to k g i e t.0 in
      let b = statements_to Nothing g ss t.3 in
      let c = alternatives_to (past (is_value e) k) g (i + 1) alts t.4 in
      let s : IsTrue (if is_value e then are_sound_alternatives g (i + 1) alts else (is_sound g i e && are_source_alternatives alts)) =
      choose (is_value e) _ _ _ c.1 a.1 (λ d. alternatives_plain g (i + 1) alts (rw d at t.4)) in
      (empty5 a.0 (none_of_fits (sort_of g e) BoolSort (position e) t.1) t.2 b.0 c.0, both _ _ (statements_plain g ss t.3) s)
