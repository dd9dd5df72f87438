-- Program text without class faults is typed, with nothing under way.
use Rattle.std.proofs.Common.{◌≡◌, IsTrue, ℕ, ◌+◌, List, [], ◌∷◌, arith}
use Rattle.pool_syntax.specs.declared.tree.Var.{Var}
use Rattle.pool_syntax.specs.Terms.{Expression, Literal, Me, Variable, Create, Prefix, Infix, Call, Send, Frame, Wait, Expressions, NoArgs, Arg, Statement, Assign, Write, WriteText, Do, Async, If, While, Answer, Select, Serve, Statements, Done, Then, Alternatives, NoAlts, Alt}
use Rattle.pool_syntax.specs.Typing.{Scope, sort_of, position, own_method, params_of, sent_method, size, kind_sort, name_sort, expression_faults, arguments_faults, statement_faults, statements_faults, alternatives_faults}
use Rattle.run_types.specs.Sorts.{BoolSort, operand_sort}
use Rattle.pool_relation.specs.Reducible.{is_value}
use Rattle.pool_syntax.specs.SourceParts.{is_source, are_source, is_source_statement, are_source_statements, are_source_alternatives, is_prefix}
use Rattle.run_types.proofs.Laws.{first, second, not_true, true_not}
use Rattle.pool_relation.proofs.typing.TypedTerm.{Nothing, past, TypedExpression, TypedArguments, TypedStatement, TypedStatements, TypedAlternatives}
use Rattle.pool_relation.proofs.typing.Weakening.{nothing_below, expression_weaker, arguments_weaker, alternatives_weaker}
use Rattle.pool_relation.proofs.typing.Faults.{none2, none3, none4, none5, no_fault_if, room_of, sort_of_none, fits_of_none, operands_of_none, takes_of_none, destination_of_none}

mutual
  pub expression_written : (g : Scope) (h : ℕ) (e : Expression) → expression_faults g h e ≡ [] → IsTrue (is_source e) → TypedExpression Nothing g h e
  expression_written g h (Literal v p) f s = let n = none2 f in (room_of h p n.0, no_fault_if _ _ _ n.1)
  expression_written g h (Me p) f s = room_of h p f
  expression_written g h (Variable x p) f s = let n = none2 f in (room_of h p n.0, no_fault_if _ _ _ n.1)
  expression_written g h (Create c p) f s = let n = none2 f in (room_of h p n.0, true_not _ (no_fault_if _ _ _ n.1))
  expression_written g h (Prefix op e p) f s =
      let n = none3 f in (
        room_of h p n.0,
        first (is_prefix op) (is_source e) s,
        expression_written g h e n.1 (second (is_prefix op) (is_source e) s),
        fits_of_none (sort_of g e) (operand_sort op) (position e) n.2,
      )
  expression_written g h (Infix op l r p) f s =
      let n = none4 f in
      let x = first _ (is_source r) s in
      let y = expression_written g (h + 1) r n.2 (second _ (is_source r) s) in (
        room_of h p n.0,
        not_true _ (first _ (is_source l) x),
        expression_written g h l n.1 (second _ (is_source l) x),
        expression_weaker Nothing (past (is_value l) Nothing) g (h + 1) r (nothing_below _) y,
        operands_of_none g op l r n.3,
      )
  expression_written g h (Call m es p) f s =
      let n = none3 f in
      (room_of h p n.0, takes_of_none (own_method g m) (size es) p n.1, arguments_written g h (params_of (own_method g m)) es n.2 s)
  expression_written g h (Send e m es p) f s =
      let n = none4 f in
      let ps = params_of (sent_method g (sort_of g e) m) in
      let y = arguments_written g (h + 1) ps es n.3 (second (is_source e) (are_source es) s) in (
        room_of h p n.0,
        expression_written g h e n.1 (first (is_source e) (are_source es) s),
        destination_of_none g (sort_of g e) m (size es) p (position e) n.2,
        arguments_weaker Nothing (past (is_value e) Nothing) g (h + 1) ps es (nothing_below _) y,
      )
  expression_written g h (Frame m t ss e qs) f s = absurd (grind (arith, s))
  expression_written g h (Wait b m) f s = absurd (grind (arith, s))

  pub arguments_written : (g : Scope) (h : ℕ) (vs : List Var) (es : Expressions) → arguments_faults g h vs es ≡ []
      → IsTrue (are_source es) → TypedArguments Nothing g h vs es
  arguments_written g h vs NoArgs f s = tt
  arguments_written g h [] (Arg e es) f s =
      let n = none3 f in
      let y = arguments_written g (h + 1) [] es n.2 (second (is_source e) (are_source es) s) in (
        expression_written g h e n.0 (first (is_source e) (are_source es) s),
        sort_of_none (sort_of g e) (position e) n.1,
        arguments_weaker Nothing (past (is_value e) Nothing) g (h + 1) [] es (nothing_below _) y,
      )
  arguments_written g h (v ∷ vs) (Arg e es) f s =
      let n = none3 f in
      let y = arguments_written g (h + 1) vs es n.2 (second (is_source e) (are_source es) s) in (
        expression_written g h e n.0 (first (is_source e) (are_source es) s),
        fits_of_none (sort_of g e) (kind_sort g.program v.kind) (position e) n.1,
        arguments_weaker Nothing (past (is_value e) Nothing) g (h + 1) vs es (nothing_below _) y,
      )

  statement_written : (g : Scope) (s : Statement) → statement_faults g s ≡ [] → IsTrue (is_source_statement s) → TypedStatement Nothing g s
  statement_written g (Assign x p e) f s =
      let n = none3 f in (no_fault_if _ _ _ n.0, expression_written g g.held e n.1 s, fits_of_none (sort_of g e) (name_sort g x) (position e) n.2)
  statement_written g (Write e) f s = let n = none2 f in (expression_written g g.held e n.0 s, sort_of_none (sort_of g e) (position e) n.1)
  statement_written g (WriteText t) f s = tt
  statement_written g (Do e) f s = expression_written g g.held e f s
  statement_written g (Async e m p es) f s =
      let n = none3 f in
      let ps = params_of (sent_method g (sort_of g e) m) in
      let y = arguments_written g (g.held + 1) ps es n.2 (second (is_source e) (are_source es) s) in (
        expression_written g g.held e n.0 (first (is_source e) (are_source es) s),
        destination_of_none g (sort_of g e) m (size es) p (position e) n.1,
        arguments_weaker Nothing (past (is_value e) Nothing) g (g.held + 1) ps es (nothing_below _) y,
      )
  statement_written g (If e these those) f s =
      let n = none4 f in
      let x = first _ (are_source_statements those) s in (
        expression_written g g.held e n.0 (first (is_source e) (are_source_statements these) x),
        fits_of_none (sort_of g e) BoolSort (position e) n.1,
        statements_written g these n.2 (second (is_source e) (are_source_statements these) x),
        statements_written g those n.3 (second _ (are_source_statements those) s),
      )
  statement_written g (While e ss) f s =
      let n = none3 f in (
        expression_written g g.held e n.0 (first (is_source e) (are_source_statements ss) s),
        fits_of_none (sort_of g e) BoolSort (position e) n.1,
        statements_written g ss n.2 (second (is_source e) (are_source_statements ss) s),
      )
  statement_written g (Answer names) f s = f
  statement_written g (Select alts) f s = alternatives_written g g.held alts f s
  statement_written g (Serve m k t ss e qs) f s = absurd (grind (arith, s))

  pub statements_written : (g : Scope) (ss : Statements) → statements_faults g ss ≡ [] → IsTrue (are_source_statements ss) → TypedStatements Nothing g ss
  statements_written g Done f s = tt
  statements_written g (Then t ss) f s =
      let n = none2 f in (
        statement_written g t n.0 (first (is_source_statement t) (are_source_statements ss) s),
        statements_written g ss n.1 (second (is_source_statement t) (are_source_statements ss) s),
      )

  pub alternatives_written : (g : Scope) (i : ℕ) (alts : Alternatives) → alternatives_faults g i alts ≡ []
      → IsTrue (are_source_alternatives alts) → TypedAlternatives Nothing g i alts
  alternatives_written g i NoAlts f s = tt
  alternatives_written g i (Alt e names ss alts) f s =
      let n = none5 f in
      let x = first _ (are_source_alternatives alts) s in
      let z = alternatives_written g (i + 1) alts n.4 (second _ (are_source_alternatives alts) s) in (
        expression_written g i e n.0 (first (is_source e) (are_source_statements ss) x),
        fits_of_none (sort_of g e) BoolSort (position e) n.1,
        n.2,
        statements_written g ss n.3 (second (is_source e) (are_source_statements ss) x),
        alternatives_weaker Nothing (past (is_value e) Nothing) g (i + 1) alts (nothing_below _) z,
      )
