-- The lines of the methods under way in a term of the stepper's form.
use Rattle.std.proofs.Common.{◌≡◌, refl, ap, ap₂, ◌∙◌, ℕ, List, [], ◌∷◌, ◌++◌, Option, Some, None, append-nil}
use Rattle.text_scan.specs.Text.{Text}
use Rattle.pool_syntax.specs.declared.tree.Expr.{Expr, Int, Bool, Nil, Me, Var, New, Unary', Binary', Call', Send', Row_of-Expr, end_of-Expr, more_of-Expr}
use Rattle.pool_syntax.specs.declared.tree.Stmt as S
use Rattle.pool_syntax.specs.declared.tree.Stmt.{Stmt, Row_of-Alt, end_of-Alt, more_of-Alt}
use Rattle.pool_syntax.specs.declared.tree.Alt.{Alt}
use Rattle.pool_syntax.specs.TreeOf.{expression_of, expression_row, expressions_of, statement_of, statements_of, alternative_row}
use Rattle.pool_syntax.specs.Terms as T
use Rattle.pool_syntax.specs.Terms.{Expression, Expressions, Statements, Alternatives}
use Rattle.stepper_terms.specs.declared.contexts.Operand.{Operand}
use Rattle.stepper_terms.specs.declared.contexts.Guarded.{Guarded}
use Rattle.stepper_terms.specs.declared.contexts.ExpressionContext.{ExpressionContext}
use Rattle.stepper_terms.specs.declared.contexts.ExpressionContext.TheVariants as P
use Rattle.stepper_terms.specs.declared.contexts.StatementContext.{StatementContext}
use Rattle.stepper_terms.specs.declared.contexts.StatementContext.TheVariants as L
use Rattle.stepper_terms.specs.declared.contexts.SuspendedCall.{SuspendedCall}
use Rattle.stepper_terms.specs.declared.contexts.Stage.{Stage}
use Rattle.stepper_terms.specs.declared.contexts.Stage.TheVariants as A
use Rattle.stepper_terms.specs.Parts.{operands, guarded, alternatives, placed, nested, slotted, Content, Running, Valued, Over, caller_at, behind, inside, bottom}
use Rattle.term_text.specs.Levels.{expression_lines, arguments_lines, guards_lines, statement_lines, statements_lines}
use Rattle.stepper_text.specs.ContentLines.{content_lines}

module _ (names : List Text) (o : ℕ) where
  -- nothing is under way in the text of a program
  mutual
    pub quiet : (e : Expr) → expression_lines names o (expression_of e) ≡ []
    quiet (Int v p) = refl
    quiet (Bool b p) = refl
    quiet (Nil p) = refl
    quiet (Me p) = refl
    quiet (Var n p) = refl
    quiet (New c p) = refl
    quiet (Unary' op q e p) = quiet e
    quiet (Binary' op q l r s p) = rw (quiet l) (quiet s)
    quiet (Call' m shape es p) = quiet_row es
    quiet (Send' q e m shape es p) = rw (quiet e) (quiet_row es)

    quiet_row : {n : _} (r : Row_of-Expr n) → arguments_lines names o (expression_row r) ≡ []
    quiet_row end_of-Expr = refl
    quiet_row (more_of-Expr e es) = rw (quiet e) (quiet_row es)

  quiet_list : (es : List Expr) → arguments_lines names o (expressions_of es) ≡ []
  quiet_list [] = refl
  quiet_list (e ∷ es) = rw (quiet e) (quiet_list es)

  quiet_alts : {n : _} (r : Row_of-Alt n) → guards_lines names o (alternative_row r) ≡ []
  quiet_alts end_of-Alt = refl
  quiet_alts (more_of-Alt e ns shape ss alts) = rw (quiet e) (quiet_alts alts)

  quiet_alternatives : (xs : List Alt) → guards_lines names o (alternatives xs) ≡ []
  quiet_alternatives [] = refl
  quiet_alternatives (a ∷ xs) = rw (quiet a.guard) (quiet_alternatives xs)

  quiet_statement : (s : Stmt) → statement_lines names o (statement_of s) ≡ []
  quiet_statement (S.Assign n e) = quiet e
  quiet_statement (S.Write e) = quiet e
  quiet_statement (S.WriteText s) = refl
  quiet_statement (S.Do e) = quiet e
  quiet_statement (S.Async e m es) = rw (quiet e) (quiet_list es)
  quiet_statement (S.If' e a these b those) = quiet e
  quiet_statement (S.While' e shape ss) = refl
  quiet_statement (S.Answer ns) = refl
  quiet_statement (S.Select' shape alts) = quiet_alts alts

  pub quiet_statements : (ss : List Stmt) → statements_lines names o (statements_of ss) ≡ []
  quiet_statements [] = refl
  quiet_statements (s ∷ ss) = quiet_statement s

  pub in_operands : (vs : List Operand) (es : Expressions) → arguments_lines names o (operands vs es) ≡ arguments_lines names o es
  in_operands [] es = refl
  in_operands (v ∷ vs) es = in_operands vs es

  pub in_guarded : (gs : List Guarded) (alts : Alternatives) → guards_lines names o (guarded gs alts) ≡ guards_lines names o alts
  in_guarded [] alts = refl
  in_guarded (g ∷ gs) alts = in_guarded gs alts

  in_argument : (vs : List Operand) (e : Expression) (es : List Expr) → arguments_lines names o (operands vs (T.Arg e (expressions_of es))) ≡ expression_lines names o e
  in_argument vs e es = in_operands vs (T.Arg e (expressions_of es)) ∙ ap (λ l. expression_lines names o e ++ l) (quiet_list es) ∙ append-nil (expression_lines names o e)

  in_placed : (k : ExpressionContext) (e : Expression) → expression_lines names o (placed k e) ≡ expression_lines names o e
  in_placed (P.Prefix op p) e = refl
  in_placed (P.Left op q p) e = ap (λ l. expression_lines names o e ++ l) (quiet q.now) ∙ append-nil (expression_lines names o e)
  in_placed (P.Right op l p) e = refl
  in_placed (P.CallArgument m vs es p) e = in_argument vs.items e es.now
  in_placed (P.Destination m es p) e = ap (λ l. expression_lines names o e ++ l) (quiet_list es.now) ∙ append-nil (expression_lines names o e)
  in_placed (P.SendArgument to m vs es p) e = in_argument vs.items e es.now

  pub in_nested : (ks : List ExpressionContext) (e : Expression) → expression_lines names o (nested ks e) ≡ expression_lines names o e
  in_nested [] e = refl
  in_nested (k ∷ ks) e = in_placed k (nested ks e) ∙ in_nested ks e

  pub in_slotted : (s : StatementContext) (rest : Statements) (e : Expression) → content_lines names o (slotted s rest e) ≡ expression_lines names o e
  in_slotted (L.Assign n) rest e = refl
  in_slotted L.Write rest e = refl
  in_slotted L.Do rest e = refl
  in_slotted (L.Destination m es) rest e = ap (λ l. expression_lines names o e ++ l) (quiet_list es.now) ∙ append-nil (expression_lines names o e)
  in_slotted (L.Argument to m vs es) rest e = in_argument vs.items e es.now
  in_slotted (L.If these those) rest e = refl
  in_slotted (L.Loop k body) rest e = refl
  in_slotted (L.Guard done at more) rest e =
      in_guarded done.items (T.Alt e at.now.answer (statements_of at.now.work) (alternatives more.now))
      ∙ ap (λ l. expression_lines names o e ++ l) (quiet_alternatives more.now) ∙ append-nil (expression_lines names o e)
  in_slotted L.Value rest e = refl

  -- in the rest of a method under way
  abbrev pub left_lines : Statements × Expression × Statements → Text
  left_lines b = statements_lines names o b.0 ++ (expression_lines names o b.1 ++ statements_lines names o b.2)

  quiet_behind : (k : Option ℕ) (qs : List Stmt) → statements_lines names o (behind k (statements_of qs)) ≡ []
  quiet_behind None qs = refl
  quiet_behind (Some k) qs = quiet_statements qs

  pub in_bottom : (c : Content) → statements_lines names o (bottom c) ≡ content_lines names o c
  in_bottom (Running ss) = refl
  in_bottom (Valued e) = refl
  in_bottom (Over v) = refl

  pub in_inside : (w : SuspendedCall) (st : Stage) (c : Content) → left_lines (inside w st c) ≡ content_lines names o c
  in_inside w (A.Body e qs) (Running ss) = ap₂ (λ k l. statements_lines names o ss ++ (k ++ l)) (quiet e.now) (quiet_statements qs.now) ∙ append-nil (statements_lines names o ss)
  in_inside w (A.Body e qs) (Valued x) = ap (λ l. expression_lines names o x ++ l) (quiet_statements qs.now) ∙ append-nil (expression_lines names o x)
  in_inside w (A.Body e qs) (Over v) = quiet_behind (caller_at w) qs.now
  in_inside w (A.Post v) c = in_bottom c
