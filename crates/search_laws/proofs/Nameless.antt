-- No program text names an object.
use Rattle.std.proofs.Common.{◌≡◌, refl, ap, ◌∙◌, ℕ, List, [], ◌∷◌, map}
use Rattle.pool_syntax.specs.declared.tree.Expr.{Expr, Int, Bool, Nil, Me, Var, New, Unary', Binary', Call', Send', Row_of-Expr, end_of-Expr, more_of-Expr}
use Rattle.pool_syntax.specs.declared.tree.Stmt as S
use Rattle.pool_syntax.specs.declared.tree.Stmt.{Stmt, Row_of-Stmt, Row_of-Alt, end_of-Stmt, more_of-Stmt, end_of-Alt, more_of-Alt}
use Rattle.pool_syntax.specs.declared.tree.Method.{Method}
use Rattle.pool_syntax.specs.declared.tree.ClassDecl.{ClassDecl}
use Rattle.pool_syntax.specs.declared.tree.Program.{Program}
use Rattle.pool_syntax.specs.Terms as T
use Rattle.pool_syntax.specs.Terms.{MethodTree, ClassTree}
use Rattle.pool_syntax.specs.TreeOf.{expression_of, expression_row, expressions_of, statement_of, statement_row, alternative_row, statements_of, method_tree, class_tree, program_of}
use Rattle.search_laws.specs.Renamed.{renamed_expression, renamed_expressions, renamed_statement, renamed_statements, renamed_alternatives, renamed_method, renamed_class, IsNameless}

module _ (f : ℕ → ℕ) where
  mutual
    pub expression_nameless : (e : Expr) → renamed_expression f (expression_of e) ≡ expression_of e
    expression_nameless (Int v p) = refl
    expression_nameless (Bool b p) = refl
    expression_nameless (Nil p) = refl
    expression_nameless (Me p) = refl
    expression_nameless (Var n p) = refl
    expression_nameless (New c p) = refl
    expression_nameless (Unary' op q e p) = ap (λ x. T.Prefix op x p) (expression_nameless e)
    expression_nameless (Binary' op q l r s p) =
        ap (λ x. T.Infix op x (renamed_expression f (expression_of s)) p) (expression_nameless l) ∙ ap (λ x. T.Infix op (expression_of l) x p) (expression_nameless s)
    expression_nameless (Call' m shape es p) = ap (λ x. T.Call m.0 x p) (row_nameless es)
    expression_nameless (Send' q e m shape es p) =
        ap (λ x. T.Send x m.0 (renamed_expressions f (expression_row es)) p) (expression_nameless e) ∙ ap (λ x. T.Send (expression_of e) m.0 x p) (row_nameless es)

    row_nameless : {n : _} → (es : Row_of-Expr n) → renamed_expressions f (expression_row es) ≡ expression_row es
    row_nameless end_of-Expr = refl
    row_nameless (more_of-Expr e es) =
        ap (λ x. T.Arg x (renamed_expressions f (expression_row es))) (expression_nameless e) ∙ ap (T.Arg (expression_of e)) (row_nameless es)

  pub list_nameless : (es : List Expr) → renamed_expressions f (expressions_of es) ≡ expressions_of es
  list_nameless [] = refl
  list_nameless (e ∷ es) = ap (λ x. T.Arg x (renamed_expressions f (expressions_of es))) (expression_nameless e) ∙ ap (T.Arg (expression_of e)) (list_nameless es)

  mutual
    statement_nameless : (s : Stmt) → renamed_statement f (statement_of s) ≡ statement_of s
    statement_nameless (S.Assign n e) = ap (T.Assign n.name.0 n.pos) (expression_nameless e)
    statement_nameless (S.Write e) = ap T.Write (expression_nameless e)
    statement_nameless (S.WriteText s) = refl
    statement_nameless (S.Do e) = ap T.Do (expression_nameless e)
    statement_nameless (S.Async e m es) =
        ap (λ x. T.Async x m.name.0 m.pos (renamed_expressions f (expressions_of es))) (expression_nameless e) ∙ ap (T.Async (expression_of e) m.name.0 m.pos) (list_nameless es)
    statement_nameless (S.If' e a these b those) =
        ap (λ x. T.If x (renamed_statements f (statement_row these)) (renamed_statements f (statement_row those))) (expression_nameless e)
        ∙ ap (λ x. T.If (expression_of e) x (renamed_statements f (statement_row those))) (statements_nameless these) ∙ ap (T.If (expression_of e) (statement_row these)) (statements_nameless those)
    statement_nameless (S.While' e shape ss) =
        ap (λ x. T.While x (renamed_statements f (statement_row ss))) (expression_nameless e) ∙ ap (T.While (expression_of e)) (statements_nameless ss)
    statement_nameless (S.Answer names) = refl
    statement_nameless (S.Select' shape alts) = ap T.Select (alternatives_nameless alts)

    statements_nameless : {n : _} → (ss : Row_of-Stmt n) → renamed_statements f (statement_row ss) ≡ statement_row ss
    statements_nameless end_of-Stmt = refl
    statements_nameless (more_of-Stmt s ss) =
        ap (λ x. T.Then x (renamed_statements f (statement_row ss))) (statement_nameless s) ∙ ap (T.Then (statement_of s)) (statements_nameless ss)

    alternatives_nameless : {n : _} → (alts : Row_of-Alt n) → renamed_alternatives f (alternative_row alts) ≡ alternative_row alts
    alternatives_nameless end_of-Alt = refl
    alternatives_nameless (more_of-Alt e names shape ss alts) =
        ap (λ x. T.Alt x names (renamed_statements f (statement_row ss)) (renamed_alternatives f (alternative_row alts))) (expression_nameless e)
        ∙ ap (λ x. T.Alt (expression_of e) names x (renamed_alternatives f (alternative_row alts))) (statements_nameless ss)
        ∙ ap (T.Alt (expression_of e) names (statement_row ss)) (alternatives_nameless alts)

  pub body_nameless : (ss : List Stmt) → renamed_statements f (statements_of ss) ≡ statements_of ss
  body_nameless [] = refl
  body_nameless (s ∷ ss) = ap (λ x. T.Then x (renamed_statements f (statements_of ss))) (statement_nameless s) ∙ ap (T.Then (statement_of s)) (body_nameless ss)

  method_nameless : (m : Method) → renamed_method f (method_tree m) ≡ method_tree m
  method_nameless m =
      ap (λ x. record (method_tree m) { body = x; value = renamed_expression f (expression_of m.value); post = renamed_statements f (statements_of m.post) }) (body_nameless m.body)
      ∙ ap (λ x. record (method_tree m) { value = x; post = renamed_statements f (statements_of m.post) }) (expression_nameless m.value)
      ∙ ap (λ x. record (method_tree m) { post = x }) (body_nameless m.post)

  methods_nameless : (ms : List Method) → map (renamed_method f) (map method_tree ms) ≡ map method_tree ms
  methods_nameless [] = refl
  methods_nameless (m ∷ ms) = ap (λ x. x ∷ map (renamed_method f) (map method_tree ms)) (method_nameless m) ∙ ap (λ x. method_tree m ∷ x) (methods_nameless ms)

  class_nameless : (c : ClassDecl) → renamed_class f (class_tree c) ≡ class_tree c
  class_nameless c =
      ap (λ x. record (class_tree c) { methods = x; body = renamed_statements f (statements_of c.body) }) (methods_nameless c.methods)
      ∙ ap (λ x. record (class_tree c) { body = x }) (body_nameless c.body)

  classes_nameless : (cs : List ClassDecl) → map (renamed_class f) (map class_tree cs) ≡ map class_tree cs
  classes_nameless [] = refl
  classes_nameless (c ∷ cs) = ap (λ x. x ∷ map (renamed_class f) (map class_tree cs)) (class_nameless c) ∙ ap (λ x. class_tree c ∷ x) (classes_nameless cs)

-- a program that was read
pub nameless : (p : Program) → IsNameless (program_of p)
nameless p f = classes_nameless f p.classes
