-- A renamed part replaces the redex of a renamed term.
use Rattle.std.proofs.Common.{◌≡◌, refl, ap, ◌∙◌, ℕ, [], ◌∷◌, Option, Some, None, Bool, true, false, ◌==◌, if◌then◌else◌}
use Rattle.run_types.specs.declared.types.Value.{Value}
use Rattle.pool_syntax.specs.Terms.{Store, Expression, Literal, Me, Variable, Create, Prefix, Infix, Call, Send, Frame, Wait, Expressions, NoArgs, Arg, Statement, Assign, Write, WriteText, Do, Async, If, While, Answer, Select, Serve, Statements, Done, Then, Alternatives, NoAlts, Alt, append}
use Rattle.pool_relation.specs.Reducible.{is_value, are_values, guards_are_values, is_done, is_over, Contractum, AsExpression, AsStatements, as_expression, as_statements, set_value, assigned, fill_expression, fill_expressions, fill_statement, fill_statements}
use Rattle.pool_relation.specs.Reducible.{fill_guards}
use Rattle.search_laws.specs.Renamed.{renamed_value, renamed_store, renamed_name, renamed_expression, renamed_expressions, renamed_statement, renamed_statements, renamed_alternatives}
use Rattle.search_laws.proofs.RenamedRedex.{renamed_part}

-- a test that answers the same, and branches that correspond
pub either_way : {A B : Type 0} (g : A → B) (b' b : Bool) (x' y' : B) (x y : A) → b' ≡ b → x' ≡ g x → y' ≡ g y
    → (if b' then x' else y') ≡ g (if b then x else y)
either_way g b' true x' y' x y e p q = ap (λ (t : Bool). if t then x' else y') e ∙ p
either_way g b' false x' y' x y e p q = ap (λ (t : Bool). if t then x' else y') e ∙ q

module _ (f : ℕ → ℕ) where
  value_kept : (e : Expression) → is_value (renamed_expression f e) ≡ is_value e
  value_kept (Literal v p) = refl
  value_kept (Me p) = refl
  value_kept (Variable x p) = refl
  value_kept (Create c p) = refl
  value_kept (Prefix op e p) = refl
  value_kept (Infix op l r p) = refl
  value_kept (Call m es p) = refl
  value_kept (Send e m es p) = refl
  value_kept (Frame m t ss e qs) = refl
  value_kept (Wait b m) = refl

  values_kept : (es : Expressions) → are_values (renamed_expressions f es) ≡ are_values es
  values_kept NoArgs = refl
  values_kept (Arg e es) = rw (value_kept e, values_kept es) refl

  guards_kept : (alts : Alternatives) → guards_are_values (renamed_alternatives f alts) ≡ guards_are_values alts
  guards_kept NoAlts = refl
  guards_kept (Alt e names ss alts) = rw (value_kept e, guards_kept alts) refl

  done_kept : (ss : Statements) → is_done (renamed_statements f ss) ≡ is_done ss
  done_kept Done = refl
  done_kept (Then s ss) = refl

  over_kept : (k : Option ℕ) (qs : Statements) → is_over (renamed_name f k) (renamed_statements f qs) ≡ is_over k qs
  over_kept None qs = done_kept qs
  over_kept (Some k) qs = refl

  pub append_renamed : (ss ts : Statements) → append (renamed_statements f ss) (renamed_statements f ts) ≡ renamed_statements f (append ss ts)
  append_renamed Done ts = refl
  append_renamed (Then s ss) ts = ap (Then (renamed_statement f s)) (append_renamed ss ts)

  pub set_renamed : (t : Store) (x : ℕ) (v : Value) → set_value (renamed_store f t) x (renamed_value f v) ≡ renamed_store f (set_value t x v)
  set_renamed [] x v = refl
  set_renamed (b ∷ bs) x v =
      either_way (renamed_store f) (b.0 == x) (b.0 == x) _ _ ((x, v) ∷ bs) (b ∷ set_value bs x v) refl refl
      (ap (λ r. (b.0, renamed_value f b.1) ∷ r) (set_renamed bs x v))

  assigned_renamed : (ss : Statements) (t : Store) → assigned (renamed_statements f ss) (renamed_store f t) ≡ renamed_store f (assigned ss t)
  assigned_renamed Done t = refl
  assigned_renamed (Then (Assign x p (Literal v q)) ss) t = set_renamed t x v
  assigned_renamed (Then (Assign x p (Me q)) ss) t = refl
  assigned_renamed (Then (Assign x p (Variable n q)) ss) t = refl
  assigned_renamed (Then (Assign x p (Create c q)) ss) t = refl
  assigned_renamed (Then (Assign x p (Prefix op e q)) ss) t = refl
  assigned_renamed (Then (Assign x p (Infix op l r q)) ss) t = refl
  assigned_renamed (Then (Assign x p (Call m es q)) ss) t = refl
  assigned_renamed (Then (Assign x p (Send e m es q)) ss) t = refl
  assigned_renamed (Then (Assign x p (Frame m u rest e qs)) ss) t = refl
  assigned_renamed (Then (Assign x p (Wait b m)) ss) t = refl
  assigned_renamed (Then (Write e) ss) t = refl
  assigned_renamed (Then (WriteText s) ss) t = refl
  assigned_renamed (Then (Do e) ss) t = refl
  assigned_renamed (Then (Async e m p es) ss) t = refl
  assigned_renamed (Then (If e these those) ss) t = refl
  assigned_renamed (Then (While e body) ss) t = refl
  assigned_renamed (Then (Answer names) ss) t = refl
  assigned_renamed (Then (Select alts) ss) t = refl
  assigned_renamed (Then (Serve m k u rest e qs) ss) t = refl

  as_expression_renamed : (x : Contractum) (e : Expression) → as_expression (renamed_part f x) (renamed_expression f e) ≡ renamed_expression f (as_expression x e)
  as_expression_renamed (AsExpression d) e = refl
  as_expression_renamed (AsStatements ss) e = refl

  as_statements_renamed : (x : Contractum) (s : Statement) → as_statements (renamed_part f x) (renamed_statement f s) ≡ renamed_statements f (as_statements x s)
  as_statements_renamed (AsExpression d) s = refl
  as_statements_renamed (AsStatements ss) s = refl

  mutual
    pub expression_filled : (e : Expression) (x : Contractum) → fill_expression (renamed_expression f e) (renamed_part f x) ≡ renamed_expression f (fill_expression e x)
    expression_filled (Literal v p) x = refl
    expression_filled (Me p) x = as_expression_renamed x (Me p)
    expression_filled (Variable n p) x = as_expression_renamed x (Variable n p)
    expression_filled (Create c p) x = as_expression_renamed x (Create c p)
    expression_filled (Prefix op e p) x =
        either_way (renamed_expression f) _ (is_value e) _ _ _ _ (value_kept e) (as_expression_renamed x (Prefix op e p))
        (ap (λ q. Prefix op q p) (expression_filled e x))
    expression_filled (Infix op l r p) x =
        either_way (renamed_expression f) _ (is_value l) _ _ _ _ (value_kept l)
        (either_way (renamed_expression f) _ (is_value r) _ _ _ _ (value_kept r) (as_expression_renamed x (Infix op l r p))
        (ap (λ q. Infix op (renamed_expression f l) q p) (expression_filled r x)))
        (ap (λ q. Infix op q (renamed_expression f r) p) (expression_filled l x))
    expression_filled (Call m es p) x =
        either_way (renamed_expression f) _ (are_values es) _ _ _ _ (values_kept es) (as_expression_renamed x (Call m es p))
        (ap (λ q. Call m q p) (expressions_filled es x))
    expression_filled (Send e m es p) x =
        either_way (renamed_expression f) _ (is_value e) _ _ _ _ (value_kept e)
        (either_way (renamed_expression f) _ (are_values es) _ _ _ _ (values_kept es) (as_expression_renamed x (Send e m es p))
        (ap (λ q. Send (renamed_expression f e) m q p) (expressions_filled es x)))
        (ap (λ q. Send q m (renamed_expressions f es) p) (expression_filled e x))
    expression_filled (Frame m t ss e qs) x =
        either_way (renamed_expression f) _ (is_done ss) _ _ _ _ (done_kept ss)
        (either_way (renamed_expression f) _ (is_value e) _ _ _ _ (value_kept e)
        (either_way (renamed_expression f) _ (is_over None qs) _ _ _ _ (over_kept None qs) (as_expression_renamed x (Frame m t ss e qs))
        (ap (λ u. Frame m u (renamed_statements f ss) (renamed_expression f e) (fill_statements (renamed_statements f qs) (renamed_part f x))) (assigned_renamed qs t)
        ∙ ap (λ q. Frame m (renamed_store f (assigned qs t)) (renamed_statements f ss) (renamed_expression f e) q) (statements_filled qs x)))
        (ap (λ q. Frame m (renamed_store f t) (renamed_statements f ss) q (renamed_statements f qs)) (expression_filled e x)))
        (ap (λ u. Frame m u (fill_statements (renamed_statements f ss) (renamed_part f x)) (renamed_expression f e) (renamed_statements f qs)) (assigned_renamed ss t)
        ∙ ap (λ q. Frame m (renamed_store f (assigned ss t)) q (renamed_expression f e) (renamed_statements f qs)) (statements_filled ss x))
    expression_filled (Wait b m) x = as_expression_renamed x (Wait b m)

    pub expressions_filled : (es : Expressions) (x : Contractum) → fill_expressions (renamed_expressions f es) (renamed_part f x) ≡ renamed_expressions f (fill_expressions es x)
    expressions_filled NoArgs x = refl
    expressions_filled (Arg e es) x =
        either_way (renamed_expressions f) _ (is_value e) _ _ _ _ (value_kept e)
        (ap (λ q. Arg (renamed_expression f e) q) (expressions_filled es x))
        (ap (λ q. Arg q (renamed_expressions f es)) (expression_filled e x))

    pub statement_filled : (s : Statement) (x : Contractum) → fill_statement (renamed_statement f s) (renamed_part f x) ≡ renamed_statements f (fill_statement s x)
    statement_filled (Assign n p e) x =
        either_way (renamed_statements f) _ (is_value e) _ _ _ _ (value_kept e) (as_statements_renamed x (Assign n p e))
        (ap (λ q. Then (Assign n p q) Done) (expression_filled e x))
    statement_filled (Write e) x =
        either_way (renamed_statements f) _ (is_value e) _ _ _ _ (value_kept e) (as_statements_renamed x (Write e))
        (ap (λ q. Then (Write q) Done) (expression_filled e x))
    statement_filled (WriteText s) x = as_statements_renamed x (WriteText s)
    statement_filled (Do e) x =
        either_way (renamed_statements f) _ (is_value e) _ _ _ _ (value_kept e) (as_statements_renamed x (Do e))
        (ap (λ q. Then (Do q) Done) (expression_filled e x))
    statement_filled (Async e m p es) x =
        either_way (renamed_statements f) _ (is_value e) _ _ _ _ (value_kept e)
        (either_way (renamed_statements f) _ (are_values es) _ _ _ _ (values_kept es) (as_statements_renamed x (Async e m p es))
        (ap (λ q. Then (Async (renamed_expression f e) m p q) Done) (expressions_filled es x)))
        (ap (λ q. Then (Async q m p (renamed_expressions f es)) Done) (expression_filled e x))
    statement_filled (If e these those) x =
        either_way (renamed_statements f) _ (is_value e) _ _ _ _ (value_kept e) (as_statements_renamed x (If e these those))
        (ap (λ q. Then (If q (renamed_statements f these) (renamed_statements f those)) Done) (expression_filled e x))
    statement_filled (While e ss) x = as_statements_renamed x (While e ss)
    statement_filled (Answer names) x = as_statements_renamed x (Answer names)
    statement_filled (Select alts) x =
        either_way (renamed_statements f) _ (guards_are_values alts) _ _ _ _ (guards_kept alts) (as_statements_renamed x (Select alts))
        (ap (λ q. Then (Select q) Done) (guards_filled alts x))
    statement_filled (Serve m k t ss e qs) x =
        either_way (renamed_statements f) _ (is_done ss) _ _ _ _ (done_kept ss)
        (either_way (renamed_statements f) _ (is_value e) _ _ _ _ (value_kept e)
        (either_way (renamed_statements f) _ (is_over k qs) _ _ _ _ (over_kept k qs) (as_statements_renamed x (Serve m k t ss e qs))
        (ap (λ u. Then (Serve m (renamed_name f k) u (renamed_statements f ss) (renamed_expression f e) (fill_statements (renamed_statements f qs) (renamed_part f x))) Done) (assigned_renamed qs t)
        ∙ ap (λ q. Then (Serve m (renamed_name f k) (renamed_store f (assigned qs t)) (renamed_statements f ss) (renamed_expression f e) q) Done) (statements_filled qs x)))
        (ap (λ q. Then (Serve m (renamed_name f k) (renamed_store f t) (renamed_statements f ss) q (renamed_statements f qs)) Done) (expression_filled e x)))
        (ap (λ u. Then (Serve m (renamed_name f k) u (fill_statements (renamed_statements f ss) (renamed_part f x)) (renamed_expression f e) (renamed_statements f qs)) Done) (assigned_renamed ss t)
        ∙ ap (λ q. Then (Serve m (renamed_name f k) (renamed_store f (assigned ss t)) q (renamed_expression f e) (renamed_statements f qs)) Done) (statements_filled ss x))

    pub statements_filled : (ss : Statements) (x : Contractum) → fill_statements (renamed_statements f ss) (renamed_part f x) ≡ renamed_statements f (fill_statements ss x)
    statements_filled Done x = refl
    statements_filled (Then s ss) x =
        ap (λ q. append q (renamed_statements f ss)) (statement_filled s x) ∙ append_renamed (fill_statement s x) ss

    pub guards_filled : (alts : Alternatives) (x : Contractum) → fill_guards (renamed_alternatives f alts) (renamed_part f x) ≡ renamed_alternatives f (fill_guards alts x)
    guards_filled NoAlts x = refl
    guards_filled (Alt e names ss alts) x =
        either_way (renamed_alternatives f) _ (is_value e) _ _ _ _ (value_kept e)
        (ap (λ q. Alt (renamed_expression f e) names (renamed_statements f ss) q) (guards_filled alts x))
        (ap (λ q. Alt q names (renamed_statements f ss) (renamed_alternatives f alts)) (expression_filled e x))
