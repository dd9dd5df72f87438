-- The redex of a renamed term is the renamed redex, and a renamed part replaces it.
use Rattle.std.proofs.Common.{◌≡◌, refl, ap, ◌∙◌, ℕ, ◌∷◌, map, Option, Some, None}
use Rattle.run_types.specs.declared.types.Item.TheVariants as I
use Rattle.pool_syntax.specs.Terms.{Store, Expression, Literal, Me, Variable, Create, Prefix, Infix, Call, Send, Frame, Wait, Expressions, NoArgs, Arg, Statement, Assign, Write, WriteText, Do, Async, If, While, Answer, Select, Serve, Statements, Done, Then, Alternatives, NoAlts, Alt}
use Rattle.pool_relation.specs.Reducible.{Choice, Reducible, Found, Evaluated, At, and_then, in_post, left_served, OwnName, Read, Make, Unary, Binary, Invoke, SynchronousSend, Leave, Waiting, Set, Print, Drop, Post, Branch, Loop, Accept, Choose, Finish, Contractum, AsExpression, AsStatements, expression_redex, expressions_redex, statement_redex, statements_redex}
use Rattle.pool_relation.specs.Reducible.{guards_redex}
use Rattle.search_laws.specs.Renamed.{renamed_value, renamed_store, renamed_name, renamed_item, renamed_expression, renamed_expressions, renamed_statement, renamed_statements, renamed_alternatives}

abbrev pub renamed_choice : (ℕ → ℕ) → Choice → Choice
renamed_choice f c = record { guard = renamed_value f c.guard; answer = c.answer; work = renamed_statements f c.work }

abbrev pub renamed_reducible : (ℕ → ℕ) → Reducible → Reducible
renamed_reducible f OwnName = OwnName
renamed_reducible f (Read n) = Read n
renamed_reducible f (Make c) = Make c
renamed_reducible f (Unary op v) = Unary op (renamed_value f v)
renamed_reducible f (Binary op v w) = Binary op (renamed_value f v) (renamed_value f w)
renamed_reducible f (Invoke m vs) = Invoke m (map (renamed_value f) vs)
renamed_reducible f (SynchronousSend v m vs) = SynchronousSend (renamed_value f v) m (map (renamed_value f) vs)
renamed_reducible f (Leave v) = Leave (renamed_value f v)
renamed_reducible f (Waiting b m) = Waiting (f b) m
renamed_reducible f (Set x v) = Set x (renamed_value f v)
renamed_reducible f (Print i) = Print (renamed_item f i)
renamed_reducible f (Drop v) = Drop (renamed_value f v)
renamed_reducible f (Post v m vs) = Post (renamed_value f v) m (map (renamed_value f) vs)
renamed_reducible f (Branch v these those) = Branch (renamed_value f v) (renamed_statements f these) (renamed_statements f those)
renamed_reducible f (Loop e ss) = Loop (renamed_expression f e) (renamed_statements f ss)
renamed_reducible f (Accept names) = Accept names
renamed_reducible f (Choose cs) = Choose (map (renamed_choice f) cs)
renamed_reducible f (Finish k v work) = Finish (renamed_name f k) (renamed_value f v) (renamed_statements f work)

abbrev pub renamed_found : {A : Type 0} → (ℕ → ℕ) → (A → A) → Found A → Found A
renamed_found f g (Evaluated a) = Evaluated (g a)
renamed_found f g (At r t) = At (renamed_reducible f r) (renamed_store f t)

abbrev pub renamed_part : (ℕ → ℕ) → Contractum → Contractum
renamed_part f (AsExpression e) = AsExpression (renamed_expression f e)
renamed_part f (AsStatements ss) = AsStatements (renamed_statements f ss)

abbrev pub nothing_renamed : Unit {0} → Unit {0}
nothing_renamed u = tt

module _ (f : ℕ → ℕ) where
  then_renamed : {A B : Type 0} (g : A → A) (h : B → B) (x' x : Found A) (next' next : A → Found B) → x' ≡ renamed_found f g x
      → ((a : A) → next' (g a) ≡ renamed_found f h (next a)) → and_then x' next' ≡ renamed_found f h (and_then x next)
  then_renamed g h x' (Evaluated a) next' next e n = ap (λ q. and_then q next') e ∙ n a
  then_renamed g h x' (At r t) next' next e n = ap (λ q. and_then q next') e

  post_found : (k : Option ℕ) (x' x : Found (Unit {0})) → x' ≡ renamed_found f nothing_renamed x
      → in_post (renamed_name f k) x' ≡ renamed_found f nothing_renamed (in_post k x)
  post_found None x' x e = e
  post_found (Some k) x' x e = refl

  left_renamed : (k : Option ℕ) (m : ℕ) (t : Store) (ss : Statements) (e : Expression) (qs : Statements)
      → left_served (renamed_name f k) m (renamed_store f t) (renamed_statements f ss) (renamed_expression f e) (renamed_statements f qs)
      ≡ renamed_statements f (left_served k m t ss e qs)
  left_renamed None m t ss e qs = refl
  left_renamed (Some k) m t ss e Done = refl
  left_renamed (Some k) m t ss e (Then s qs) = refl

  mutual
    pub expression_found : (t : Store) (e : Expression)
        → expression_redex (renamed_store f t) (renamed_expression f e) ≡ renamed_found f (renamed_value f) (expression_redex t e)
    expression_found t (Literal v p) = refl
    expression_found t (Me p) = refl
    expression_found t (Variable x p) = refl
    expression_found t (Create c p) = refl
    expression_found t (Prefix op e p) =
        then_renamed (renamed_value f) (renamed_value f) _ (expression_redex t e) _ (λ v. At (Unary op v) t) (expression_found t e) (λ v. refl)
    expression_found t (Infix op l r p) =
        then_renamed (renamed_value f) (renamed_value f) _ (expression_redex t l) _ (λ v. and_then (expression_redex t r) (λ w. At (Binary op v w) t)) (expression_found t l)
        (λ v. then_renamed (renamed_value f) (renamed_value f) _ (expression_redex t r) _ (λ w. At (Binary op v w) t) (expression_found t r) (λ w. refl))
    expression_found t (Call m es p) =
        then_renamed (map (renamed_value f)) (renamed_value f) _ (expressions_redex t es) _ (λ vs. At (Invoke m vs) t) (expressions_found t es) (λ vs. refl)
    expression_found t (Send e m es p) =
        then_renamed (renamed_value f) (renamed_value f) _ (expression_redex t e) _ (λ v. and_then (expressions_redex t es) (λ vs. At (SynchronousSend v m vs) t)) (expression_found t e)
        (λ v. then_renamed (map (renamed_value f)) (renamed_value f) _ (expressions_redex t es) _ (λ vs. At (SynchronousSend v m vs) t) (expressions_found t es) (λ vs. refl))
    expression_found t (Frame m u ss e qs) =
        then_renamed nothing_renamed (renamed_value f) _ (statements_redex u ss) _
        (λ done. and_then (expression_redex u e) (λ v. and_then (in_post None (statements_redex u qs)) (λ over. At (Leave v) u))) (statements_found u ss)
        (λ d. then_renamed (renamed_value f) (renamed_value f) _ (expression_redex u e) _ (λ v. and_then (in_post None (statements_redex u qs)) (λ over. At (Leave v) u)) (expression_found u e)
        (λ v. then_renamed nothing_renamed (renamed_value f) _ (in_post None (statements_redex u qs)) _ (λ over. At (Leave v) u) (statements_found u qs) (λ over. refl)))
    expression_found t (Wait b m) = refl

    pub expressions_found : (t : Store) (es : Expressions)
        → expressions_redex (renamed_store f t) (renamed_expressions f es) ≡ renamed_found f (map (renamed_value f)) (expressions_redex t es)
    expressions_found t NoArgs = refl
    expressions_found t (Arg e es) =
        then_renamed (renamed_value f) (map (renamed_value f)) _ (expression_redex t e) _ (λ v. and_then (expressions_redex t es) (λ vs. Evaluated (v ∷ vs))) (expression_found t e)
        (λ v. then_renamed (map (renamed_value f)) (map (renamed_value f)) _ (expressions_redex t es) _ (λ vs. Evaluated (v ∷ vs)) (expressions_found t es) (λ vs. refl))

    pub statement_found : (t : Store) (s : Statement)
        → statement_redex (renamed_store f t) (renamed_statement f s) ≡ renamed_found f nothing_renamed (statement_redex t s)
    statement_found t (Assign x p e) =
        then_renamed (renamed_value f) nothing_renamed _ (expression_redex t e) _ (λ v. At (Set x v) t) (expression_found t e) (λ v. refl)
    statement_found t (Write e) =
        then_renamed (renamed_value f) nothing_renamed _ (expression_redex t e) _ (λ v. At (Print (I.Value v)) t) (expression_found t e) (λ v. refl)
    statement_found t (WriteText s) = refl
    statement_found t (Do e) =
        then_renamed (renamed_value f) nothing_renamed _ (expression_redex t e) _ (λ v. At (Drop v) t) (expression_found t e) (λ v. refl)
    statement_found t (Async e m p es) =
        then_renamed (renamed_value f) nothing_renamed _ (expression_redex t e) _ (λ v. and_then (expressions_redex t es) (λ vs. At (Post v m vs) t)) (expression_found t e)
        (λ v. then_renamed (map (renamed_value f)) nothing_renamed _ (expressions_redex t es) _ (λ vs. At (Post v m vs) t) (expressions_found t es) (λ vs. refl))
    statement_found t (If e these those) =
        then_renamed (renamed_value f) nothing_renamed _ (expression_redex t e) _ (λ v. At (Branch v these those) t) (expression_found t e) (λ v. refl)
    statement_found t (While e ss) = refl
    statement_found t (Answer names) = refl
    statement_found t (Select alts) =
        then_renamed (map (renamed_choice f)) nothing_renamed _ (guards_redex t alts) _ (λ cs. At (Choose cs) t) (guards_found t alts) (λ cs. refl)
    statement_found t (Serve m k u ss e qs) =
        then_renamed nothing_renamed nothing_renamed _ (statements_redex u ss) _
        (λ done. and_then (expression_redex u e) (λ v. and_then (in_post k (statements_redex u qs)) (λ over. At (Finish k v (left_served k m u ss e qs)) u))) (statements_found u ss)
        (λ d. then_renamed (renamed_value f) nothing_renamed _ (expression_redex u e) _
        (λ v. and_then (in_post k (statements_redex u qs)) (λ over. At (Finish k v (left_served k m u ss e qs)) u)) (expression_found u e)
        (λ v. then_renamed nothing_renamed nothing_renamed _ (in_post k (statements_redex u qs)) _ (λ over. At (Finish k v (left_served k m u ss e qs)) u)
        (post_found k (statements_redex (renamed_store f u) (renamed_statements f qs)) (statements_redex u qs) (statements_found u qs))
        (λ over. ap (λ w. At (Finish (renamed_name f k) (renamed_value f v) w) (renamed_store f u)) (left_renamed k m u ss e qs))))

    pub statements_found : (t : Store) (ss : Statements)
        → statements_redex (renamed_store f t) (renamed_statements f ss) ≡ renamed_found f nothing_renamed (statements_redex t ss)
    statements_found t Done = refl
    statements_found t (Then s ss) = statement_found t s

    pub guards_found : (t : Store) (alts : Alternatives)
        → guards_redex (renamed_store f t) (renamed_alternatives f alts) ≡ renamed_found f (map (renamed_choice f)) (guards_redex t alts)
    guards_found t NoAlts = refl
    guards_found t (Alt e names ss alts) =
        then_renamed (renamed_value f) (map (renamed_choice f)) _ (expression_redex t e) _
        (λ v. and_then (guards_redex t alts) (λ cs. Evaluated (record { guard = v; answer = names; work = ss } ∷ cs))) (expression_found t e)
        (λ v. then_renamed (map (renamed_choice f)) (map (renamed_choice f)) _ (guards_redex t alts) _ (λ cs. Evaluated (record { guard = v; answer = names; work = ss } ∷ cs)) (guards_found t alts) (λ cs. refl))
