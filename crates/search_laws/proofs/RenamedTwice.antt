-- Two renamings, one after the other, are one.
use Rattle.std.proofs.Common.{◌≡◌, refl, ap, ◌∙◌, ℕ, List, [], ◌∷◌, Option, Some, None, map, option_map}
use Rattle.run_types.specs.declared.types.Value.{Value}
use Rattle.run_types.specs.declared.types.Value.TheVariants as V
use Rattle.run_types.specs.declared.types.Item.{Item}
use Rattle.run_types.specs.declared.types.Item.TheVariants as I
use Rattle.run_types.specs.Message.{Message}
use Rattle.pool_syntax.specs.Terms.{Store, Expression, Literal, Me, Variable, Create, Prefix, Infix, Call, Send, Frame, Wait, Expressions, NoArgs, Arg, Statement, Assign, Write, WriteText, Do, Async}
use Rattle.pool_syntax.specs.Terms.{If, While, Answer, Select, Serve, Statements, Done, Then, Alternatives, NoAlts, Alt}
use Rattle.pool_relation.specs.Action.{Object}
use Rattle.pool_relation.specs.Configuration.{Configuration, object_of, messages_of}
use Rattle.search_laws.specs.Renamed.{Renaming, renamed_value, renamed_item, renamed_store, renamed_name, renamed_expression, renamed_expressions, renamed_statement, renamed_statements, renamed_alternatives, renamed_object, renamed_message, IsRenamed}

abbrev pub composed : Renaming → Renaming → Renaming
composed f g = record {
  to = λ q. g.to (f.to q);
  from = λ q. f.from (g.from q);
  from_to = λ q. ap f.from (g.from_to (f.to q)) ∙ f.from_to q;
  to_from = λ q. ap g.to (f.to_from (g.from q)) ∙ g.to_from q;
}

module _ (f g : ℕ → ℕ) where
  abbrev h : ℕ → ℕ
  h q = g (f q)

  value_twice : (v : Value) → renamed_value g (renamed_value f v) ≡ renamed_value h v
  value_twice (V.Ref n) = refl
  value_twice (V.Int z) = refl
  value_twice (V.Bool b) = refl
  value_twice V.Nil = refl

  values_twice : (vs : List Value) → map (renamed_value g) (map (renamed_value f) vs) ≡ map (renamed_value h) vs
  values_twice [] = refl
  values_twice (v ∷ vs) = ap (λ w. w ∷ map (renamed_value g) (map (renamed_value f) vs)) (value_twice v) ∙ ap (λ r. renamed_value h v ∷ r) (values_twice vs)

  item_twice : (i : Item) → renamed_item g (renamed_item f i) ≡ renamed_item h i
  item_twice (I.Value v) = ap I.Value (value_twice v)
  item_twice (I.Text s) = refl

  pub items_twice : (is : List Item) → map (renamed_item g) (map (renamed_item f) is) ≡ map (renamed_item h) is
  items_twice [] = refl
  items_twice (i ∷ is) = ap (λ j. j ∷ map (renamed_item g) (map (renamed_item f) is)) (item_twice i) ∙ ap (λ r. renamed_item h i ∷ r) (items_twice is)

  store_twice : (t : Store) → renamed_store g (renamed_store f t) ≡ renamed_store h t
  store_twice [] = refl
  store_twice (b ∷ bs) = ap (λ v. (b.0, v) ∷ renamed_store g (renamed_store f bs)) (value_twice b.1) ∙ ap (λ r. (b.0, renamed_value h b.1) ∷ r) (store_twice bs)

  name_twice : (k : Option ℕ) → renamed_name g (renamed_name f k) ≡ renamed_name h k
  name_twice None = refl
  name_twice (Some k) = refl

  mutual
    expression_twice : (e : Expression) → renamed_expression g (renamed_expression f e) ≡ renamed_expression h e
    expression_twice (Literal v p) = ap (λ w. Literal w p) (value_twice v)
    expression_twice (Me p) = refl
    expression_twice (Variable x p) = refl
    expression_twice (Create c p) = refl
    expression_twice (Prefix op e p) = ap (λ x. Prefix op x p) (expression_twice e)
    expression_twice (Infix op l r p) = ap (λ x. Infix op x (renamed_expression g (renamed_expression f r)) p) (expression_twice l) ∙ ap (λ x. Infix op (renamed_expression h l) x p) (expression_twice r)
    expression_twice (Call m es p) = ap (λ x. Call m x p) (expressions_twice es)
    expression_twice (Send e m es p) = ap (λ x. Send x m (renamed_expressions g (renamed_expressions f es)) p) (expression_twice e) ∙ ap (λ x. Send (renamed_expression h e) m x p) (expressions_twice es)
    expression_twice (Frame m t ss e qs) =
        ap (λ x. Frame m x (renamed_statements g (renamed_statements f ss)) (renamed_expression g (renamed_expression f e)) (renamed_statements g (renamed_statements f qs))) (store_twice t)
        ∙ ap (λ x. Frame m (renamed_store h t) x (renamed_expression g (renamed_expression f e)) (renamed_statements g (renamed_statements f qs))) (statements_twice ss)
        ∙ ap (λ x. Frame m (renamed_store h t) (renamed_statements h ss) x (renamed_statements g (renamed_statements f qs))) (expression_twice e)
        ∙ ap (λ x. Frame m (renamed_store h t) (renamed_statements h ss) (renamed_expression h e) x) (statements_twice qs)
    expression_twice (Wait b m) = refl

    expressions_twice : (es : Expressions) → renamed_expressions g (renamed_expressions f es) ≡ renamed_expressions h es
    expressions_twice NoArgs = refl
    expressions_twice (Arg e es) = ap (λ x. Arg x (renamed_expressions g (renamed_expressions f es))) (expression_twice e) ∙ ap (λ x. Arg (renamed_expression h e) x) (expressions_twice es)

    statement_twice : (s : Statement) → renamed_statement g (renamed_statement f s) ≡ renamed_statement h s
    statement_twice (Assign x p e) = ap (λ y. Assign x p y) (expression_twice e)
    statement_twice (Write e) = ap Write (expression_twice e)
    statement_twice (WriteText s) = refl
    statement_twice (Do e) = ap Do (expression_twice e)
    statement_twice (Async e m p es) = ap (λ x. Async x m p (renamed_expressions g (renamed_expressions f es))) (expression_twice e) ∙ ap (λ x. Async (renamed_expression h e) m p x) (expressions_twice es)
    statement_twice (If e these those) =
        ap (λ x. If x (renamed_statements g (renamed_statements f these)) (renamed_statements g (renamed_statements f those))) (expression_twice e)
        ∙ ap (λ x. If (renamed_expression h e) x (renamed_statements g (renamed_statements f those))) (statements_twice these)
        ∙ ap (λ x. If (renamed_expression h e) (renamed_statements h these) x) (statements_twice those)
    statement_twice (While e ss) = ap (λ x. While x (renamed_statements g (renamed_statements f ss))) (expression_twice e) ∙ ap (λ x. While (renamed_expression h e) x) (statements_twice ss)
    statement_twice (Answer names) = refl
    statement_twice (Select alts) = ap Select (alternatives_twice alts)
    statement_twice (Serve m k t ss e qs) =
        ap (λ x. Serve m x (renamed_store g (renamed_store f t)) (renamed_statements g (renamed_statements f ss)) (renamed_expression g (renamed_expression f e)) (renamed_statements g (renamed_statements f qs))) (name_twice k)
        ∙ ap (λ x. Serve m (renamed_name h k) x (renamed_statements g (renamed_statements f ss)) (renamed_expression g (renamed_expression f e)) (renamed_statements g (renamed_statements f qs))) (store_twice t)
        ∙ ap (λ x. Serve m (renamed_name h k) (renamed_store h t) x (renamed_expression g (renamed_expression f e)) (renamed_statements g (renamed_statements f qs))) (statements_twice ss)
        ∙ ap (λ x. Serve m (renamed_name h k) (renamed_store h t) (renamed_statements h ss) x (renamed_statements g (renamed_statements f qs))) (expression_twice e)
        ∙ ap (λ x. Serve m (renamed_name h k) (renamed_store h t) (renamed_statements h ss) (renamed_expression h e) x) (statements_twice qs)

    statements_twice : (ss : Statements) → renamed_statements g (renamed_statements f ss) ≡ renamed_statements h ss
    statements_twice Done = refl
    statements_twice (Then s ss) = ap (λ x. Then x (renamed_statements g (renamed_statements f ss))) (statement_twice s) ∙ ap (λ x. Then (renamed_statement h s) x) (statements_twice ss)

    alternatives_twice : (alts : Alternatives) → renamed_alternatives g (renamed_alternatives f alts) ≡ renamed_alternatives h alts
    alternatives_twice NoAlts = refl
    alternatives_twice (Alt e names ss alts) =
        ap (λ x. Alt x names (renamed_statements g (renamed_statements f ss)) (renamed_alternatives g (renamed_alternatives f alts))) (expression_twice e)
        ∙ ap (λ x. Alt (renamed_expression h e) names x (renamed_alternatives g (renamed_alternatives f alts))) (statements_twice ss)
        ∙ ap (λ x. Alt (renamed_expression h e) names (renamed_statements h ss) x) (alternatives_twice alts)

  object_twice : (x : Object) → renamed_object g (renamed_object f x) ≡ renamed_object h x
  object_twice x =
      ap (λ t. record { class = x.class; vars = t; term = renamed_statements g (renamed_statements f x.term); fault = x.fault }) (store_twice x.vars)
      ∙ ap (λ t. record { class = x.class; vars = renamed_store h x.vars; term = t; fault = x.fault }) (statements_twice x.term)

  message_twice : (ms : List Message) → map (renamed_message g) (map (renamed_message f) ms) ≡ map (renamed_message h) ms
  message_twice [] = refl
  message_twice (m ∷ ms) =
      ap (λ (vs : List Value). record { method = m.method; args = vs } ∷ map (renamed_message g) (map (renamed_message f) ms)) (values_twice m.args) ∙ ap (λ r. renamed_message h m ∷ r) (message_twice ms)

pub renamed_twice : (f g : Renaming) (c d e : Configuration) → IsRenamed f.to c d → IsRenamed g.to d e → IsRenamed (composed f g).to c e
renamed_twice f g c d e one two =
    record {
      objects = λ o. two.objects (f.to o) ∙ ap (option_map (renamed_object g.to)) (one.objects o) ∙ by (object_of c o);
      messages = λ s r. two.messages (f.to s) (f.to r) ∙ ap (map (renamed_message g.to)) (one.messages s r) ∙ message_twice f.to g.to (messages_of c s r);
    }
  where
    by : (o : Option Object) → option_map (renamed_object g.to) (option_map (renamed_object f.to) o) ≡ option_map (renamed_object (composed f g).to) o
    by None = refl
    by (Some x) = ap Some (object_twice f.to g.to x)
