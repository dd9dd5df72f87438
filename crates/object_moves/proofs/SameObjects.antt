-- The tests of equality for terms and objects tell what is equal, and all of it.
use Rattle.std.proofs.Common.{◌≡◌, refl, sym, ap, ap₂, ◌∙◌, ℕ, ◌==◌, List, [], ◌∷◌, Option, Some, None, true, ◌&&◌, get_or, arith}
use Rattle.run_types.specs.declared.types.Error.{Error}
use Rattle.run_types.specs.declared.types.Op.{Op}
use Rattle.run_types.specs.declared.types.Op.TheVariants as O
use Rattle.run_types.specs.Same.{error_number}
use Rattle.run_types.specs.Values.{is_same}
use Rattle.run_types.proofs.Laws.{first, second, both, equal, equals, same_value, same_error, value_itself}
use Rattle.pool_syntax.specs.declared.tree.Named.{Named}
use Rattle.pool_syntax.specs.Terms as T
use Rattle.pool_syntax.specs.Terms.{Store, Expression, Expressions, Statement, Statements, Alternatives}
use Rattle.pool_relation.specs.Action.{Object}
use Rattle.object_moves.specs.SameObjects.{op_number, same_store, same_names, same_caller, same_answer, same_expression, same_expressions, same_statement, same_statements, same_alternatives, same_fault, same_object, same_one}

-- the operator with this number
abbrev op_at : ℕ → Op
op_at n = get_or (O.Add ∷ O.Sub ∷ O.Mul ∷ O.Div ∷ O.Rem ∷ O.Neg ∷ O.Less ∷ O.LessEq ∷ O.More ∷ O.MoreEq ∷ O.Same ∷ O.Differs ∷ O.And ∷ O.Or ∷ O.Not ∷ []) n O.Not

op_back : (o : Op) → op_at (op_number o) ≡ o
op_back O.Add = refl
op_back O.Sub = refl
op_back O.Mul = refl
op_back O.Div = refl
op_back O.Rem = refl
op_back O.Neg = refl
op_back O.Less = refl
op_back O.LessEq = refl
op_back O.More = refl
op_back O.MoreEq = refl
op_back O.Same = refl
op_back O.Differs = refl
op_back O.And = refl
op_back O.Or = refl
op_back O.Not = refl

op_is : (o q : Op) → (op_number o == op_number q) ≡ true → o ≡ q
op_is o q h = sym (op_back o) ∙ ap op_at (equal (op_number o) (op_number q) h) ∙ op_back q

store_is : (xs ys : Store) → same_store xs ys ≡ true → xs ≡ ys
store_is [] [] h = refl
store_is (x ∷ xs) (y ∷ ys) h =
    let r = second (x.0 == y.0) (is_same x.1 y.1 && same_store xs ys) h in
    let a = equal x.0 y.0 (first (x.0 == y.0) (is_same x.1 y.1 && same_store xs ys) h) in
    let b = same_value x.1 y.1 (first (is_same x.1 y.1) (same_store xs ys) r) in
    ap₂ (λ z zs. z ∷ zs) (ap₂ (λ m v. (m, v)) a b) (store_is xs ys (second (is_same x.1 y.1) (same_store xs ys) r))
store_is [] (y ∷ ys) h = absurd (grind (arith, h))
store_is (x ∷ xs) [] h = absurd (grind (arith, h))

names_are : (xs ys : List Named) → same_names xs ys ≡ true → xs ≡ ys
names_are [] [] h = refl
names_are (x ∷ xs) (y ∷ ys) h =
    let r = second (x.name.0 == y.name.0) ((x.pos == y.pos) && same_names xs ys) h in
    let a = equal x.name.0 y.name.0 (first (x.name.0 == y.name.0) ((x.pos == y.pos) && same_names xs ys) h) in
    let b = equal x.pos y.pos (first (x.pos == y.pos) (same_names xs ys) r) in
    ap₂ (λ z zs. z ∷ zs) (ap₂ (λ m q. the_name m q) a b) (names_are xs ys (second (x.pos == y.pos) (same_names xs ys) r))
  where
    the_name : ℕ → ℕ → Named
    the_name m q = record { name = record { 0 = m }; pos = q }
names_are [] (y ∷ ys) h = absurd (grind (arith, h))
names_are (x ∷ xs) [] h = absurd (grind (arith, h))

caller_is : (a b : Option ℕ) → same_caller a b ≡ true → a ≡ b
caller_is None None h = refl
caller_is (Some a) (Some b) h = ap Some (equal a b h)
caller_is None (Some b) h = absurd (grind (arith, h))
caller_is (Some a) None h = absurd (grind (arith, h))

answer_is : (a b : Option (List Named)) → same_answer a b ≡ true → a ≡ b
answer_is None None h = refl
answer_is (Some a) (Some b) h = ap Some (names_are a b h)
answer_is None (Some b) h = absurd (grind (arith, h))
answer_is (Some a) None h = absurd (grind (arith, h))

mutual
  expression_is : (a b : Expression) → same_expression a b ≡ true → a ≡ b
  expression_is (T.Literal x0 x1) (T.Literal y0 y1) h =
      let e0 = same_value x0 y0 (first (is_same x0 y0) ((x1 == y1)) h) in
      let h0 = second (is_same x0 y0) ((x1 == y1)) h in
      let e1 = equal x1 y1 h0 in
      cc
  expression_is (T.Me x0) (T.Me y0) h = ap T.Me (equal x0 y0 h)
  expression_is (T.Variable x0 x1) (T.Variable y0 y1) h =
      let e0 = equal x0 y0 (first (x0 == y0) ((x1 == y1)) h) in
      let h0 = second (x0 == y0) ((x1 == y1)) h in
      let e1 = equal x1 y1 h0 in
      cc
  expression_is (T.Create x0 x1) (T.Create y0 y1) h =
      let e0 = equal x0 y0 (first (x0 == y0) ((x1 == y1)) h) in
      let h0 = second (x0 == y0) ((x1 == y1)) h in
      let e1 = equal x1 y1 h0 in
      cc
  expression_is (T.Prefix x0 x1 x2) (T.Prefix y0 y1 y2) h =
      let e0 = op_is x0 y0 (first (op_number x0 == op_number y0) (same_expression x1 y1 && ((x2 == y2))) h) in
      let h0 = second (op_number x0 == op_number y0) (same_expression x1 y1 && ((x2 == y2))) h in
      let e1 = expression_is x1 y1 (first (same_expression x1 y1) ((x2 == y2)) h0) in
      let h1 = second (same_expression x1 y1) ((x2 == y2)) h0 in
      let e2 = equal x2 y2 h1 in
      cc
  expression_is (T.Infix x0 x1 x2 x3) (T.Infix y0 y1 y2 y3) h =
      let e0 = op_is x0 y0 (first (op_number x0 == op_number y0) (same_expression x1 y1 && (same_expression x2 y2 && ((x3 == y3)))) h) in
      let h0 = second (op_number x0 == op_number y0) (same_expression x1 y1 && (same_expression x2 y2 && ((x3 == y3)))) h in
      let e1 = expression_is x1 y1 (first (same_expression x1 y1) (same_expression x2 y2 && ((x3 == y3))) h0) in
      let h1 = second (same_expression x1 y1) (same_expression x2 y2 && ((x3 == y3))) h0 in
      let e2 = expression_is x2 y2 (first (same_expression x2 y2) ((x3 == y3)) h1) in
      let h2 = second (same_expression x2 y2) ((x3 == y3)) h1 in
      let e3 = equal x3 y3 h2 in
      cc
  expression_is (T.Call x0 x1 x2) (T.Call y0 y1 y2) h =
      let e0 = equal x0 y0 (first (x0 == y0) (same_expressions x1 y1 && ((x2 == y2))) h) in
      let h0 = second (x0 == y0) (same_expressions x1 y1 && ((x2 == y2))) h in
      let e1 = expressions_are x1 y1 (first (same_expressions x1 y1) ((x2 == y2)) h0) in
      let h1 = second (same_expressions x1 y1) ((x2 == y2)) h0 in
      let e2 = equal x2 y2 h1 in
      cc
  expression_is (T.Send x0 x1 x2 x3) (T.Send y0 y1 y2 y3) h =
      let e0 = expression_is x0 y0 (first (same_expression x0 y0) ((x1 == y1) && (same_expressions x2 y2 && ((x3 == y3)))) h) in
      let h0 = second (same_expression x0 y0) ((x1 == y1) && (same_expressions x2 y2 && ((x3 == y3)))) h in
      let e1 = equal x1 y1 (first (x1 == y1) (same_expressions x2 y2 && ((x3 == y3))) h0) in
      let h1 = second (x1 == y1) (same_expressions x2 y2 && ((x3 == y3))) h0 in
      let e2 = expressions_are x2 y2 (first (same_expressions x2 y2) ((x3 == y3)) h1) in
      let h2 = second (same_expressions x2 y2) ((x3 == y3)) h1 in
      let e3 = equal x3 y3 h2 in
      cc
  expression_is (T.Frame x0 x1 x2 x3 x4) (T.Frame y0 y1 y2 y3 y4) h =
      let e0 = equal x0 y0 (first (x0 == y0) (same_store x1 y1 && (same_statements x2 y2 && (same_expression x3 y3 && (same_statements x4 y4)))) h) in
      let h0 = second (x0 == y0) (same_store x1 y1 && (same_statements x2 y2 && (same_expression x3 y3 && (same_statements x4 y4)))) h in
      let e1 = store_is x1 y1 (first (same_store x1 y1) (same_statements x2 y2 && (same_expression x3 y3 && (same_statements x4 y4))) h0) in
      let h1 = second (same_store x1 y1) (same_statements x2 y2 && (same_expression x3 y3 && (same_statements x4 y4))) h0 in
      let e2 = statements_are x2 y2 (first (same_statements x2 y2) (same_expression x3 y3 && (same_statements x4 y4)) h1) in
      let h2 = second (same_statements x2 y2) (same_expression x3 y3 && (same_statements x4 y4)) h1 in
      let e3 = expression_is x3 y3 (first (same_expression x3 y3) (same_statements x4 y4) h2) in
      let h3 = second (same_expression x3 y3) (same_statements x4 y4) h2 in
      let e4 = statements_are x4 y4 h3 in
      cc
  expression_is (T.Wait x0 x1) (T.Wait y0 y1) h =
      let e0 = equal x0 y0 (first (x0 == y0) ((x1 == y1)) h) in
      let h0 = second (x0 == y0) ((x1 == y1)) h in
      let e1 = equal x1 y1 h0 in
      cc
  expression_is _ _ h = absurd (grind (arith, h))

  expressions_are : (a b : Expressions) → same_expressions a b ≡ true → a ≡ b
  expressions_are T.NoArgs T.NoArgs h = refl
  expressions_are (T.Arg x0 x1) (T.Arg y0 y1) h =
      let e0 = expression_is x0 y0 (first (same_expression x0 y0) (same_expressions x1 y1) h) in
      let h0 = second (same_expression x0 y0) (same_expressions x1 y1) h in
      let e1 = expressions_are x1 y1 h0 in
      cc
  expressions_are _ _ h = absurd (grind (arith, h))

  statement_is : (a b : Statement) → same_statement a b ≡ true → a ≡ b
  statement_is (T.Assign x0 x1 x2) (T.Assign y0 y1 y2) h =
      let e0 = equal x0 y0 (first (x0 == y0) ((x1 == y1) && (same_expression x2 y2)) h) in
      let h0 = second (x0 == y0) ((x1 == y1) && (same_expression x2 y2)) h in
      let e1 = equal x1 y1 (first (x1 == y1) (same_expression x2 y2) h0) in
      let h1 = second (x1 == y1) (same_expression x2 y2) h0 in
      let e2 = expression_is x2 y2 h1 in
      cc
  statement_is (T.Write x0) (T.Write y0) h = ap T.Write (expression_is x0 y0 h)
  statement_is (T.WriteText x0) (T.WriteText y0) h = ap T.WriteText (equal x0 y0 h)
  statement_is (T.Do x0) (T.Do y0) h = ap T.Do (expression_is x0 y0 h)
  statement_is (T.Async x0 x1 x2 x3) (T.Async y0 y1 y2 y3) h =
      let e0 = expression_is x0 y0 (first (same_expression x0 y0) ((x1 == y1) && ((x2 == y2) && (same_expressions x3 y3))) h) in
      let h0 = second (same_expression x0 y0) ((x1 == y1) && ((x2 == y2) && (same_expressions x3 y3))) h in
      let e1 = equal x1 y1 (first (x1 == y1) ((x2 == y2) && (same_expressions x3 y3)) h0) in
      let h1 = second (x1 == y1) ((x2 == y2) && (same_expressions x3 y3)) h0 in
      let e2 = equal x2 y2 (first (x2 == y2) (same_expressions x3 y3) h1) in
      let h2 = second (x2 == y2) (same_expressions x3 y3) h1 in
      let e3 = expressions_are x3 y3 h2 in
      cc
  statement_is (T.If x0 x1 x2) (T.If y0 y1 y2) h =
      let e0 = expression_is x0 y0 (first (same_expression x0 y0) (same_statements x1 y1 && (same_statements x2 y2)) h) in
      let h0 = second (same_expression x0 y0) (same_statements x1 y1 && (same_statements x2 y2)) h in
      let e1 = statements_are x1 y1 (first (same_statements x1 y1) (same_statements x2 y2) h0) in
      let h1 = second (same_statements x1 y1) (same_statements x2 y2) h0 in
      let e2 = statements_are x2 y2 h1 in
      cc
  statement_is (T.While x0 x1) (T.While y0 y1) h =
      let e0 = expression_is x0 y0 (first (same_expression x0 y0) (same_statements x1 y1) h) in
      let h0 = second (same_expression x0 y0) (same_statements x1 y1) h in
      let e1 = statements_are x1 y1 h0 in
      cc
  statement_is (T.Answer x0) (T.Answer y0) h = ap T.Answer (names_are x0 y0 h)
  statement_is (T.Select x0) (T.Select y0) h = ap T.Select (alternatives_are x0 y0 h)
  statement_is (T.Serve x0 x1 x2 x3 x4 x5) (T.Serve y0 y1 y2 y3 y4 y5) h =
      let e0 = equal x0 y0 (first (x0 == y0) (same_caller x1 y1 && (same_store x2 y2 && (same_statements x3 y3 && (same_expression x4 y4 && (same_statements x5 y5))))) h) in
      let h0 = second (x0 == y0) (same_caller x1 y1 && (same_store x2 y2 && (same_statements x3 y3 && (same_expression x4 y4 && (same_statements x5 y5))))) h in
      let e1 = caller_is x1 y1 (first (same_caller x1 y1) (same_store x2 y2 && (same_statements x3 y3 && (same_expression x4 y4 && (same_statements x5 y5)))) h0) in
      let h1 = second (same_caller x1 y1) (same_store x2 y2 && (same_statements x3 y3 && (same_expression x4 y4 && (same_statements x5 y5)))) h0 in
      let e2 = store_is x2 y2 (first (same_store x2 y2) (same_statements x3 y3 && (same_expression x4 y4 && (same_statements x5 y5))) h1) in
      let h2 = second (same_store x2 y2) (same_statements x3 y3 && (same_expression x4 y4 && (same_statements x5 y5))) h1 in
      let e3 = statements_are x3 y3 (first (same_statements x3 y3) (same_expression x4 y4 && (same_statements x5 y5)) h2) in
      let h3 = second (same_statements x3 y3) (same_expression x4 y4 && (same_statements x5 y5)) h2 in
      let e4 = expression_is x4 y4 (first (same_expression x4 y4) (same_statements x5 y5) h3) in
      let h4 = second (same_expression x4 y4) (same_statements x5 y5) h3 in
      let e5 = statements_are x5 y5 h4 in
      cc
  statement_is _ _ h = absurd (grind (arith, h))

  statements_are : (a b : Statements) → same_statements a b ≡ true → a ≡ b
  statements_are T.Done T.Done h = refl
  statements_are (T.Then x0 x1) (T.Then y0 y1) h =
      let e0 = statement_is x0 y0 (first (same_statement x0 y0) (same_statements x1 y1) h) in
      let h0 = second (same_statement x0 y0) (same_statements x1 y1) h in
      let e1 = statements_are x1 y1 h0 in
      cc
  statements_are _ _ h = absurd (grind (arith, h))

  alternatives_are : (a b : Alternatives) → same_alternatives a b ≡ true → a ≡ b
  alternatives_are T.NoAlts T.NoAlts h = refl
  alternatives_are (T.Alt x0 x1 x2 x3) (T.Alt y0 y1 y2 y3) h =
      let e0 = expression_is x0 y0 (first (same_expression x0 y0) (same_answer x1 y1 && (same_statements x2 y2 && (same_alternatives x3 y3))) h) in
      let h0 = second (same_expression x0 y0) (same_answer x1 y1 && (same_statements x2 y2 && (same_alternatives x3 y3))) h in
      let e1 = answer_is x1 y1 (first (same_answer x1 y1) (same_statements x2 y2 && (same_alternatives x3 y3)) h0) in
      let h1 = second (same_answer x1 y1) (same_statements x2 y2 && (same_alternatives x3 y3)) h0 in
      let e2 = statements_are x2 y2 (first (same_statements x2 y2) (same_alternatives x3 y3) h1) in
      let h2 = second (same_statements x2 y2) (same_alternatives x3 y3) h1 in
      let e3 = alternatives_are x3 y3 h2 in
      cc
  alternatives_are _ _ h = absurd (grind (arith, h))

store_itself : (xs : Store) → same_store xs xs ≡ true
store_itself [] = refl
store_itself (x ∷ xs) = both (x.0 == x.0) (is_same x.1 x.1 && same_store xs xs) (equals x.0) (both (is_same x.1 x.1) (same_store xs xs) (value_itself x.1) (store_itself xs))

names_themselves : (xs : List Named) → same_names xs xs ≡ true
names_themselves [] = refl
names_themselves (x ∷ xs) = both (x.name.0 == x.name.0) ((x.pos == x.pos) && same_names xs xs) (equals x.name.0) (both (x.pos == x.pos) (same_names xs xs) (equals x.pos) (names_themselves xs))

caller_itself : (a : Option ℕ) → same_caller a a ≡ true
caller_itself None = refl
caller_itself (Some a) = equals a

answer_itself : (a : Option (List Named)) → same_answer a a ≡ true
answer_itself None = refl
answer_itself (Some xs) = names_themselves xs

mutual
  expression_itself : (a : Expression) → same_expression a a ≡ true
  expression_itself (T.Literal x0 x1) = both (is_same x0 x0) ((x1 == x1)) (value_itself x0) (equals x1)
  expression_itself (T.Me x0) = equals x0
  expression_itself (T.Variable x0 x1) = both (x0 == x0) ((x1 == x1)) (equals x0) (equals x1)
  expression_itself (T.Create x0 x1) = both (x0 == x0) ((x1 == x1)) (equals x0) (equals x1)
  expression_itself (T.Prefix x0 x1 x2) = both (op_number x0 == op_number x0) (same_expression x1 x1 && ((x2 == x2))) (equals (op_number x0)) (both (same_expression x1 x1) ((x2 == x2)) (expression_itself x1) (equals x2))
  expression_itself (T.Infix x0 x1 x2 x3) = both (op_number x0 == op_number x0) (same_expression x1 x1 && (same_expression x2 x2 && ((x3 == x3)))) (equals (op_number x0)) (both (same_expression x1 x1) (same_expression x2 x2 && ((x3 == x3))) (expression_itself x1) (both (same_expression x2 x2) ((x3 == x3)) (expression_itself x2) (equals x3)))
  expression_itself (T.Call x0 x1 x2) = both (x0 == x0) (same_expressions x1 x1 && ((x2 == x2))) (equals x0) (both (same_expressions x1 x1) ((x2 == x2)) (expressions_themselves x1) (equals x2))
  expression_itself (T.Send x0 x1 x2 x3) = both (same_expression x0 x0) ((x1 == x1) && (same_expressions x2 x2 && ((x3 == x3)))) (expression_itself x0) (both (x1 == x1) (same_expressions x2 x2 && ((x3 == x3))) (equals x1) (both (same_expressions x2 x2) ((x3 == x3)) (expressions_themselves x2) (equals x3)))
  expression_itself (T.Frame x0 x1 x2 x3 x4) = both (x0 == x0) (same_store x1 x1 && (same_statements x2 x2 && (same_expression x3 x3 && (same_statements x4 x4)))) (equals x0) (both (same_store x1 x1) (same_statements x2 x2 && (same_expression x3 x3 && (same_statements x4 x4))) (store_itself x1) (both (same_statements x2 x2) (same_expression x3 x3 && (same_statements x4 x4)) (statements_themselves x2) (both (same_expression x3 x3) (same_statements x4 x4) (expression_itself x3) (statements_themselves x4))))
  expression_itself (T.Wait x0 x1) = both (x0 == x0) ((x1 == x1)) (equals x0) (equals x1)

  expressions_themselves : (a : Expressions) → same_expressions a a ≡ true
  expressions_themselves T.NoArgs = refl
  expressions_themselves (T.Arg x0 x1) = both (same_expression x0 x0) (same_expressions x1 x1) (expression_itself x0) (expressions_themselves x1)

  statement_itself : (a : Statement) → same_statement a a ≡ true
  statement_itself (T.Assign x0 x1 x2) = both (x0 == x0) ((x1 == x1) && (same_expression x2 x2)) (equals x0) (both (x1 == x1) (same_expression x2 x2) (equals x1) (expression_itself x2))
  statement_itself (T.Write x0) = expression_itself x0
  statement_itself (T.WriteText x0) = equals x0
  statement_itself (T.Do x0) = expression_itself x0
  statement_itself (T.Async x0 x1 x2 x3) = both (same_expression x0 x0) ((x1 == x1) && ((x2 == x2) && (same_expressions x3 x3))) (expression_itself x0) (both (x1 == x1) ((x2 == x2) && (same_expressions x3 x3)) (equals x1) (both (x2 == x2) (same_expressions x3 x3) (equals x2) (expressions_themselves x3)))
  statement_itself (T.If x0 x1 x2) = both (same_expression x0 x0) (same_statements x1 x1 && (same_statements x2 x2)) (expression_itself x0) (both (same_statements x1 x1) (same_statements x2 x2) (statements_themselves x1) (statements_themselves x2))
  statement_itself (T.While x0 x1) = both (same_expression x0 x0) (same_statements x1 x1) (expression_itself x0) (statements_themselves x1)
  statement_itself (T.Answer x0) = names_themselves x0
  statement_itself (T.Select x0) = alternatives_themselves x0
  statement_itself (T.Serve x0 x1 x2 x3 x4 x5) = both (x0 == x0) (same_caller x1 x1 && (same_store x2 x2 && (same_statements x3 x3 && (same_expression x4 x4 && (same_statements x5 x5))))) (equals x0) (both (same_caller x1 x1) (same_store x2 x2 && (same_statements x3 x3 && (same_expression x4 x4 && (same_statements x5 x5)))) (caller_itself x1) (both (same_store x2 x2) (same_statements x3 x3 && (same_expression x4 x4 && (same_statements x5 x5))) (store_itself x2) (both (same_statements x3 x3) (same_expression x4 x4 && (same_statements x5 x5)) (statements_themselves x3) (both (same_expression x4 x4) (same_statements x5 x5) (expression_itself x4) (statements_themselves x5)))))

  statements_themselves : (a : Statements) → same_statements a a ≡ true
  statements_themselves T.Done = refl
  statements_themselves (T.Then x0 x1) = both (same_statement x0 x0) (same_statements x1 x1) (statement_itself x0) (statements_themselves x1)

  alternatives_themselves : (a : Alternatives) → same_alternatives a a ≡ true
  alternatives_themselves T.NoAlts = refl
  alternatives_themselves (T.Alt x0 x1 x2 x3) = both (same_expression x0 x0) (same_answer x1 x1 && (same_statements x2 x2 && (same_alternatives x3 x3))) (expression_itself x0) (both (same_answer x1 x1) (same_statements x2 x2 && (same_alternatives x3 x3)) (answer_itself x1) (both (same_statements x2 x2) (same_alternatives x3 x3) (statements_themselves x2) (alternatives_themselves x3)))

fault_is : (a b : Option Error) → same_fault a b ≡ true → a ≡ b
fault_is None None h = refl
fault_is (Some e) (Some f) h = ap Some (same_error e f h)
fault_is None (Some f) h = absurd (grind (arith, h))
fault_is (Some e) None h = absurd (grind (arith, h))

fault_itself : (a : Option Error) → same_fault a a ≡ true
fault_itself None = refl
fault_itself (Some e) = equals (error_number e)

pub object_is : (x y : Object) → same_object x y ≡ true → x ≡ y
object_is x y h =
    let vars = same_store x.vars y.vars in
    let term = same_statements x.term y.term in
    let fault = same_fault x.fault y.fault in
    let a = equal x.class y.class (first (x.class == y.class) (vars && (term && fault)) h) in
    let r = second (x.class == y.class) (vars && (term && fault)) h in
    let b = store_is x.vars y.vars (first vars (term && fault) r) in
    let s = second vars (term && fault) r in
    let c = statements_are x.term y.term (first term fault s) in
    let d = fault_is x.fault y.fault (second term fault s) in
    ap₂ (λ k v. the_object k v x.term x.fault) a b ∙ ap₂ (λ t f. the_object y.class y.vars t f) c d
  where
    the_object : ℕ → Store → Statements → Option Error → Object
    the_object k v t f = record { class = k; vars = v; term = t; fault = f }

object_itself : (x : Object) → same_object x x ≡ true
object_itself x =
    both (x.class == x.class) (same_store x.vars x.vars && (same_statements x.term x.term && same_fault x.fault x.fault)) (equals x.class)
    (both (same_store x.vars x.vars) (same_statements x.term x.term && same_fault x.fault x.fault) (store_itself x.vars)
    (both (same_statements x.term x.term) (same_fault x.fault x.fault) (statements_themselves x.term) (fault_itself x.fault)))

pub one_is : (x y : Option Object) → same_one x y ≡ true → x ≡ y
one_is None None h = refl
one_is (Some x) (Some y) h = ap Some (object_is x y h)
one_is None (Some y) h = absurd (grind (arith, h))
one_is (Some x) None h = absurd (grind (arith, h))

one_itself : (x : Option Object) → same_one x x ≡ true
one_itself None = refl
one_itself (Some x) = object_itself x

-- what is equal is told
pub one_told : (x y : Option Object) → x ≡ y → same_one x y ≡ true
one_told x y e = ap (same_one x) (sym e) ∙ one_itself x
