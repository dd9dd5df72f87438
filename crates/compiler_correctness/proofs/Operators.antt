-- The value of an operator on operands, and its effect on their sorts.
use Rattle.run_types.proofs.Laws.{given_by}
use Rattle.std.proofs.Common.{◌≡◌, refl, ap, ◌∙◌, zero, suc, ℤ, pos, negsuc, List, ◌∷◌, Some, Bool, true, false}
use Rattle.std.specs.Prelude.{◌+ℤ◌, ◌-ℤ◌, ◌*ℤ◌, neg_ℤ, int_div, int_rem, ◌&&◌, ◌||◌, if◌then◌else◌}
use Rattle.run_types.specs.declared.types.Value.{Value}
use Rattle.run_types.specs.declared.types.Value.TheVariants as V
use Rattle.run_types.specs.declared.types.Op.{Op}
use Rattle.run_types.specs.declared.types.Op.TheVariants as O
use Rattle.run_types.specs.Values.{Outcome, number, quotient, remainder, is_in_range, on_ints, on_bools, negated, denied, prefix_value, infix_value, is_prefix}
use Rattle.run_types.specs.Sorts.{Sort, IntSort, BoolSort, op_sort, operand_sort}
use Rattle.run_types.specs.Partial.{◌>>=◌}
use Rattle.run_types.specs.Operands.{top, below, dropped}
use Rattle.code_semantics.specs.Kinds.{operated, arity}
use Rattle.code_semantics.specs.Step.{outcome_value}
use Rattle.code_typing.specs.Sorts.{Stack, pop_fitting, pop_alike, push_sort, operated_sorts}
use Rattle.compiler_correctness.specs.TypedCode.{Classes, IsOfSort, AreOfSorts}
use Rattle.compiler_correctness.proofs.Operands.{push_some, popped, popped_alike}

module _ (at : Classes) where
  abbrev Makes : Sort → Outcome → Type 0
  Makes s o = IsOfSort at (outcome_value o) s

  if_makes : (s : Sort) (b : Bool) (x y : Outcome) → Makes s x → Makes s y → Makes s (if b then x else y)
  if_makes s true x y p q = p
  if_makes s false x y p q = q

  number_int : (z : ℤ) → Makes IntSort (number z)
  number_int z = if_makes IntSort (is_in_range z) _ _ refl tt

  quotient_int : (x y : ℤ) → Makes IntSort (quotient x y)
  quotient_int x (pos zero) = tt
  quotient_int x (pos (suc n)) = number_int (int_div x (pos (suc n)))
  quotient_int x (negsuc n) = number_int (int_div x (negsuc n))

  remainder_int : (x y : ℤ) → Makes IntSort (remainder x y)
  remainder_int x (pos zero) = tt
  remainder_int x (pos (suc n)) = number_int (int_rem x (pos (suc n)))
  remainder_int x (negsuc n) = number_int (int_rem x (negsuc n))

  ints_make : (s : Sort) (f : ℤ → ℤ → Outcome) → ((x y : ℤ) → Makes s (f x y)) → (a b : Value) → Makes s (on_ints f a b)
  ints_make s f n V.Nil b = tt
  ints_make s f n (V.Int x) V.Nil = tt
  ints_make s f n (V.Bool x) V.Nil = tt
  ints_make s f n (V.Ref x) V.Nil = tt
  ints_make s f n (V.Int x) (V.Int y) = n x y
  ints_make s f n _ _ = tt

  bools_make : (f : Bool → Bool → Bool) (a b : Value) → Makes BoolSort (on_bools f a b)
  bools_make f V.Nil b = tt
  bools_make f (V.Int x) V.Nil = tt
  bools_make f (V.Bool x) V.Nil = tt
  bools_make f (V.Ref x) V.Nil = tt
  bools_make f (V.Bool x) (V.Bool y) = refl
  bools_make f _ _ = tt

  infix_makes : (op : Op) (a b : Value) → Makes (op_sort op) (infix_value op a b)
  infix_makes O.Add a b = ints_make IntSort _ (λ x y. number_int (x +ℤ y)) a b
  infix_makes O.Sub a b = ints_make IntSort _ (λ x y. number_int (x -ℤ y)) a b
  infix_makes O.Mul a b = ints_make IntSort _ (λ x y. number_int (x *ℤ y)) a b
  infix_makes O.Div a b = ints_make IntSort quotient quotient_int a b
  infix_makes O.Rem a b = ints_make IntSort remainder remainder_int a b
  infix_makes O.Less a b = ints_make BoolSort _ (λ x y. refl) a b
  infix_makes O.LessEq a b = ints_make BoolSort _ (λ x y. refl) a b
  infix_makes O.More a b = ints_make BoolSort _ (λ x y. refl) a b
  infix_makes O.MoreEq a b = ints_make BoolSort _ (λ x y. refl) a b
  infix_makes O.Same a b = refl
  infix_makes O.Differs a b = refl
  infix_makes O.And a b = bools_make ◌&&◌ a b
  infix_makes O.Or a b = bools_make ◌||◌ a b
  infix_makes O.Neg a b = tt
  infix_makes O.Not a b = tt

  negated_int : (v : Value) → Makes IntSort (negated v)
  negated_int (V.Int x) = number_int (neg_ℤ x)
  negated_int V.Nil = tt
  negated_int _ = tt

  denied_bool : (v : Value) → Makes BoolSort (denied v)
  denied_bool (V.Bool b) = refl
  denied_bool V.Nil = tt
  denied_bool _ = tt

  prefix_makes : (op : Op) (v : Value) → Makes (op_sort op) (prefix_value op v)
  prefix_makes O.Neg v = negated_int v
  prefix_makes O.Not v = denied_bool v
  prefix_makes _ v = tt

  -- what an operator makes is of its sort
  pub operated_makes : (op : Op) (vs : List Value) → IsOfSort at (outcome_value (operated op vs)) (op_sort op)
  operated_makes op vs =
      if_makes (op_sort op) (is_prefix op) (prefix_value op (top vs)) (infix_value op (top (below vs)) (top vs)) (prefix_makes op (top vs)) (infix_makes op (top (below vs)) (top vs))

  -- and it takes its operands
  abbrev Leaves : Op → List Value → Stack → Type 0
  Leaves op vs r = (rest : Stack) × (op_sort op ∷ rest ≡ r) × AreOfSorts at (dropped (arity op) vs) rest

  one_left : (op : Op) (vs : List Value) (ss r : Stack) → AreOfSorts at vs ss → push_sort (op_sort op) (pop_fitting (operand_sort op) ss) ≡ Some r
      → (rest : Stack) × (op_sort op ∷ rest ≡ r) × AreOfSorts at (below vs) rest
  one_left op vs ss r h e =
      let t = push_some (op_sort op) (pop_fitting (operand_sort op) ss) r e in (t.0, t.2, (popped at (operand_sort op) vs ss t.0 h t.1).1)

  two_left : (op : Op) (vs : List Value) (ss r : Stack) → AreOfSorts at vs ss
      → push_sort (op_sort op) (pop_fitting (operand_sort op) ss >>= λ rest. pop_fitting (operand_sort op) rest) ≡ Some r
      → (rest : Stack) × (op_sort op ∷ rest ≡ r) × AreOfSorts at (below (below vs)) rest
  two_left op vs ss r h e =
      let t = push_some (op_sort op) (pop_fitting (operand_sort op) ss >>= λ rest. pop_fitting (operand_sort op) rest) r e in
      let q = given_by (pop_fitting (operand_sort op) ss) (λ rest. pop_fitting (operand_sort op) rest) t.0 t.1 in
      (t.0, t.2, (popped at (operand_sort op) (below vs) q.0 t.0 (popped at (operand_sort op) vs ss q.0 h q.1).1 q.2).1)

  alike_left : (op : Op) (vs : List Value) (ss r : Stack) → op_sort op ≡ BoolSort → AreOfSorts at vs ss → push_sort BoolSort (pop_alike ss) ≡ Some r
      → (rest : Stack) × (op_sort op ∷ rest ≡ r) × AreOfSorts at (below (below vs)) rest
  alike_left op vs ss r s h e =
      let t = push_some BoolSort (pop_alike ss) r e in (t.0, ap (λ q. q ∷ t.0) s ∙ t.2, popped_alike at vs ss t.0 h t.1)

  pub operated_left : (op : Op) (vs : List Value) (ss r : Stack) → AreOfSorts at vs ss → operated_sorts op ss ≡ Some r → Leaves op vs r
  operated_left O.Neg vs ss r h e = one_left O.Neg vs ss r h e
  operated_left O.Not vs ss r h e = one_left O.Not vs ss r h e
  operated_left O.Same vs ss r h e = alike_left O.Same vs ss r refl h e
  operated_left O.Differs vs ss r h e = alike_left O.Differs vs ss r refl h e
  operated_left O.Add vs ss r h e = two_left O.Add vs ss r h e
  operated_left O.Sub vs ss r h e = two_left O.Sub vs ss r h e
  operated_left O.Mul vs ss r h e = two_left O.Mul vs ss r h e
  operated_left O.Div vs ss r h e = two_left O.Div vs ss r h e
  operated_left O.Rem vs ss r h e = two_left O.Rem vs ss r h e
  operated_left O.Less vs ss r h e = two_left O.Less vs ss r h e
  operated_left O.LessEq vs ss r h e = two_left O.LessEq vs ss r h e
  operated_left O.More vs ss r h e = two_left O.More vs ss r h e
  operated_left O.MoreEq vs ss r h e = two_left O.MoreEq vs ss r h e
  operated_left O.And vs ss r h e = two_left O.And vs ss r h e
  operated_left O.Or vs ss r h e = two_left O.Or vs ss r h e
