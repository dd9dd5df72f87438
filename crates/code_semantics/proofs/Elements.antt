-- Lists of values of which each has a property.
use Rattle.std.proofs.Common.{◌≡◌, refl, ap, ℕ, zero, suc, ◌+◌, ◌≤◌, ℤ, pos, negsuc, List, [], ◌∷◌, length, Bool, true, false, arith}
use Rattle.std.specs.Prelude.{slice_set, take, ◌+ℤ◌, ◌-ℤ◌, ◌*ℤ◌, neg_ℤ, int_lt, int_le, int_div, int_rem, not, ◌&&◌, ◌||◌, if◌then◌else◌}
use Rattle.run_types.specs.declared.types.Value.{Value}
use Rattle.run_types.specs.declared.types.Value.TheVariants as V
use Rattle.run_types.specs.declared.types.Op.{Op}
use Rattle.run_types.specs.declared.types.Op.TheVariants as O
use Rattle.run_types.specs.declared.types.Error.TheVariants.{Overflow}
use Rattle.run_types.specs.Values.{Gives, Fails, Outcome, number, quotient, remainder, is_in_range, is_same, on_ints, on_bools, negated, denied, prefix_value, infix_value, is_prefix}
use Rattle.run_types.specs.Operands.{top, below, dropped, taken, nth, padded}
use Rattle.code_semantics.specs.Kinds.{operated}
use Rattle.code_semantics.specs.Step.{outcome_value}
use Rattle.run_types.specs.Tables.{Each}
use Rattle.code_semantics.specs.MadeNumbers.{HoldsOfPlain, IsInRange}

-- lengths
length_below : (vs : List Value) (n : ℕ) → suc n ≤ length vs → n ≤ length (below vs)
length_below [] n h = absurd (omega (arith, h))
length_below (v ∷ vs) n h = omega (arith, h)

pub length_dropped : (n : ℕ) (vs : List Value) → n ≤ length vs → length (dropped n vs) + n ≡ length vs
length_dropped zero vs h = omega arith
length_dropped (suc n) [] h = absurd (omega (arith, h))
length_dropped (suc n) (v ∷ vs) h = let r = length_dropped n vs (omega (arith, h)) in omega (arith, r)

pub length_taken : (n : ℕ) (vs args : List Value) → length (taken n vs args) ≡ n + length args
length_taken zero vs args = omega arith
length_taken (suc n) vs args = let r = length_taken n (below vs) (top vs ∷ args) in omega (arith, r)

pub length_padded : (n : ℕ) (vs : List Value) → length (padded n vs) ≡ n
length_padded zero vs = refl
length_padded (suc n) vs = ap suc (length_padded n (below vs))

pub length_set : (vs : List Value) (n : ℕ) (v : Value) → length (slice_set vs n v) ≡ length vs
length_set [] n v = refl
length_set (x ∷ vs) zero v = refl
length_set (x ∷ vs) (suc n) v = ap suc (length_set vs n v)

module _ (P : Value → Type 0) where
  pub each_below : (vs : List Value) → Each P vs → Each P (below vs)
  each_below [] h = h
  each_below (v ∷ vs) h = h.1

  pub each_dropped : (n : ℕ) (vs : List Value) → Each P vs → Each P (dropped n vs)
  each_dropped zero vs h = h
  each_dropped (suc n) vs h = each_dropped n (below vs) (each_below vs h)

  pub each_take : (n : ℕ) (vs : List Value) → Each P vs → Each P (take n vs)
  each_take zero vs h = tt
  each_take (suc n) [] h = tt
  each_take (suc n) (v ∷ vs) h = (h.0, each_take n vs h.1)

  pub each_set : (vs : List Value) (n : ℕ) (v : Value) → P v → Each P vs → Each P (slice_set vs n v)
  each_set [] n v p h = tt
  each_set (x ∷ vs) zero v p h = (p, h.1)
  each_set (x ∷ vs) (suc n) v p h = (h.0, each_set vs n v p h.1)

  module _ (plain : HoldsOfPlain IsInRange P) where
    pub each_top : (vs : List Value) → Each P vs → P (top vs)
    each_top [] h = plain.2
    each_top (v ∷ vs) h = h.0

    pub each_nth : (vs : List Value) (n : ℕ) → Each P vs → P (nth vs n)
    each_nth [] n h = plain.2
    each_nth (v ∷ vs) zero h = h.0
    each_nth (v ∷ vs) (suc n) h = each_nth vs n h.1

    pub each_taken : (n : ℕ) (vs args : List Value) → Each P vs → Each P args → Each P (taken n vs args)
    each_taken zero vs args h a = a
    each_taken (suc n) vs args h a = each_taken n (below vs) (top vs ∷ args) (each_below vs h) (each_top vs h, a)

    pub each_padded : (n : ℕ) (vs : List Value) → Each P vs → Each P (padded n vs)
    each_padded zero vs h = tt
    each_padded (suc n) vs h = (each_top vs h, each_padded n (below vs) (each_below vs h))

    -- what an operator makes names nothing
    abbrev Names : Outcome → Type 0
    Names o = P (outcome_value o)

    if_names : (b : Bool) (x y : Outcome) → Names x → Names y → Names (if b then x else y)
    if_names true x y p q = p
    if_names false x y p q = q

    number_names : (z : ℤ) → Names (number z)
    number_names z = by (is_in_range z) refl
      where
        by : (b : Bool) → is_in_range z ≡ b → Names (if b then Gives (V.Int z) else Fails Overflow)
        by true e = plain.0 z e
        by false e = plain.2

    quotient_names : (x y : ℤ) → Names (quotient x y)
    quotient_names x (pos zero) = plain.2
    quotient_names x (pos (suc n)) = number_names (int_div x (pos (suc n)))
    quotient_names x (negsuc n) = number_names (int_div x (negsuc n))

    remainder_names : (x y : ℤ) → Names (remainder x y)
    remainder_names x (pos zero) = plain.2
    remainder_names x (pos (suc n)) = number_names (int_rem x (pos (suc n)))
    remainder_names x (negsuc n) = number_names (int_rem x (negsuc n))

    ints_name : (f : ℤ → ℤ → Outcome) → ((x y : ℤ) → Names (f x y)) → (a b : Value) → Names (on_ints f a b)
    ints_name f n V.Nil b = plain.2
    ints_name f n (V.Int x) V.Nil = plain.2
    ints_name f n (V.Bool x) V.Nil = plain.2
    ints_name f n (V.Ref x) V.Nil = plain.2
    ints_name f n (V.Int x) (V.Int y) = n x y
    ints_name f n _ _ = plain.2

    bools_name : (f : Bool → Bool → Bool) (a b : Value) → Names (on_bools f a b)
    bools_name f V.Nil b = plain.2
    bools_name f (V.Int x) V.Nil = plain.2
    bools_name f (V.Bool x) V.Nil = plain.2
    bools_name f (V.Ref x) V.Nil = plain.2
    bools_name f (V.Bool x) (V.Bool y) = plain.1 (f x y)
    bools_name f _ _ = plain.2

    infix_names : (op : Op) (a b : Value) → Names (infix_value op a b)
    infix_names O.Add a b = ints_name _ (λ x y. number_names (x +ℤ y)) a b
    infix_names O.Sub a b = ints_name _ (λ x y. number_names (x -ℤ y)) a b
    infix_names O.Mul a b = ints_name _ (λ x y. number_names (x *ℤ y)) a b
    infix_names O.Div a b = ints_name quotient quotient_names a b
    infix_names O.Rem a b = ints_name remainder remainder_names a b
    infix_names O.Less a b = ints_name _ (λ x y. plain.1 (int_lt x y)) a b
    infix_names O.LessEq a b = ints_name _ (λ x y. plain.1 (int_le x y)) a b
    infix_names O.More a b = ints_name _ (λ x y. plain.1 (int_lt y x)) a b
    infix_names O.MoreEq a b = ints_name _ (λ x y. plain.1 (int_le y x)) a b
    infix_names O.Same a b = plain.1 (is_same a b)
    infix_names O.Differs a b = plain.1 (not (is_same a b))
    infix_names O.And a b = bools_name ◌&&◌ a b
    infix_names O.Or a b = bools_name ◌||◌ a b
    infix_names O.Neg a b = plain.2
    infix_names O.Not a b = plain.2

    negated_names : (v : Value) → Names (negated v)
    negated_names (V.Int x) = number_names (neg_ℤ x)
    negated_names V.Nil = plain.2
    negated_names _ = plain.2

    denied_names : (v : Value) → Names (denied v)
    denied_names (V.Bool b) = plain.1 (not b)
    denied_names V.Nil = plain.2
    denied_names _ = plain.2

    prefix_names : (op : Op) (v : Value) → Names (prefix_value op v)
    prefix_names O.Neg v = negated_names v
    prefix_names O.Not v = denied_names v
    prefix_names _ v = plain.2

    pub operated_names : (op : Op) (vs : List Value) → P (outcome_value (operated op vs))
    operated_names op vs = if_names (is_prefix op) (prefix_value op (top vs)) (infix_value op (top (below vs)) (top vs)) (prefix_names op (top vs)) (infix_names op (top (below vs)) (top vs))
