-- Operators on values of fitting sorts.
use Rattle.std.proofs.Common.{◌≡◌, refl, IsTrue, suc, zero, ℤ, pos, negsuc, ◌+ℤ◌, ◌-ℤ◌, ◌*ℤ◌, neg_ℤ, int_div, int_rem, int_lt, int_le, Bool, true, false, ◌&&◌, ◌||◌, if◌then◌else◌, arith}
use Rattle.run_types.specs.declared.types.Value.{Value}
use Rattle.run_types.specs.declared.types.Value.TheVariants as V
use Rattle.run_types.specs.declared.types.Op.{Op}
use Rattle.run_types.specs.declared.types.Op.TheVariants as O
use Rattle.run_types.specs.declared.types.Error.TheVariants as E
use Rattle.run_types.specs.Sorts.{Sort, IntSort, BoolSort, op_sort, operand_sort}
use Rattle.pool_syntax.specs.Typing.{Scope, value_sort, is_dangling}
use Rattle.run_types.specs.Values.{Outcome, Gives, Fails, WrongSort, is_in_range, number, truth, quotient, remainder, on_ints, on_bools, negated, denied, infix_value, prefix_value}
use Rattle.pool_syntax.specs.SourceParts.{is_prefix}
use Rattle.run_types.proofs.Laws.{first, second}
use Rattle.pool_relation.proofs.typing.TypedTerm.{fits_need, fit_operands, has_no_sort}

-- an outcome of this sort, or a language error
abbrev pub HasOutcome : Scope → Sort → Outcome → Type 0
HasOutcome g s (Gives v) = (is_dangling g v ≡ false) × (value_sort g v ≡ s)
HasOutcome g s (Fails e) = Unit {0}
HasOutcome g s WrongSort = ⊥

-- a number, a truth value, or nil
pub data IsInt (v : Value) : Type 0 where
  Number : (z : ℤ) → v ≡ V.Int z → IsInt v
  NoNumber : v ≡ V.Nil → IsInt v

pub data IsTruth (v : Value) : Type 0 where
  Truth : (b : Bool) → v ≡ V.Bool b → IsTruth v
  NoTruth : v ≡ V.Nil → IsTruth v

pub int_is : (g : Scope) (v : Value) → is_dangling g v ≡ false → IsTrue (fits_need (value_sort g v) IntSort) → IsInt v
unfolding fits_need has_no_sort
int_is g (V.Int z) d h = Number z refl
int_is g (V.Bool b) d h = absurd (grind (arith, h))
int_is g (V.Ref n) d h = absurd (grind (arith, d, h))
int_is g V.Nil d h = NoNumber refl

pub truth_is : (g : Scope) (v : Value) → is_dangling g v ≡ false → IsTrue (fits_need (value_sort g v) BoolSort) → IsTruth v
unfolding fits_need has_no_sort
truth_is g (V.Int z) d h = absurd (grind (arith, h))
truth_is g (V.Bool b) d h = Truth b refl
truth_is g (V.Ref n) d h = absurd (grind (arith, d, h))
truth_is g V.Nil d h = NoTruth refl

two_ints : (g : Scope) (v w : Value) → is_dangling g v ≡ false → is_dangling g w ≡ false
    → IsTrue (fits_need (value_sort g v) IntSort && fits_need (value_sort g w) IntSort) → IsInt v × IsInt w
two_ints g v w d e h =
    (int_is g v d (first _ (fits_need (value_sort g w) IntSort) h), int_is g w e (second (fits_need (value_sort g v) IntSort) _ h))

two_truths : (g : Scope) (v w : Value) → is_dangling g v ≡ false → is_dangling g w ≡ false
    → IsTrue (fits_need (value_sort g v) BoolSort && fits_need (value_sort g w) BoolSort) → IsTruth v × IsTruth w
two_truths g v w d e h =
    (truth_is g v d (first _ (fits_need (value_sort g w) BoolSort) h), truth_is g w e (second (fits_need (value_sort g v) BoolSort) _ h))

number_has : (g : Scope) (z : ℤ) → HasOutcome g IntSort (number z)
number_has g z = by (is_in_range z)
  where
    by : (b : Bool) → HasOutcome g IntSort (if b then Gives (V.Int z) else Fails E.Overflow)
    by true = (refl, refl)
    by false = tt

quotient_has : (g : Scope) (x y : ℤ) → HasOutcome g IntSort (quotient x y)
quotient_has g x (pos zero) = tt
quotient_has g x (pos (suc n)) = number_has g (int_div x (pos (suc n)))
quotient_has g x (negsuc n) = number_has g (int_div x (negsuc n))

remainder_has : (g : Scope) (x y : ℤ) → HasOutcome g IntSort (remainder x y)
remainder_has g x (pos zero) = tt
remainder_has g x (pos (suc n)) = number_has g (int_rem x (pos (suc n)))
remainder_has g x (negsuc n) = number_has g (int_rem x (negsuc n))

on_ints_has : (g : Scope) (s : Sort) (f : ℤ → ℤ → Outcome) (v w : Value) → ((x y : ℤ) → HasOutcome g s (f x y)) → IsInt v
    → IsInt w → HasOutcome g s (on_ints f v w)
on_ints_has g s f v w h (NoNumber e) b = rw e tt
on_ints_has g s f v w h (Number x e) (NoNumber i) = rw (e, i) tt
on_ints_has g s f v w h (Number x e) (Number y i) = rw (e, i) (h x y)

on_bools_has : (g : Scope) (f : Bool → Bool → Bool) (v w : Value) → IsTruth v → IsTruth w → HasOutcome g BoolSort (on_bools f v w)
on_bools_has g f v w (NoTruth e) b = rw e tt
on_bools_has g f v w (Truth x e) (NoTruth i) = rw (e, i) tt
on_bools_has g f v w (Truth x e) (Truth y i) = rw (e, i) (refl, refl)

pub infix_has : (g : Scope) (op : Op) (v w : Value) → is_prefix op ≡ false → is_dangling g v ≡ false → is_dangling g w ≡ false
    → IsTrue (fit_operands op (value_sort g v) (value_sort g w)) → HasOutcome g (op_sort op) (infix_value op v w)
unfolding fit_operands
infix_has g O.Add v w p d e h = on_ints_has g IntSort (λ x y. number (x +ℤ y)) v w (λ x y. number_has g (x +ℤ y)) (two_ints g v w d e h).0 (two_ints g v w d e h).1
infix_has g O.Sub v w p d e h = on_ints_has g IntSort (λ x y. number (x -ℤ y)) v w (λ x y. number_has g (x -ℤ y)) (two_ints g v w d e h).0 (two_ints g v w d e h).1
infix_has g O.Mul v w p d e h = on_ints_has g IntSort (λ x y. number (x *ℤ y)) v w (λ x y. number_has g (x *ℤ y)) (two_ints g v w d e h).0 (two_ints g v w d e h).1
infix_has g O.Div v w p d e h = on_ints_has g IntSort quotient v w (quotient_has g) (two_ints g v w d e h).0 (two_ints g v w d e h).1
infix_has g O.Rem v w p d e h = on_ints_has g IntSort remainder v w (remainder_has g) (two_ints g v w d e h).0 (two_ints g v w d e h).1
infix_has g O.Less v w p d e h = on_ints_has g BoolSort (λ x y. truth (int_lt x y)) v w (λ x y. (refl, refl)) (two_ints g v w d e h).0 (two_ints g v w d e h).1
infix_has g O.LessEq v w p d e h = on_ints_has g BoolSort (λ x y. truth (int_le x y)) v w (λ x y. (refl, refl)) (two_ints g v w d e h).0 (two_ints g v w d e h).1
infix_has g O.More v w p d e h = on_ints_has g BoolSort (λ x y. truth (int_lt y x)) v w (λ x y. (refl, refl)) (two_ints g v w d e h).0 (two_ints g v w d e h).1
infix_has g O.MoreEq v w p d e h = on_ints_has g BoolSort (λ x y. truth (int_le y x)) v w (λ x y. (refl, refl)) (two_ints g v w d e h).0 (two_ints g v w d e h).1
infix_has g O.Same v w p d e h = (refl, refl)
infix_has g O.Differs v w p d e h = (refl, refl)
infix_has g O.And v w p d e h = on_bools_has g ◌&&◌ v w (two_truths g v w d e h).0 (two_truths g v w d e h).1
infix_has g O.Or v w p d e h = on_bools_has g ◌||◌ v w (two_truths g v w d e h).0 (two_truths g v w d e h).1
infix_has g O.Neg v w p d e h = absurd (grind (arith, p))
infix_has g O.Not v w p d e h = absurd (grind (arith, p))

pub prefix_has : (g : Scope) (op : Op) (v : Value) → IsTrue (is_prefix op) → is_dangling g v ≡ false
    → IsTrue (fits_need (value_sort g v) (operand_sort op)) → HasOutcome g (op_sort op) (prefix_value op v)
prefix_has g O.Neg v p d h = by (int_is g v d h)
  where
    by : IsInt v → HasOutcome g IntSort (negated v)
    by (Number z e) = rw e (number_has g (neg_ℤ z))
    by (NoNumber e) = rw e tt
prefix_has g O.Not v p d h = by (truth_is g v d h)
  where
    by : IsTruth v → HasOutcome g BoolSort (denied v)
    by (Truth b e) = rw e (refl, refl)
    by (NoTruth e) = rw e tt
prefix_has g _ v p d h = absurd (grind (arith, p))
