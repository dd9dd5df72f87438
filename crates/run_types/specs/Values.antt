-- The result of each operator on values of the language: a value, a run-time error, or a wrong sort.
use Rattle.std.specs.Prelude.{zero, suc, ◌-◌, ◌^◌, ◌==◌, ℤ, pos, negsuc, ◌+ℤ◌, ◌-ℤ◌, ◌*ℤ◌, neg_ℤ, int_lt, int_le, int_div, int_rem, Bool, true, false, not, ◌&&◌, ◌||◌, if◌then◌else◌}
use Rattle.run_types.specs.declared.types.Value.{Value}
use Rattle.run_types.specs.declared.types.Value.TheVariants as V
use Rattle.run_types.specs.declared.types.Op.{Op}
use Rattle.run_types.specs.declared.types.Op.TheVariants.{Add, Sub, Mul, Div, Rem, Neg, Less, LessEq, More, MoreEq, Same, Differs, And, Or, Not}
use Rattle.run_types.specs.declared.types.Error.{Error}
use Rattle.run_types.specs.declared.types.Error.TheVariants.{NilOperand, Overflow, ZeroDivisor}

-- the result of an operator: a value, a run-time error, or `WrongSort` if the operands are not of its sorts
pub data Outcome : Type 0 where
  Gives : (value : Value) → Outcome
  Fails : (error : Error) → Outcome
  WrongSort : Outcome

-- whether an integer is one of 64 bits
abbrev pub is_in_range : ℤ → Bool
is_in_range z = int_le (negsuc (2 ^ 63 - 1)) z && int_lt z (pos (2 ^ 63))

-- the integer if it has 64 bits, and an overflow otherwise
abbrev pub number : ℤ → Outcome
number z = if is_in_range z then Gives (V.Int z) else Fails Overflow

-- a truth value as an outcome
abbrev pub truth : Bool → Outcome
truth b = Gives (V.Bool b)

-- the quotient, truncated toward zero
abbrev pub quotient : ℤ → ℤ → Outcome
quotient x (pos zero) = Fails ZeroDivisor
quotient x (pos (suc n)) = number (int_div x (pos (suc n)))
quotient x (negsuc n) = number (int_div x (negsuc n))

-- the remainder of the quotient without bound, so that it is always in range
abbrev pub remainder : ℤ → ℤ → Outcome
remainder x (pos zero) = Fails ZeroDivisor
remainder x (pos (suc n)) = number (int_rem x (pos (suc n)))
remainder x (negsuc n) = number (int_rem x (negsuc n))

-- whether two integers are equal
abbrev pub is_same_int : ℤ → ℤ → Bool
is_same_int (pos a) (pos b) = a == b
is_same_int (negsuc a) (negsuc b) = a == b
is_same_int _ _ = false

-- whether two truth values are equal
abbrev pub is_same_bool : Bool → Bool → Bool
is_same_bool true b = b
is_same_bool false b = not b

-- whether two values are equal; values of two sorts are not
abbrev pub is_same : Value → Value → Bool
is_same (V.Int x) (V.Int y) = is_same_int x y
is_same (V.Bool a) (V.Bool b) = is_same_bool a b
is_same (V.Ref m) (V.Ref n) = m == n
is_same V.Nil V.Nil = true
is_same _ _ = false

-- an operator on two integers; a nil operand is an error
abbrev pub on_ints : (ℤ → ℤ → Outcome) → Value → Value → Outcome
on_ints f V.Nil b = Fails NilOperand
on_ints f a V.Nil = Fails NilOperand
on_ints f (V.Int x) (V.Int y) = f x y
on_ints f a b = WrongSort

-- an operator on two truth values; a nil operand is an error
abbrev pub on_bools : (Bool → Bool → Bool) → Value → Value → Outcome
on_bools f V.Nil b = Fails NilOperand
on_bools f a V.Nil = Fails NilOperand
on_bools f (V.Bool x) (V.Bool y) = truth (f x y)
on_bools f a b = WrongSort

-- the result of an infix operator on two values
abbrev pub infix_value : Op → Value → Value → Outcome
infix_value Add = on_ints (λ x y. number (x +ℤ y))
infix_value Sub = on_ints (λ x y. number (x -ℤ y))
infix_value Mul = on_ints (λ x y. number (x *ℤ y))
infix_value Div = on_ints quotient
infix_value Rem = on_ints remainder
infix_value Less = on_ints (λ x y. truth (int_lt x y))
infix_value LessEq = on_ints (λ x y. truth (int_le x y))
infix_value More = on_ints (λ x y. truth (int_lt y x))
infix_value MoreEq = on_ints (λ x y. truth (int_le y x))
infix_value Same = λ a b. truth (is_same a b)
infix_value Differs = λ a b. truth (not (is_same a b))
infix_value And = on_bools ◌&&◌
infix_value Or = on_bools ◌||◌
infix_value Neg = λ a b. WrongSort
infix_value Not = λ a b. WrongSort

-- prefix minus
abbrev pub negated : Value → Outcome
negated (V.Int x) = number (neg_ℤ x)
negated V.Nil = Fails NilOperand
negated _ = WrongSort

-- `not`
abbrev pub denied : Value → Outcome
denied (V.Bool b) = truth (not b)
denied V.Nil = Fails NilOperand
denied _ = WrongSort

-- the result of a prefix operator on a value
abbrev pub prefix_value : Op → Value → Outcome
prefix_value Neg = negated
prefix_value Not = denied
prefix_value _ = λ v. WrongSort

-- whether an operator is a prefix operator
abbrev pub is_prefix : Op → Bool
is_prefix Neg = true
is_prefix Not = true
is_prefix _ = false

-- whether a value is nil
abbrev pub is_nil : Value → Bool
is_nil V.Nil = true
is_nil _ = false

-- whether a value is a truth value
abbrev pub is_bool : Value → Bool
is_bool (V.Bool b) = true
is_bool _ = false

-- whether a value is no truth value
abbrev pub not_bool : Value → Bool
not_bool v = not (is_bool v)

-- whether a value is true
abbrev pub is_true : Value → Bool
is_true (V.Bool b) = b
is_true _ = false
