-- The outcome of an operator, in the terms of `Values`, that an answer of the code represents.
use Rattle.std.specs.Prelude.{Bool, true, false}
use Rattle.run_types.specs.declared.types.Op.{Op}
use Rattle.run_types.specs.declared.types.Op.TheVariants as O
use Rattle.operators.specs.declared.operators.Answer.{Answer}
use Rattle.operators.specs.declared.operators.Answer.TheVariants as A
use Rattle.run_types.specs.Values.{Outcome, Gives, Fails, WrongSort}

-- the outcome that an answer of the code represents
abbrev pub outcome_of : Answer → Outcome
outcome_of (A.Gives v) = Gives v
outcome_of (A.Fails e) = Fails e
outcome_of A.WrongSort = WrongSort

-- whether the operator is `and` or `or`
abbrev pub is_logical : Op → Bool
is_logical O.And = true
is_logical O.Or = true
is_logical _ = false
